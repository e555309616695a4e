use Rattle.std.proofs.Common.{sym, subst}
use Rattle.addr_cab.specs.Outside.{outside_of, AreOutside}
use Rattle.addr_cab.proofs.HoldLaws.{one_cab, no_fault}
use Rattle.addr_cab.proofs.ObjectLaws.{text_is_read}
use Rattle.addr_cab.proofs.OutsideLaws.{are_outside, one_list}
use Rattle.addr_cab.proofs.SizeLaws.{table_len, content_len, sizes_are, table_text, data_text, paths_differ, nodes_can}
use Rattle.addr_cab.proofs.laws.table_laws.Goals as goal

pub returns-clause-read : goal.returns-clause-read
returns-clause-read c = text_is_read

pub returns-clause-one : goal.returns-clause-one
returns-clause-one c = one_cab

pub returns-clause-never : goal.returns-clause-never
returns-clause-never c = no_fault

pub returns-clause-outside : goal.returns-clause-outside
returns-clause-outside c = λ refs names. (λ are. one_list refs names (outside_of refs) are (are_outside refs), λ same. subst (AreOutside refs) (sym same) (are_outside refs))

pub returns-clause-size : goal.returns-clause-size
returns-clause-size c = λ objects typed. (table_len objects typed, content_len objects)

pub returns-clause-nodes : goal.returns-clause-nodes
returns-clause-nodes c = sizes_are

pub returns-clause-paths : goal.returns-clause-paths
returns-clause-paths c = λ name sixteen. (table_text name sixteen, data_text name sixteen, paths_differ name)

pub returns-clause-can : goal.returns-clause-can
returns-clause-can c = nodes_can
