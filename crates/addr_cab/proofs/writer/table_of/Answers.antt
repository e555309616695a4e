use Rattle.addr_cab.specs.Outside.{outside_of}
use Rattle.addr_cab.specs.Spelling.{magic}
use Rattle.addr_cab.specs.Written.{refs_of}
use Rattle.addr_cab.proofs.NumberLaws.{own_homes, numbers}
use Rattle.addr_cab.proofs.WrittenLaws.{is_cab_table}
use Rattle.addr_cab.proofs.writer.table_of.Goals as goal

pub put_rows-requires-clause-numbers : goal.put_rows-requires-clause-numbers
put_rows-requires-clause-numbers c =
    rw c.requires.outside (numbers (λ o. o.refs) (outside_of (refs_of c.args.objects.now)) c.args.objects.now c.requires.can.few_outside (own_homes (λ o. o.refs) c.args.objects.now))

pub returns-clause-text : goal.returns-clause-text
unfolding magic
returns-clause-text c =
    is_cab_table c.args.objects.now c.args.names.names.now c.new-table.result.items c.extend_from_slice.new.self.items c.put_u32.new.out.items c.put_names.new.out.items c.put_u32-2.new.out.items c.put_rows.new.out.items
    c.requires.outside c.new-table.ensures.items c.in_ok-extend_from_slice.ensures.items c.in_ok-put_u32.ensures c.in_ok-put_names.ensures c.in_ok-put_u32-2.ensures c.in_ok-put_rows.ensures.rows
