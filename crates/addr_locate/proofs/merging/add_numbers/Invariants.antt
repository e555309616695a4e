use Rattle.std.proofs.Common.{◌≡◌, ◌++◌, take, filter, map}
use Rattle.addr_base.specs.declared.ids.RowNo.{RowNo}
use Rattle.addr_locate.specs.Postings.{is_kind_at}
use Rattle.addr_locate.proofs.merging.add_numbers.Given as goal

abbrev pub invariant-loop-row : goal.invariant-loop-row
invariant-loop-row l = l.numbers.items ≡ l.initial.numbers.items ++ map (λ (r : RowNo). r.0) (filter (is_kind_at l.kind l.rows) (take l.row-index l.listed))
