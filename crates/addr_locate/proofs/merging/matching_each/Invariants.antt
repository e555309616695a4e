use Rattle.std.proofs.Common.{◌≡◌, take, filter, slice_get, false}
use Rattle.std.specs.Option.{option_map_or}
use Rattle.addr_base.specs.declared.ids.RowNo.{RowNo}
use Rattle.addr_locate.specs.Postings.{has_each}
use Rattle.addr_locate.proofs.merging.matching_each.Given as goal

abbrev pub invariant-loop-row : goal.invariant-loop-row
invariant-loop-row l = l.found ≡ filter (λ (r : RowNo). option_map_or (has_each l.kind l.keys) (slice_get l.rows r.0) false) (take l.row-index l.listed)
