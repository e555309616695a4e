use Rattle.std.proofs.Common.{◌≡◌, take, filter}
use Rattle.addr_locate.specs.Postings.{is_kind_at}
use Rattle.addr_locate.proofs.merging.matching.Given as goal

abbrev pub invariant-loop-row : goal.invariant-loop-row
invariant-loop-row l = l.found ≡ filter (is_kind_at l.kind l.rows) (take l.row-index l.listed)
