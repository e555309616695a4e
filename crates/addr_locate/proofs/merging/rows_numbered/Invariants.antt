use Rattle.std.proofs.Common.{◌≡◌, take, map}
use Rattle.addr_locate.proofs.MergeLemmas.{row_no}
use Rattle.addr_locate.proofs.merging.rows_numbered.Given as goal

abbrev pub invariant-loop-number : goal.invariant-loop-number
invariant-loop-number l = l.rows ≡ map row_no (take l.number-index l.numbers)
