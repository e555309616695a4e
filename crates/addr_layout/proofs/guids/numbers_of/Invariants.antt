use Rattle.std.proofs.Common.{◌≡◌, length, vec_len}
use Rattle.addr_layout.proofs.RankLemmas.{NumbersTo}
use Rattle.addr_layout.proofs.guids.numbers_of.Given as goal

abbrev pub invariant-loop-n : goal.invariant-loop-n
invariant-loop-n l = record {
  len : vec_len l.numbers ≡ length l.guids;
  numbers : NumbersTo l.project l.guids l.n l.numbers.items;
}
