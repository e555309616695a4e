use Rattle.std.proofs.Common.{◌≡◌, take, vec_len}
use Rattle.addr_analyze.specs.Counting.{IsCounted}
use Rattle.addr_analyze.proofs.counting.count_all.Given as goal

abbrev pub invariant-loop-n : goal.invariant-loop-n
invariant-loop-n l = record {
  len : vec_len l.counts ≡ vec_len l.fn.counts;
  counted : IsCounted l.fn.counts.items (take l.n-index l.members) l.counts.items;
}
