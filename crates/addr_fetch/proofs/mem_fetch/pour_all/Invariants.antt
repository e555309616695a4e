use Rattle.std.proofs.Common.{◌≡◌, ◌≤◌, ◌-◌, ◌++◌, List, ℕ, length, take}
use Rattle.addr_fetch.proofs.mem_fetch.pour_all.Given as goal

abbrev pub invariant-loop-at : goal.invariant-loop-at
invariant-loop-at g l = record {
  within : l.at ≤ length l.bytes;
  took : (fed : List ℕ) → g.P.Pour.took l.fn.into fed → g.P.Pour.took l.into (fed ++ take l.at l.bytes);
  fixed : g.P.Pour.fixed l.into ≡ g.P.Pour.fixed l.fn.into;
}

abbrev pub decreases-loop-at : goal.decreases-loop-at
decreases-loop-at g l = length l.bytes - l.at
