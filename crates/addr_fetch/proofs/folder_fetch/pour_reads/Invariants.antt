use Rattle.std.proofs.Common.{◌≡◌, ◌≤◌, ◌++◌, List, ℕ, length}
use Rattle.addr_fetch.proofs.folder_fetch.pour_reads.Given as goal

abbrev pub invariant-loop : goal.invariant-loop
invariant-loop g l = record {
  within : l.total ≤ l.limit;
  took : (fed : List ℕ) → g.P.Pour.took l.fn.into fed → (bytes : List ℕ) × g.P.Pour.took l.into (fed ++ bytes) × (length bytes ≡ l.total);
  fixed : g.P.Pour.fixed l.into ≡ g.P.Pour.fixed l.fn.into;
}
