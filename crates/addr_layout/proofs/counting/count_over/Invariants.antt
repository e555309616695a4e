use Rattle.std.proofs.Common.{◌≡◌, ◌≤◌, ◌*◌, length}
use Rattle.addr_walks.specs.Closure.{IsDeps}
use Rattle.addr_layout.specs.Needs.{Needs}
use Rattle.addr_layout.proofs.CountLemmas.{TotalTo}
use Rattle.addr_layout.proofs.counting.count_over.Given as goal

abbrev pub invariant-loop-b : goal.invariant-loop-b
invariant-loop-b l = record {
  size : l.search ≡ length l.rows;
  total : TotalTo (IsDeps (Needs l.project l.plan)) l.b l.total;
  few : l.total ≤ l.b * 2147483648;
}
