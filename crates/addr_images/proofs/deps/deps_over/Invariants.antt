use Rattle.std.proofs.Common.{◌≡◌, ◌≤◌, ◌*◌, length}
use Rattle.addr_walks.specs.Closure.{IsDeps}
use Rattle.addr_walks.specs.Rows.{Edge}
use Rattle.addr_layout.proofs.CountLemmas.{TotalTo}
use Rattle.addr_images.proofs.deps.deps_over.Given as goal

abbrev pub invariant-loop-b : goal.invariant-loop-b
invariant-loop-b l = record {
  size : l.search ≡ length l.direct;
  total : TotalTo (IsDeps (Edge l.direct)) l.b l.total;
  few : l.total ≤ l.b * 2147483648;
}
