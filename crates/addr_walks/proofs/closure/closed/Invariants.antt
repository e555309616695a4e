use Rattle.std.proofs.Common.{◌≡◌, length}
use Rattle.addr_walks.specs.Closure.{IsDeps}
use Rattle.addr_walks.specs.Places.{EachAt}
use Rattle.addr_walks.specs.Rows.{Edge}
use Rattle.addr_walks.proofs.closure.closed.Given as goal

abbrev pub invariant-loop-b : goal.invariant-loop-b
invariant-loop-b l = record {
  size : l.search ≡ length l.direct;
  each_row : length l.all ≡ l.b;
  deps : EachAt (IsDeps (Edge l.direct)) l.all;
}
