use Rattle.std.proofs.Common.{◌≡◌, length, Some}
use Rattle.std.specs.List.{slice_get}
use Rattle.addr_base.specs.declared.ids.Guid.{Guid}
use Rattle.addr_walks.specs.Places.{EachAt}
use Rattle.addr_layout.specs.Graph.{AreRefRanks}
use Rattle.addr_layout.proofs.guids.refs_of.Given as goal

abbrev pub invariant-loop-n : goal.invariant-loop-n
invariant-loop-n l = record {
  as_many : length l.refs ≡ l.n-index;
  each : EachAt (λ r row. (g : Guid) → slice_get l.guids r ≡ Some g → AreRefRanks l.project l.guids g row) l.refs;
}
