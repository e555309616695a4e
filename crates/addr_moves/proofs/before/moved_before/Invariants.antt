use Rattle.std.proofs.Common.{◌≡◌, ◌↔◌, IsTrue, List, length}
use Rattle.addr_base.specs.declared.ids.Guid.{Guid}
use Rattle.addr_layout.specs.Members.{IsEntryOf}
use Rattle.addr_pack.specs.declared.bundles.Plan.{Plan}
use Rattle.addr_release.specs.Opened.{Opened}
use Rattle.addr_state.specs.declared.model.State.{State}
use Rattle.addr_update.specs.Moved.{MovedBefore}
use Rattle.addr_walks.specs.Places.{EachAt}
use Rattle.addr_moves.specs.Fates.{comparing}
use Rattle.addr_moves.proofs.before.moved_before.Given as goal

abbrev pub invariant-loop-x : goal.invariant-loop-x
invariant-loop-x l = record {
  many : length l.before ≡ l.x;
  each : EachAt (λ x is. (a : Guid) (s : State) (was : List Opened) (now : Plan) → IsEntryOf l.project x a → IsTrue is ↔ MovedBefore (comparing s was l.locator l.project now) a) l.before;
}
