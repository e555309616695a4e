use Rattle.std.proofs.Common.{◌≡◌, List, length}
use Rattle.addr_base.specs.declared.ids.Guid.{Guid}
use Rattle.addr_locate.specs.Rows.{Rows}
use Rattle.addr_pack.specs.declared.bundles.Plan.{Plan}
use Rattle.addr_project.specs.declared.model.Group.{Group}
use Rattle.addr_release.specs.Opened.{Opened}
use Rattle.addr_update.specs.Moved.{IsIn}
use Rattle.addr_walks.specs.Places.{EachAt}
use Rattle.addr_moves.specs.Fates.{comparing}
use Rattle.addr_moves.specs.Olds.{TellsOld}
use Rattle.addr_moves.proofs.olds.old_bundles.Given as goal

abbrev pub invariant-loop-x : goal.invariant-loop-x
invariant-loop-x l = record {
  many : length l.olds ≡ l.x;
  each : EachAt (λ x old. (a : Guid) (g : Group) (was : List Opened) (r : Rows) (now : Plan) → IsIn l.project x a g → TellsOld (comparing l.state was r l.project now) a old) l.olds;
}
