use Rattle.std.proofs.Common.{◌≡◌, ◌++◌, map, take}
use Rattle.addr_update.specs.Placement.{kept_bundle}
use Rattle.addr_moving.proofs.moving.add_kept.Given as goal

abbrev pub invariant-loop-old : goal.invariant-loop-old
invariant-loop-old l = l.bundles.items ≡ l.fn.bundles.items ++ map kept_bundle (take l.old-index l.kept)
