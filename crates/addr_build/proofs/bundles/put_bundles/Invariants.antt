use Rattle.std.proofs.Common.{◌≡◌, ◌≤◌, length}
use Rattle.addr_base.specs.Files.{SameStore}
use Rattle.addr_release.specs.Built.{IsBundleOf}
use Rattle.addr_build.specs.within.Building.{AreLaid}
use Rattle.addr_build.proofs.bundles.put_bundles.Given as goal

abbrev pub invariant-loop-b : goal.invariant-loop-b
invariant-loop-b g l = record {
  laid : AreLaid (IsBundleOf l.project l.plan) l.folder (g.D.Depot.now l.fn.depot) (g.D.Depot.now l.depot) l.rows l.put;
  as_many : length l.rows ≡ l.b;
  few : l.put ≤ l.b;
  still : l.put ≡ 0 → SameStore (g.D.Depot.now l.fn.depot) (g.D.Depot.now l.depot);
  faults : (g.D.Depot.now l.depot).faults ≡ (g.D.Depot.now l.fn.depot).faults;
}
