use Rattle.std.proofs.Common.{◌≡◌, ◌≤◌, length}
use Rattle.addr_build.specs.within.Building.{AreLaid}
use Rattle.addr_check.specs.Comparing.{update_of}
use Rattle.addr_patch.specs.within.Putting.{IsPutBundle}
use Rattle.addr_patch.proofs.putting.put_bundles.Given as goal

abbrev pub invariant-loop-b : goal.invariant-loop-b
invariant-loop-b g l = record {
  laid : AreLaid (IsPutBundle (update_of l.compared) l.prepared.plan l.folder (g.D.Depot.now l.fn.depot)) l.folder (g.D.Depot.now l.fn.depot) (g.D.Depot.now l.depot) l.rows l.put;
  as_many : length l.rows ≡ l.b;
  few : l.put ≤ l.b;
  faults : (g.D.Depot.now l.depot).faults ≡ (g.D.Depot.now l.fn.depot).faults;
}
