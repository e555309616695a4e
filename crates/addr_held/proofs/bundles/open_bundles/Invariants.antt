use Rattle.std.proofs.Common.{◌≡◌, length, take}
use Rattle.std.specs.Prelude.{IfSome}
use Rattle.std.specs.List.{AllZip}
use Rattle.addr_base.specs.Files.{SameStore}
use Rattle.addr_held.specs.Opening.{IsIntactAs}
use Rattle.addr_held.proofs.bundles.open_bundles.Given as goal

abbrev pub invariant-loop-bundle : goal.invariant-loop-bundle
invariant-loop-bundle g l = record {
  many : length l.cabs ≡ l.bundle-index;
  same : SameStore (g.D.Depot.now l.fn.depot) (g.D.Depot.now l.depot);
  count : (g.D.Depot.now l.depot).faults ≡ (g.D.Depot.now l.fn.depot).faults;
  opened : IfSome (g.D.Depot.now l.fn.depot).files (λ files. AllZip (IsIntactAs files l.folder) (take l.bundle-index l.bundles) l.cabs);
}
