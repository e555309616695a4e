use Rattle.std.proofs.Common.{◌≡◌, length, take}
use Rattle.std.specs.Prelude.{IfSome}
use Rattle.std.specs.List.{AllZip}
use Rattle.addr_base.specs.Files.{SameStore}
use Rattle.addr_resolve.specs.Opening.{IsOpenedAs}
use Rattle.addr_resolve.proofs.opening.open_all.Given as goal

abbrev pub invariant-loop-row : goal.invariant-loop-row
invariant-loop-row g l = record {
  many : length l.cabs.items ≡ l.row-index;
  same : SameStore (g.D.Depot.now l.fn.depot) (g.D.Depot.now l.depot);
  count : (g.D.Depot.now l.depot).faults ≡ (g.D.Depot.now l.fn.depot).faults;
  opened : IfSome (g.D.Depot.now l.fn.depot).files (λ files. AllZip (IsOpenedAs files l.folder) (take l.row-index l.rows) l.cabs.items);
}
