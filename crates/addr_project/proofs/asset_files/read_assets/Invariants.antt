use Rattle.std.proofs.Common.{◌≡◌, ◌≤◌, None, Some}
use Rattle.addr_base.specs.Files.{SameStore}
use Rattle.addr_project.specs.declared.error.ProjectErr.TheVariants.{DepotFault}
use Rattle.addr_project.specs.declared.limit.Limit.TheVariants as limit
use Rattle.addr_project.specs.Limits.{most}
use Rattle.std.specs.Prelude.{IfSome}
use Rattle.addr_project.proofs.LoadLemmas.{Told, Anyhow}
use Rattle.addr_project.proofs.SeenLemmas.{AreThere}
use Rattle.addr_project.proofs.asset_files.read_assets.Given as goal

abbrev pub invariant-loop-i : goal.invariant-loop-i
invariant-loop-i g l = record {
  same : SameStore (g.D.Depot.now l.fn.depot) (g.D.Depot.now l.depot);
  faults : (g.D.Depot.now l.depot).faults ≡ (g.D.Depot.now l.fn.depot).faults;
  small : l.loaded.total ≤ most limit.AllBytes;
  never : l.loaded.over ≡ Some DepotFault → ⊥;
  told : IfSome ((g.D.Depot.now l.fn.depot).files) (λ files. Told files l.folder l.rows l.i l.loaded);
  seen : IfSome ((g.D.Depot.now l.fn.depot).files) (λ files. AreThere files l.folder l.seen.keys);
  any : l.loaded.over ≡ None → Anyhow l.rows l.i l.loaded;
}
