use Rattle.std.proofs.Common.{ℕ, ◌+◌, map, take}
use Rattle.std.specs.List.{AllByRecursion, AllZip}
use Rattle.toml.specs.View.{view}
use Rattle.addr_isolate.specs.Document.{KeepsRow}
use Rattle.addr_isolate.specs.Shallow.{IsShallow, IsShallowRow}
use Rattle.addr_isolate.proofs.document.kept_rows.Given as goal

abbrev pub invariant-loop-row : goal.invariant-loop-row
invariant-loop-row l = record {
  keeps : AllZip (KeepsRow (map (λ name. name.now) l.names)) (take l.row-index (map view l.rows)) (map view l.kept.items);
  shallow : (n : ℕ) → AllByRecursion (IsShallowRow n (map (λ name. name.now) l.names)) (take l.row-index (map view l.rows)) → AllByRecursion (IsShallow (n + 1)) (map view l.kept.items);
}
