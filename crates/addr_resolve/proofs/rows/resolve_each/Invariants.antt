use Rattle.std.proofs.Common.{List, map, take}
use Rattle.std.specs.List.{AllZip}
use Rattle.addr_locate.specs.declared.rows.AssetRow.{AssetRow}
use Rattle.addr_release.specs.Opened.{Opened}
use Rattle.addr_release.specs.Resolve.{ResolvesRow}
use Rattle.addr_resolve.specs.Resolving.{row_view}
use Rattle.addr_resolve.specs.within.Steps.{AreNumbersOf, IsGraphOf, IsUsable}
use Rattle.addr_resolve.proofs.rows.resolve_each.Given as goal

abbrev pub invariant-loop-n : goal.invariant-loop-n
invariant-loop-n l = record {
  usable : IsUsable l.graph l.search l.cabs;
  sofar : (files : List Opened) (rows : List AssetRow) → IsGraphOf files l.graph l.cabs → AreNumbersOf l.locator rows l.numbers
      → AllZip (ResolvesRow l.locator files) (take l.n-index rows) (map row_view l.shown);
}
