-- Rows whose bundles' ids were evaluated: the names in braces in them have the values of variables.
use Rattle.std.specs.Prelude.{List, map}
use Rattle.addr_base.specs.Braces.{braced}
use Rattle.addr_base.specs.declared.var.Var.{Var}
use Rattle.addr_locate.specs.Rows.{Rows}
use Rattle.addr_locate.specs.declared.rows.BundleRow.{BundleRow}

-- a bundle row with its id evaluated; all else is as it was
abbrev pub evaluated_bundle : List Var → BundleRow → BundleRow
evaluated_bundle vars b = record b { id = braced vars b.id }

-- the rows with the id of each bundle evaluated; all else is as it was
abbrev pub evaluated : List Var → Rows → Rows
evaluated vars r = record r { bundles = map (evaluated_bundle vars) r.bundles }
