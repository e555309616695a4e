-- The internal names of bundles with some numbers, as a table lists them.
use Rattle.std.specs.Prelude.{ℕ, List, []}
use Rattle.std.specs.List.{fold}
use Rattle.addr_base.specs.declared.ids.Digest.{Digest}
use Rattle.addr_cab.specs.Outside.{with_home}
use Rattle.addr_layout.specs.declared.model.RefHome.TheVariants.{Bundle}
use Rattle.addr_pack.specs.declared.bundles.Plan.{Plan}
use Rattle.addr_images.specs.within.Told.{home_told}

-- each internal name once, ascending
unfoldable pub names_told : Plan → List ℕ → List Digest
names_told plan direct = fold (λ found c. with_home found (home_told plan (Bundle c))) [] direct
