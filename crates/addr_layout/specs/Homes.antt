-- Homes from bundles: where a reference leads by the bundle of what it leads to.
use Rattle.std.specs.Prelude.{ℕ, ◌==◌, List, Option, Some, None, slice_index_or, if◌then◌else◌}
use Rattle.std.specs.List.{Contains, filter_map}
use Rattle.addr_layout.specs.declared.model.RefHome.{RefHome}
use Rattle.addr_layout.specs.declared.model.RefHome.TheVariants.{Own, Bundle}

-- where a reference leads from bundle b to an asset with that bundle
abbrev pub home_from : ℕ → Option ℕ → RefHome
home_from b None = Own
home_from b (Some c) = if c == b then Own else Bundle c

-- the same, to the asset at a rank
abbrev pub home_at : ℕ → List (Option ℕ) → ℕ → RefHome
home_at b bundles r = home_from b (slice_index_or bundles r None)

-- the bundle that a home names
abbrev pub bundle_named : RefHome → Option ℕ
bundle_named Own = None
bundle_named (Bundle c) = Some c

-- the bundles that some homes name
abbrev pub bundles_named : List RefHome → List ℕ
bundles_named homes = filter_map bundle_named homes

-- some row of homes names the bundle
abbrev pub IsNamedIn : List (List RefHome) → ℕ → Type 0
IsNamedIn rows c = (row : List RefHome) × Contains rows row × Contains row (Bundle c)
