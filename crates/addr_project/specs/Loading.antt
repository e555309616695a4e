-- Loading asset files one by one: what is kept of those so far, and what one more file makes of it.
use Rattle.std.specs.Prelude.{ℕ, ◌≡◌, ◌+◌, ◌++◌, ◌∷◌, [], List, length, Some, None}
use Rattle.std.specs.Option.{option_or}
use Rattle.addr_project.specs.declared.loaded.Loaded.{Loaded}
use Rattle.addr_project.specs.declared.rows.AssetRow.{AssetRow}
use Rattle.addr_project.specs.Reading.{asset_from, over_after}

-- one more file: the first fault stays, and as long as there is none the asset is kept
abbrev pub Adds : Loaded → AssetRow → List ℕ → Loaded → Type 0
Adds old row bytes new = (new.over ≡ option_or old.over (over_after old.total (length bytes)))
    × (new.over ≡ None → (new.assets ≡ old.assets ++ asset_from row (Some bytes) ∷ []) × (new.total ≡ old.total + length bytes))
