-- The plain text of rows: which lines are written for them, and that these read back as rows that say the same.
use Rattle.std.specs.Prelude.{ℕ, nat_le, if◌then◌else◌, List, [], ◌∷◌, ◌++◌, Ok, map}
use Rattle.std.specs.List.{AllByRecursion, flat_map}
use Rattle.std.specs.Str.{IsUtf8}
use Rattle.addr_base.specs.declared.ids.KeyNo.{KeyNo}
use Rattle.addr_locate.specs.Alike.{Alike}
use Rattle.addr_locate.specs.PlainRows.{heading, bundle_line, asset_line, ReadsRows}
use Rattle.addr_locate.specs.Rows.{Rows, written}
use Rattle.addr_locate.specs.declared.rows.AssetRow.{AssetRow}
use Rattle.addr_locate.specs.declared.rows.PlainAsset.{PlainAsset}

-- keys in ascending order of their numbers with one more key, before the first whose number isn't smaller
abbrev pub put_in_order : KeyNo → List KeyNo → List KeyNo
put_in_order k [] = k ∷ []
put_in_order k (l ∷ ls) = if nat_le k.0 l.0 then k ∷ l ∷ ls else l ∷ put_in_order k ls

-- the keys in ascending order of their numbers
abbrev pub in_order : List KeyNo → List KeyNo
in_order [] = []
in_order (k ∷ ks) = put_in_order k (in_order ks)

-- the first key, which is the primary one, and then the others in ascending order of their numbers
abbrev pub primary_first : List KeyNo → List KeyNo
primary_first [] = []
primary_first (k ∷ ks) = k ∷ in_order ks

-- an asset row as it is written
abbrev pub plain_asset : Rows → AssetRow → PlainAsset
plain_asset r a = written r (record { id = a.id; kind = a.kind; deps = a.deps; keys = primary_first a.keys })

-- lines, each with its end (10)
abbrev pub ended : List (List ℕ) → List ℕ
ended lines = flat_map (λ line. line ++ 10 ∷ []) lines

-- the heading, then the lines of the bundles, then those of the assets
unfoldable pub plain_text : Rows → List ℕ
plain_text r = ended (heading ∷ map bundle_line r.bundles ++ map asset_line (map (plain_asset r) r.assets))

-- each text of the row is in UTF-8
pub record HasTexts (a : PlainAsset) : Type 0 where
  pub id : IsUtf8 a.id
  pub kind : IsUtf8 a.kind
  pub keys : AllByRecursion IsUtf8 a.keys

-- the text is read as rows, and these are alike
abbrev pub ReadsAlike : List ℕ → Rows → Type 0
ReadsAlike text rows = (r : Rows) × ReadsRows text (Ok r) × Alike rows r
