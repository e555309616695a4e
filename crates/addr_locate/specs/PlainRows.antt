-- Plain rows: a file of lines, first its heading, then one line a bundle, then one line an asset. One space (32) parts the
-- fields of a line, and a comma (44) the parts of a field.
use Rattle.std.specs.Prelude.{ℕ, ◌≡◌, ◌<◌, ◌-◌, ◌^◌, List, [], ◌∷◌, ◌++◌, ◌⊎◌, Result, Ok, Err, map, length, take, IsTrue, codes, decimal}
use Rattle.std.specs.List.{AllByRecursion, join_with_byte}
use Rattle.std.specs.Str.{IsUtf8}
use Rattle.addr_base.specs.Ids.{Are16Bytes, hex_of}
use Rattle.addr_base.specs.Tokens.{token_of}
use Rattle.addr_base.specs.declared.ids.BundleNo.{BundleNo}
use Rattle.addr_fields.specs.Lines.{lines_of}
use Rattle.addr_locate.specs.Rows.{Rows, rows_of, has_sound_deps, no_text_twice}
use Rattle.addr_locate.specs.declared.error.RowsErr.{RowsErr}
use Rattle.addr_locate.specs.declared.error.RowsErr.TheVariants.{Line, NoMemory}
use Rattle.addr_locate.specs.declared.rows.BundleRow.{BundleRow}
use Rattle.addr_locate.specs.declared.rows.PlainAsset.{PlainAsset}

-- the numbers of the bundles
abbrev pub deps_field : List BundleNo → List ℕ
deps_field deps = join_with_byte 44 (map (λ b. decimal b.0) deps)

-- the tokens of the keys, or the mark of none
abbrev pub keys_field : List (List ℕ) → List ℕ
keys_field [] = codes "%-"
keys_field (key ∷ keys) = join_with_byte 44 (map token_of (key ∷ keys))

abbrev pub heading : List ℕ
heading = codes "addr-rows 1"

abbrev pub bundle_line : BundleRow → List ℕ
bundle_line b = codes "bundle " ++ (token_of b.key ++ 32 ∷ (decimal b.size ++ 32 ∷ (hex_of b.digest.0 ++ 32 ∷ (token_of b.name ++ 32 ∷ token_of b.id))))

abbrev pub asset_line : PlainAsset → List ℕ
asset_line a = codes "asset " ++ (token_of a.id ++ 32 ∷ (token_of a.kind ++ 32 ∷ (deps_field a.deps ++ 32 ∷ keys_field a.keys)))

-- what a bundle row holds
pub record IsBundleRow (b : BundleRow) : Type 0 where
  pub key : IsUtf8 b.key
  pub size : b.size < 2 ^ 64
  pub digest : Are16Bytes b.digest.0
  pub name : IsUtf8 b.name
  pub id : IsUtf8 b.id

-- what an asset row holds where there are so many bundles
pub record IsAssetRow (count : ℕ) (a : PlainAsset) : Type 0 where
  pub id : IsUtf8 a.id
  pub kind : IsUtf8 a.kind
  pub deps : IsTrue (has_sound_deps count a.deps)
  pub keys : AllByRecursion IsUtf8 a.keys
  pub once : IsTrue (no_text_twice a.keys)

-- the lines are the heading, those of the bundles, and those of the assets
pub record PlainLines (lines : List (List ℕ)) (bundles : List BundleRow) (assets : List PlainAsset) : Type 0 where
  pub spelled : lines ≡ heading ∷ map bundle_line bundles ++ map asset_line assets
  pub each_bundle : AllByRecursion IsBundleRow bundles
  pub each_asset : AllByRecursion (IsAssetRow (length bundles)) assets

-- the lines are in the form
abbrev pub ArePlain : List (List ℕ) → Type 0
ArePlain lines = (bundles : List BundleRow) × (assets : List PlainAsset) × PlainLines lines bundles assets

-- whatever rows the lines spell, they are the same
abbrev pub SpellOneList : List (List ℕ) → Type 0
SpellOneList lines =
    (bundles theirs : List BundleRow) (assets others : List PlainAsset) → PlainLines lines bundles assets → PlainLines lines theirs others → (bundles ≡ theirs) × (assets ≡ others)

-- line n, from 1, is the first bad one: the lines before it are in the form, or there are none, and with it they aren't
pub record IsFirstBad (lines : List (List ℕ)) (n : ℕ) : Type 0 where
  pub before : (n ≡ 1) ⊎ ArePlain (take (n - 1) lines)
  pub bad : ArePlain (take n lines) → ⊥

-- what bytes are read as
abbrev pub ReadsRows : List ℕ → Result Rows RowsErr → Type 0
ReadsRows bytes (Ok rows) = (bundles : List BundleRow) × (assets : List PlainAsset) × PlainLines (lines_of bytes) bundles assets × (rows ≡ rows_of bundles assets)
ReadsRows bytes (Err (Line n)) = IsFirstBad (lines_of bytes) n
ReadsRows bytes (Err NoMemory) = Unit {0}
