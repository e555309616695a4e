-- The fields of a row's line, one after the other, and the lists that two of them hold. Each has one spelling.
use Rattle.std.specs.Prelude.{ℕ, ◌≡◌, ◌≢◌, ◌<◌, ◌^◌, List, [], ◌∷◌, ◌++◌, Option, Some, None, IsTrue, map, decimal}
use Rattle.std.specs.List.{AllByRecursion, join_with_byte}
use Rattle.std.specs.Str.{IsUtf8}
use Rattle.addr_base.specs.Ids.{Are16Bytes, hex_of}
use Rattle.addr_base.specs.Tokens.{token_of}
use Rattle.addr_base.specs.declared.ids.BundleNo.{BundleNo}
use Rattle.addr_base.specs.declared.ids.Digest.{Digest}
use Rattle.addr_locate.specs.PlainRows.{IsAssetRow, IsBundleRow, asset_line, bundle_line, deps_field, keys_field}
use Rattle.addr_locate.specs.Rows.{has_sound_deps, no_text_twice}
use Rattle.addr_locate.specs.declared.rows.BundleRow.{BundleRow}
use Rattle.addr_locate.specs.declared.rows.PlainAsset.{PlainAsset}

-- the text is a token, a number below 2 to the 64th, or the digits of a digest; then a space, and the rest
abbrev pub IsTokenThen : List ℕ → List ℕ → List ℕ → Type 0
IsTokenThen text t rest = IsUtf8 t × (text ≡ token_of t ++ 32 ∷ rest)

abbrev pub IsSizeThen : List ℕ → ℕ → List ℕ → Type 0
IsSizeThen text n rest = (n < 2 ^ 64) × (text ≡ decimal n ++ 32 ∷ rest)

abbrev pub IsDigestThen : List ℕ → Digest → List ℕ → Type 0
IsDigestThen text digest rest = Are16Bytes digest.0 × (text ≡ hex_of digest.0 ++ 32 ∷ rest)

-- a bundle number that a row can have
abbrev pub IsSmall : BundleNo → Type 0
IsSmall b = b.0 < 2 ^ 32

-- the field is a list of one bundle number or more, or of one key or more
abbrev pub AreNumbers : List ℕ → List BundleNo → Type 0
AreNumbers field deps = (deps ≢ []) × AllByRecursion IsSmall deps × (field ≡ deps_field deps)

abbrev pub AreTokens : List ℕ → List (List ℕ) → Type 0
AreTokens field keys = (keys ≢ []) × AllByRecursion IsUtf8 keys × (field ≡ join_with_byte 44 (map token_of keys))

-- what the field of the dependencies, where there are so many bundles, and that of the keys are read as
abbrev pub ReadsDeps : ℕ → List ℕ → Option (List BundleNo) → Type 0
ReadsDeps count field (Some deps) = IsTrue (has_sound_deps count deps) × (field ≡ deps_field deps)
ReadsDeps count field None = (deps : List BundleNo) → IsTrue (has_sound_deps count deps) → field ≡ deps_field deps → ⊥

abbrev pub ReadsKeys : List ℕ → Option (List (List ℕ)) → Type 0
ReadsKeys field (Some keys) = AllByRecursion IsUtf8 keys × IsTrue (no_text_twice keys) × (field ≡ keys_field keys)
ReadsKeys field None = (keys : List (List ℕ)) → AllByRecursion IsUtf8 keys → IsTrue (no_text_twice keys) → field ≡ keys_field keys → ⊥

-- what a line is read as: the bundle that it spells, or the asset where there are so many bundles
abbrev pub ReadsBundle : List ℕ → Option BundleRow → Type 0
ReadsBundle line (Some b) = IsBundleRow b × (line ≡ bundle_line b)
ReadsBundle line None = (b : BundleRow) → IsBundleRow b → line ≡ bundle_line b → ⊥

abbrev pub ReadsAsset : ℕ → List ℕ → Option PlainAsset → Type 0
ReadsAsset count line (Some a) = IsAssetRow count a × (line ≡ asset_line a)
ReadsAsset count line None = (a : PlainAsset) → IsAssetRow count a → line ≡ asset_line a → ⊥
