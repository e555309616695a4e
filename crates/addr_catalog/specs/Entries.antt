-- Entries of a catalogue: which are bundles and which assets, by their providers, and the row that each stands for.
use Rattle.std.specs.Prelude.{codes, ℕ, ◌==◌, ◌+◌, not, List, [], ◌∷◌, ◌++◌, map, filter, if◌then◌else◌, Option, Some, None, unwrap_or, option_and_then, Result, Ok, Err, slice_get}
use Rattle.std.specs.List.{filter_map}
use Rattle.std.specs.Option.{option_or}
use Rattle.std.specs.Str.{bytes_eq}
use Rattle.addr_base.specs.declared.ids.BundleNo.{BundleNo}
use Rattle.addr_catalog_json.specs.Options.{options_read}
use Rattle.addr_catalog_json.specs.declared.document.Lists.{Lists}
use Rattle.addr_catalog_json.specs.declared.options.BundleOptions.{BundleOptions}
use Rattle.addr_keys.specs.declared.key.Key.{Key}
use Rattle.addr_keys.specs.declared.key.Key.TheVariants.{Text, Json}
use Rattle.addr_locate.specs.Merge.{distinct}
use Rattle.addr_locate.specs.Rows.{text_at}
use Rattle.addr_locate.specs.declared.rows.BundleRow.{BundleRow}
use Rattle.addr_locate.specs.declared.rows.PlainAsset.{PlainAsset}
use Rattle.addr_tables.specs.declared.rows.EntryRow.{EntryRow}
use Rattle.addr_tables.specs.declared.rows.Rows.{Rows}
use Rattle.addr_catalog.specs.declared.error.CatErr.{CatErr}
use Rattle.addr_catalog.specs.declared.error.CatErr.TheVariants as faults
use Rattle.addr_catalog.specs.declared.roles.Role.{Role}
use Rattle.addr_catalog.specs.declared.roles.Role.TheVariants.{Bundle, Asset}
use Rattle.addr_catalog.specs.InternalIds.{whole_id}
use Rattle.addr_catalog.specs.Inverted.{is_among, lists_with}

-- ---- what an entry is

abbrev pub bundle_provider : List ℕ
bundle_provider = codes "UnityEngine.ResourceManagement.ResourceProviders.AssetBundleProvider"

abbrev pub asset_provider : List ℕ
asset_provider = codes "UnityEngine.ResourceManagement.ResourceProviders.BundledAssetProvider"

-- what an entry with the provider is
unfoldable pub role_of : List ℕ → Option Role
role_of id = if bytes_eq id bundle_provider then Some Bundle else if bytes_eq id asset_provider then Some Asset else None

-- the options in extra data: those of the text of a Json key
unfoldable pub options_of : Option Key → Option BundleOptions
options_of (Some (Json assembly class text)) = options_read text
options_of _ = None

-- ---- the keys of an entry

-- the text of a key, if it is one
abbrev pub text_of : Key → Option (List ℕ)
text_of (Text text) = Some text
text_of _ = None

-- the text of the key with that number, if it is a Text
abbrev pub key_text_at : List Key → ℕ → Option (List ℕ)
key_text_at keys k = option_and_then text_of (slice_get keys k)

-- the numbers of the keys whose buckets hold the entry, in the order of the table
abbrev pub keys_holding : Rows → ℕ → List ℕ
keys_holding rows entry = lists_with rows.buckets entry

-- a number first, where it is among the numbers, and then the others
unfoldable pub with_first : ℕ → List ℕ → List ℕ
with_first n ns = (if is_among ns n then n ∷ [] else []) ++ filter (λ m. not (m == n)) ns

-- the texts of an asset's keys, of which these are the numbers: its primary key first, where that is among them
unfoldable pub asset_keys : List Key → ℕ → List ℕ → List (List ℕ)
asset_keys keys primary numbers = filter_map (key_text_at keys) (with_first primary numbers)

-- the key of a bundle: its primary key where that is a Text, or else the first Text among its keys, or else the empty text
unfoldable pub bundle_key : List Key → ℕ → List ℕ → List ℕ
bundle_key keys primary numbers = unwrap_or (option_or (key_text_at keys primary) (slice_get (filter_map (key_text_at keys) numbers) 0)) []

-- ---- the rows

-- the row of a bundle with a key and options
unfoldable pub bundle_row : Lists → EntryRow → List ℕ → BundleOptions → BundleRow
bundle_row lists e key options = record {
  key = key;
  size = options.size;
  digest = options.digest;
  name = options.name;
  id = whole_id lists.prefixes (text_at lists.internals e.internal);
}

abbrev pub row_or_fault : Lists → Rows → ℕ → EntryRow → Option BundleOptions → Result (Option BundleRow) CatErr
row_or_fault lists rows place e (Some options) = Ok (Some (bundle_row lists e (bundle_key rows.keys e.primary (keys_holding rows place)) options))
row_or_fault lists rows place e None = Err (faults.Options place)

abbrev pub row_in_role : Lists → Rows → ℕ → EntryRow → Option Role → Result (Option BundleRow) CatErr
row_in_role lists rows place e (Some Bundle) = row_or_fault lists rows place e (options_of e.extra)
row_in_role lists rows place e (Some Asset) = Ok None
row_in_role lists rows place e None = Err (faults.Provider place)

-- the bundle row that an entry stands for, and none where it is an asset
unfoldable pub bundle_read : Lists → Rows → ℕ → EntryRow → Result (Option BundleRow) CatErr
bundle_read lists rows place e = row_in_role lists rows place e (role_of (text_at lists.providers e.provider))

-- the number of each entry among the bundles, of which so many stand before
unfoldable pub numbers_from : ℕ → List (Option BundleRow) → List (Option BundleNo)
numbers_from n [] = []
numbers_from n (Some row ∷ rows) = Some (record { 0 = n }) ∷ numbers_from (n + 1) rows
numbers_from n (None ∷ rows) = None ∷ numbers_from n rows

-- the number of an entry among the bundles, if it is one
abbrev pub number_at : List (Option BundleNo) → ℕ → Option BundleNo
number_at numbers entry = option_and_then (λ n. n) (slice_get numbers entry)

-- the bundles among some entries, in their order, each once
unfoldable pub bundles_among : List (Option BundleNo) → List ℕ → List BundleNo
bundles_among numbers entries = distinct (filter_map (number_at numbers) entries)

-- the bundles of each bucket
abbrev pub bundle_lists : Rows → List (Option BundleNo) → List (List BundleNo)
bundle_lists rows numbers = map (bundles_among numbers) rows.buckets

-- the bundles of the bucket of a dependency key
abbrev pub dependencies : List (List BundleNo) → Option ℕ → List BundleNo
dependencies lists None = []
dependencies lists (Some k) = unwrap_or (slice_get lists k) []

-- the row of an asset with dependencies and keys
unfoldable pub asset_row : Lists → EntryRow → List BundleNo → List (List ℕ) → PlainAsset
asset_row lists e deps keys = record {
  id = whole_id lists.prefixes (text_at lists.internals e.internal);
  kind = text_at lists.kinds e.kind;
  deps = deps;
  keys = keys;
}

abbrev pub asset_with : Lists → Rows → ℕ → EntryRow → List BundleNo → Result (Option PlainAsset) CatErr
asset_with lists rows place e [] = Err (faults.Depends place)
asset_with lists rows place e (d ∷ ds) = Ok (Some (asset_row lists e (d ∷ ds) (asset_keys rows.keys e.primary (keys_holding rows place))))

abbrev pub asset_unless : Lists → Rows → List (Option BundleNo) → ℕ → EntryRow → Option BundleNo → Result (Option PlainAsset) CatErr
asset_unless lists rows numbers place e (Some number) = Ok None
asset_unless lists rows numbers place e None = asset_with lists rows place e (dependencies (bundle_lists rows numbers) e.dep)

-- the asset row that an entry stands for, and none where it is a bundle
unfoldable pub asset_read : Lists → Rows → List (Option BundleNo) → ℕ → EntryRow → Result (Option PlainAsset) CatErr
asset_read lists rows numbers place e = asset_unless lists rows numbers place e (number_at numbers place)
