-- What is written for a catalogue: its rows as the entries of tables, bundles before assets, and the tables in a document.
use Rattle.std.specs.Prelude.{codes, ◌≡◌, ℕ, ◌==◌, ◌+◌, ◌<◌, ◌^◌, pos, nat_lt, List, [], ◌∷◌, ◌++◌, length, map, filter, Bool, IsTrue, if◌then◌else◌, Some, None, unwrap_or, slice_get}
use Rattle.std.specs.List.{flat_map, list_all, range_with_len, enumerate_from}
use Rattle.addr_catalog_json.specs.Options.{options_read}
use Rattle.addr_catalog_json.specs.Written.{document_text, options_text}
use Rattle.addr_catalog_json.specs.declared.document.Document.{Document}
use Rattle.addr_catalog_json.specs.declared.document.Lists.{Lists}
use Rattle.addr_catalog_json.specs.declared.document.Strings.{Strings}
use Rattle.addr_catalog_json.specs.declared.options.BundleOptions.{BundleOptions}
use Rattle.addr_keys.specs.declared.key.Key.{Key}
use Rattle.addr_keys.specs.declared.key.Key.TheVariants.{Text, I32, Json}
use Rattle.addr_locate.specs.Rows.{Rows, texts_once, text_at, place_of}
use Rattle.addr_locate.specs.declared.rows.AssetRow.{AssetRow}
use Rattle.addr_locate.specs.declared.rows.BundleRow.{BundleRow}
use Rattle.addr_tables.specs.Format.{bucket_table, entry_table}
use Rattle.addr_tables.specs.Written.{key_bytes, buckets_from, extra_text, fields_from, written as written_tables}
use Rattle.addr_tables.specs.declared.rows.EntryRow.{EntryRow}
use Rattle.addr_tables.specs.declared.rows.Rows.{Rows as TableRows}
use Rattle.addr_tables.specs.declared.rows.Tables.{Tables}
use Rattle.addr_catalog.specs.declared.catalogue.Catalogue.{Catalogue}
use Rattle.addr_catalog.specs.Entries.{bundle_provider, asset_provider}
use Rattle.addr_catalog.specs.Inverted.{list_at, lists_with}

-- ---- keys

-- the texts of all keys, each once: those of the bundles, and then those of the assets in the order of their numbers
unfoldable pub table_texts : Rows → List (List ℕ)
table_texts r = texts_once (map (λ b. b.key) r.bundles ++ r.keys)

-- the numbers of a row's keys: that of a bundle's, and those of an asset's in the order of its row
abbrev pub bundle_key_numbers : List (List ℕ) → BundleRow → List ℕ
bundle_key_numbers texts b = place_of texts b.key ∷ []

abbrev pub asset_key_numbers : List (List ℕ) → Rows → AssetRow → List ℕ
asset_key_numbers texts r a = map (λ k. place_of texts (text_at r.keys k.0)) a.keys

-- the numbers of each row's keys
unfoldable pub row_key_numbers : Rows → List (List ℕ)
row_key_numbers r = map (bundle_key_numbers (table_texts r)) r.bundles ++ map (asset_key_numbers (table_texts r) r) r.assets

-- the numbers of the bundles that an asset depends on
abbrev pub dep_numbers : AssetRow → List ℕ
dep_numbers a = map (λ b. b.0) a.deps

abbrev pub is_several : List ℕ → Bool
is_several ns = nat_lt 1 (length ns)

-- the lists of several dependencies, each list of numbers once, where it stands first
unfoldable pub dep_lists : Rows → List (List ℕ)
dep_lists r = texts_once (filter is_several (map dep_numbers r.assets))

-- a Text key for each text, and then for each list of several dependencies its number from 1
unfoldable pub table_keys : Rows → List Key
table_keys r = map Text (table_texts r) ++ map (λ n. I32 (pos (n + 1))) (range_with_len 0 (length (dep_lists r)))

-- for a text the rows that have it, ascending; for a list of dependencies its bundles in their order
unfoldable pub table_buckets : Rows → List (List ℕ)
table_buckets r = map (lists_with (row_key_numbers r)) (range_with_len 0 (length (table_texts r))) ++ dep_lists r

-- ---- entries

-- the number of the primary key of a row: its first one
unfoldable pub primary_of : Rows → ℕ → ℕ
primary_of r n = unwrap_or (slice_get (list_at (row_key_numbers r) n) 0) 0

-- the key whose bucket holds some dependencies: that of the bundle where there is one, and else that of the list
unfoldable pub dep_key : Rows → List ℕ → ℕ
dep_key r (b ∷ []) = primary_of r b
dep_key r ns = length (table_texts r) + place_of (dep_lists r) ns

-- the number of a list of several dependencies, from 1, and 0 for one dependency
unfoldable pub dep_hash : Rows → List ℕ → ℕ
dep_hash r (b ∷ []) = 0
dep_hash r ns = place_of (dep_lists r) ns + 1

abbrev pub options_assembly : List ℕ
options_assembly = codes "Unity.ResourceManager, Version=0.0.0.0, Culture=neutral, PublicKeyToken=null"

abbrev pub options_class : List ℕ
options_class = codes "UnityEngine.ResourceManagement.ResourceProviders.AssetBundleRequestOptions"

-- the options of a bundle as a key
abbrev pub bundle_options : BundleRow → BundleOptions
bundle_options b = record { digest = b.digest; name = b.name; size = b.size }

abbrev pub options_key : BundleRow → Key
options_key b = Json options_assembly options_class (options_text (bundle_options b))

-- the options that are written for the bundle read back as they were
abbrev pub HasOptions : BundleRow → Type 0
HasOptions b = options_read (options_text (bundle_options b)) ≡ Some (bundle_options b)

-- the entry of a bundle, and of an asset, which is the row with that number
abbrev pub bundle_entry : Rows → ℕ → BundleRow → EntryRow
bundle_entry r n b = record {
  internal = n;
  provider = 0;
  dep = None;
  dep_hash = pos 0;
  extra = Some (options_key b);
  primary = primary_of r n;
  kind = 0;
}

abbrev pub asset_entry : Rows → ℕ → AssetRow → EntryRow
asset_entry r n a = record {
  internal = n;
  provider = 1;
  dep = Some (dep_key r (dep_numbers a));
  dep_hash = pos (dep_hash r (dep_numbers a));
  extra = None;
  primary = primary_of r n;
  kind = a.kind.0 + 1;
}

-- what is made of each of a list and its number, the first's number being n
abbrev pub each_numbered : {A B : Type 0} → (ℕ → A → B) → ℕ → List A → List B
each_numbered f n xs = map (λ p. f p.0 p.1) (enumerate_from n xs)

-- the entries of the bundles, and then those of the assets
unfoldable pub table_entries : Rows → List EntryRow
table_entries r = each_numbered (bundle_entry r) 0 r.bundles ++ each_numbered (asset_entry r) (length r.bundles) r.assets

abbrev pub table_rows : Rows → TableRows
table_rows r = record { keys = table_keys r; buckets = table_buckets r; entries = table_entries r }

-- ---- the document

-- the internal ids of all rows
abbrev pub row_ids : Rows → List (List ℕ)
row_ids r = map (λ b. b.id) r.bundles ++ map (λ a. a.id) r.assets

abbrev pub bundle_kind : List ℕ
bundle_kind = codes "UnityEngine.ResourceManagement.ResourceProviders.IAssetBundleResource"

-- the type of bundles, and then those of the assets; none where there are no rows
abbrev pub row_kinds : Rows → List (List ℕ)
row_kinds r = if length (row_ids r) == 0 then [] else bundle_kind ∷ r.kinds

abbrev pub lists_of : Rows → Lists
lists_of r = record { providers = bundle_provider ∷ asset_provider ∷ []; internals = row_ids r; kinds = row_kinds r; prefixes = [] }

abbrev pub tables_written : Rows → Tables
tables_written r = written_tables (table_rows r) (length (row_ids r)) 2 (length (row_kinds r))

abbrev pub strings_in : Tables → Strings
strings_in t = record { key = t.key; bucket = t.bucket; entry = t.entry; extra = t.extra }

abbrev pub document_of : Catalogue → Document
document_of c = record { lists = lists_of c.locator; strings = strings_in (tables_written c.locator); state = c.state }

-- the one text of a catalogue
unfoldable pub catalogue_text : Catalogue → List ℕ
catalogue_text c = document_text (document_of c)

-- a catalogue that has a text: each asset row has a key, and each table stays below 2^31 bytes
pub record CanWrite (r : Rows) : Type 0 where
  pub keys : IsTrue (list_all (λ a. nat_lt 0 (length a.keys)) r.assets)
  pub key_small : length (key_bytes (table_keys r)) < 2 ^ 31
  pub bucket_small : length (bucket_table (buckets_from 4 (table_keys r) (table_buckets r))) < 2 ^ 31
  pub entry_small : length (entry_table (fields_from 0 (table_entries r))) < 2 ^ 31
  pub extra_small : length (flat_map extra_text (table_entries r)) < 2 ^ 31
