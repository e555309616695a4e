-- What a catalogue holds, and how its keys and types are numbered: by first occurrence over the asset rows.
use Rattle.std.specs.Prelude.{ℕ, ◌≡◌, ◌==◌, ◌<◌, ◌^◌, Bool, true, not, ◌&&◌, nat_lt, List, [], ◌∷◌, map, filter, length, IsTrue, Option, slice_get, unwrap_or, option_map}
use Rattle.std.specs.List.{list_any, list_all, flat_map, position, position_or_len}
use Rattle.std.specs.Str.{bytes_eq}
use Rattle.addr_base.specs.declared.ids.BundleNo.{BundleNo}
use Rattle.addr_base.specs.declared.ids.KeyNo.{KeyNo}
use Rattle.addr_base.specs.declared.ids.TypeNo.{TypeNo}
use Rattle.addr_locate.specs.declared.rows.AssetRow.{AssetRow}
use Rattle.addr_locate.specs.declared.rows.BundleRow.{BundleRow}
use Rattle.addr_locate.specs.declared.rows.PlainAsset.{PlainAsset}

-- bundle rows and asset rows, and the texts of the keys and of the types by their numbers
pub record Rows : Type 0 where
  pub bundles : List BundleRow
  pub assets : List AssetRow
  pub keys : List (List ℕ)
  pub kinds : List (List ℕ)

-- each text once, where it stands first
abbrev pub texts_once : List (List ℕ) → List (List ℕ)
texts_once [] = []
texts_once (t ∷ ts) = t ∷ filter (λ u. not (bytes_eq u t)) (texts_once ts)

-- the place of a text in a list of texts
abbrev pub place_of : List (List ℕ) → List ℕ → ℕ
place_of texts text = position_or_len (λ t. bytes_eq t text) texts

-- an asset row with its texts numbered
abbrev pub numbered : List (List ℕ) → List (List ℕ) → PlainAsset → AssetRow
numbered keys kinds a = record { id = a.id; kind = record { 0 = place_of kinds a.kind }; deps = a.deps; keys = map (λ t. record { 0 = place_of keys t }) a.keys }

-- the texts of all keys of the rows, and those of all types, each once, where it stands first
abbrev pub keys_of : List PlainAsset → List (List ℕ)
keys_of assets = texts_once (flat_map (λ a. a.keys) assets)

abbrev pub kinds_of : List PlainAsset → List (List ℕ)
kinds_of assets = texts_once (map (λ a. a.kind) assets)

-- what bundle rows and written asset rows stand for
unfoldable pub rows_of : List BundleRow → List PlainAsset → Rows
rows_of bundles assets = record { bundles = bundles; assets = map (numbered (keys_of assets) (kinds_of assets)) assets; keys = keys_of assets; kinds = kinds_of assets }

-- the text with that number
abbrev pub text_at : List (List ℕ) → ℕ → List ℕ
text_at texts n = unwrap_or (slice_get texts n) []

-- an asset row with the texts for its numbers
abbrev pub written : Rows → AssetRow → PlainAsset
written r a = record { id = a.id; kind = text_at r.kinds a.kind.0; deps = a.deps; keys = map (λ k. text_at r.keys k.0) a.keys }

-- no bundle stands twice
abbrev pub no_repeats : List BundleNo → Bool
no_repeats [] = true
no_repeats (b ∷ bs) = not (list_any (λ c. c.0 == b.0) bs) && no_repeats bs

-- there is a dependency, and each is the number of a bundle
abbrev pub has_dep : List BundleNo → Bool
has_dep bs = nat_lt 0 (length bs)

abbrev pub are_bundles : ℕ → List BundleNo → Bool
are_bundles count bs = list_all (λ b. nat_lt b.0 count) bs

-- a row has dependencies, each a bundle's number, none twice
abbrev pub has_sound_deps : ℕ → List BundleNo → Bool
has_sound_deps count bs = has_dep bs && are_bundles count bs && no_repeats bs

-- no text stands twice
abbrev pub no_text_twice : List (List ℕ) → Bool
no_text_twice [] = true
no_text_twice (t ∷ ts) = not (list_any (λ u. bytes_eq u t) ts) && no_text_twice ts

-- the number of the key with that text, and of the type, if there is one
abbrev pub key_of : Rows → List ℕ → Option KeyNo
key_of r text = option_map (λ n. record { 0 = n }) (position (λ t. bytes_eq t text) r.keys)

abbrev pub kind_of : Rows → List ℕ → Option TypeNo
kind_of r text = option_map (λ n. record { 0 = n }) (position (λ t. bytes_eq t text) r.kinds)

-- whether the asset row has a key with that text, and whether its type has that text
abbrev pub has_key_text : Rows → List ℕ → AssetRow → Bool
has_key_text r text a = list_any (λ k. bytes_eq (text_at r.keys k.0) text) a.keys

abbrev pub has_kind_text : Rows → List ℕ → AssetRow → Bool
has_kind_text r text a = bytes_eq (text_at r.kinds a.kind.0) text

-- what every locator keeps: its numbers are those that its own texts make, and each row is sound
pub record AreRows (r : Rows) : Type 0 where
  pub numbers : rows_of r.bundles (map (written r) r.assets) ≡ r
  pub few_bundles : length r.bundles < 2 ^ 32
  pub few_assets : length r.assets < 2 ^ 32
  pub few_keys : length r.keys < 2 ^ 32
  pub deps : IsTrue (list_all (λ a. has_sound_deps (length r.bundles) a.deps) r.assets)
  pub keys : IsTrue (list_all (λ a. no_text_twice (map (λ k. text_at r.keys k.0) a.keys)) r.assets)
