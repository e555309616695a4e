-- The rows that four tables stand for, as one relation over whole tables: the tables are spelled by some parts, and each key
-- and each row is what the parts say, whatever the order of the objects in the key and extra tables.
use Rattle.std.specs.Prelude.{◌≡◌, ◌≢◌, ℕ, ◌<◌, ◌^◌, true, List, [], ◌∷◌, length, take, map, Option, Some, None, nat_lt, ◌==◌, ◌||◌}
use Rattle.std.specs.List.{flat_map, list_all, AllByRecursion}
use Rattle.std.specs.Int.{w32, to_le_bytes}
use Rattle.base64.specs.GeneralPurpose.{encode_of, IsBytes}
use Rattle.base64.specs.Engines.{standard}
use Rattle.addr_keys.specs.declared.key.Key.{Key}
use Rattle.addr_keys.specs.Format.{KeyAt}
use Rattle.addr_tables.specs.declared.rows.EntryRow.{EntryRow}
use Rattle.addr_tables.specs.declared.rows.Rows.{Rows}
use Rattle.addr_tables.specs.declared.rows.Tables.{Tables}
use Rattle.addr_tables.specs.declared.parts.Bucket.{Bucket}
use Rattle.addr_tables.specs.declared.parts.Fields.{Fields}
use Rattle.addr_tables.specs.declared.parts.Parts.{Parts}
use Rattle.addr_tables.specs.Format.{bucket_numbers, field_numbers, bucket_table, entry_table, nothing, is_within}
use Rattle.addr_tables.specs.Faults.{row_of, numbers_in}

-- a fact for each pair of two lists, which are equally long
abbrev pub Beside : {A B : Type 0} → (A → B → Type 0) → List A → List B → Type 0
Beside R [] [] = Unit {0}
Beside R [] (y ∷ ys) = ⊥
Beside R (x ∷ xs) [] = ⊥
Beside R (x ∷ xs) (y ∷ ys) = R x y × Beside R xs ys

-- no key stands twice in the list
abbrev pub AreDistinct : List Key → Type 0
AreDistinct [] = Unit {0}
AreDistinct (k ∷ ks) = AllByRecursion (λ other. k ≢ other) ks × AreDistinct ks

-- numbers of four bytes
abbrev pub AreNumbers : List ℕ → Type 0
AreNumbers ns = AllByRecursion (λ n. n < 2 ^ 32) ns

-- the key that stands at the bucket's own offset
abbrev pub IsKeyOf : List ℕ → Bucket → Key → Type 0
IsKeyOf keys b key = (b.offset < 2 ^ 31) × ((end : ℕ) × KeyAt keys b.offset key end)

-- a bucket's count isn't negative, and each of its numbers is that of one of so many entries
abbrev pub IsPlaced : ℕ → Bucket → Type 0
IsPlaced count b = (length b.numbers < 2 ^ 31) × (list_all (is_within count) b.numbers ≡ true)

-- each number of the entry names something; a dependency and extra data may be nothing
pub record AreNamed (tables : Tables) (keys : ℕ) (e : Fields) : Type 0 where
  pub internal : is_within tables.internals e.internal ≡ true
  pub provider : is_within tables.providers e.provider ≡ true
  pub dep : (e.dep == nothing || is_within keys e.dep) ≡ true
  pub extra : (e.extra == nothing || nat_lt e.extra (2 ^ 31)) ≡ true
  pub primary : is_within keys e.primary ≡ true
  pub kind : is_within tables.kinds e.kind ≡ true

-- the extra key that stands at an offset, or none where the offset is -1
abbrev pub IsExtra : List ℕ → ℕ → Option Key → Type 0
IsExtra extras offset None = offset ≡ nothing
IsExtra extras offset (Some key) = (offset ≢ nothing) × ((end : ℕ) × KeyAt extras offset key end)

-- the row of an entry
pub record IsRow (tables : Tables) (extras : List ℕ) (keys : ℕ) (e : Fields) (row : EntryRow) : Type 0 where
  pub named : AreNamed tables keys e
  pub extra : IsExtra extras e.extra row.extra
  pub same : row ≡ row_of e row.extra

-- the tables are spelled by the parts
pub record AreSpelled (tables : Tables) (parts : Parts) : Type 0 where
  pub key : tables.key ≡ encode_of standard parts.keys
  pub bucket : tables.bucket ≡ encode_of standard (bucket_table parts.buckets)
  pub entry : tables.entry ≡ encode_of standard (entry_table parts.entries)
  pub extra : tables.extra ≡ encode_of standard parts.extras
  pub count : take 4 parts.keys ≡ to_le_bytes w32 (length parts.buckets)
  pub bytes : IsBytes parts.keys × IsBytes parts.extras
  pub numbers : AreNumbers (flat_map bucket_numbers parts.buckets) × AreNumbers (flat_map field_numbers parts.entries)
  pub few : (length parts.buckets < 2 ^ 31) × (length parts.entries < 2 ^ 31)

-- the four texts of tables are bytes
abbrev pub AreTexts : Tables → Type 0
AreTexts tables = IsBytes tables.key × IsBytes tables.bucket × IsBytes tables.entry × IsBytes tables.extra

-- the tables stand for the rows: bucket i's key is the key at bucket i's own offset
pub record StandFor (tables : Tables) (rows : Rows) : Type 0 where
  pub parts : Parts
  pub spelled : AreSpelled tables parts
  pub keys : Beside (IsKeyOf parts.keys) parts.buckets rows.keys
  pub distinct : AreDistinct rows.keys
  pub placed : AllByRecursion (IsPlaced (length parts.entries)) parts.buckets
  pub buckets : rows.buckets ≡ map numbers_in parts.buckets
  pub entries : Beside (IsRow tables parts.extras (length rows.keys)) parts.entries rows.entries
