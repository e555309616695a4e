-- The four tables of a catalogue: how their numbers are spelled, which numbers name something, and when two keys are one. The
-- rule is this project's profile after Unity's ContentCatalogData; numbers have four bytes, the low one first.
use Rattle.std.specs.Prelude.{ℕ, ◌^◌, Bool, List, [], ◌∷◌, length, nat_lt, ◌&&◌, bytes_eq}
use Rattle.std.specs.List.{flat_map}
use Rattle.std.specs.Int.{w32, to_le_bytes}
use Rattle.addr_keys.specs.declared.key.Key.{Key}
use Rattle.addr_keys.specs.Format.{key_text}
use Rattle.addr_tables.specs.declared.parts.Bucket.{Bucket}
use Rattle.addr_tables.specs.declared.parts.Fields.{Fields}

-- the bytes of numbers, one after the other
unfoldable pub table_of : List ℕ → List ℕ
table_of numbers = flat_map (to_le_bytes w32) numbers

-- a bucket: the offset of its key, a count, and that many numbers
abbrev pub bucket_numbers : Bucket → List ℕ
bucket_numbers b = b.offset ∷ length b.numbers ∷ b.numbers

-- the bucket table: a count, and the buckets
unfoldable pub bucket_table : List Bucket → List ℕ
bucket_table buckets = table_of (length buckets ∷ flat_map bucket_numbers buckets)

-- an entry: seven numbers
abbrev pub field_numbers : Fields → List ℕ
field_numbers e = e.internal ∷ e.provider ∷ e.dep ∷ e.dep_hash ∷ e.extra ∷ e.primary ∷ e.kind ∷ []

-- the entry table: a count, and the entries
unfoldable pub entry_table : List Fields → List ℕ
entry_table entries = table_of (length entries ∷ flat_map field_numbers entries)

-- the number that stands for -1, where a field names nothing
abbrev pub nothing : ℕ
nothing = 0xffff_ffff

-- the number of one of so many things; a number from 2^31 on is negative
unfoldable pub is_within : ℕ → ℕ → Bool
is_within bound n = nat_lt n bound && nat_lt n (2 ^ 31)

-- two keys are the same where their written forms are
unfoldable pub is_same_key : Key → Key → Bool
is_same_key a b = bytes_eq (key_text a) (key_text b)
