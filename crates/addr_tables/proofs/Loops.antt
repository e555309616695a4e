-- One reading where its arguments are equal, for loops over values that a call lends.
use Rattle.std.proofs.Common.{◌≡◌, ℕ, List, length, get_or, Result, sym, ap, ◌∙◌}
use Rattle.addr_keys.specs.declared.key.Key.{Key}
use Rattle.addr_tables.specs.declared.error.TableErr.{TableErr}
use Rattle.addr_tables.specs.declared.rows.EntryRow.{EntryRow}
use Rattle.addr_tables.specs.declared.rows.Tables.{Tables}
use Rattle.addr_tables.specs.declared.parts.Bucket.{Bucket}
use Rattle.addr_tables.specs.declared.parts.Fields.{Fields}
use Rattle.addr_tables.specs.Faults.{bucket_read, entry_read}

-- the same reading, where its arguments are equal
pub entry_alike : (tables : Tables) (extras others : List ℕ) (keys place i : ℕ) (before : List EntryRow) (entries items : List Fields) (f : Fields) (r : Result EntryRow TableErr) → items ≡ entries → others ≡ extras → place ≡ length before
    → entry_read tables others keys place (get_or items i f) ≡ r → entry_read tables extras keys (length before) (get_or entries i f) ≡ r
entry_alike tables extras others keys place i before entries items f r same-items same-extras same-place is = rw (← same-items, ← same-extras, ← same-place) is

pub bucket_alike : (bytes : List ℕ) (count i : ℕ) (before : List Key) (buckets items : List Bucket) (b : Bucket) (r : Result Key TableErr) → items ≡ buckets → b ≡ get_or items i b
    → bucket_read bytes count before b ≡ r → bucket_read bytes count before (get_or buckets i b) ≡ r
bucket_alike bytes count i before buckets items b r same is read = ap (bucket_read bytes count before) (ap (λ (xs : List Bucket). get_or xs i b) (sym same) ∙ sym is) ∙ read
