-- What a file of rows is read as, from what its bytes are read as.
use Rattle.std.proofs.Common.{◌≡◌, ℕ, List, Option, Some, None, IfSome, Result, Ok, Err, inl, inr}
use Rattle.addr_base.specs.Files.{Store, file_at}
use Rattle.addr_base.specs.declared.files.MemFile.{MemFile}
use Rattle.addr_locate.specs.Rows.{Rows}
use Rattle.addr_cli.specs.Listing.{ReadsFile, ReadsRowsFile}
use Rattle.addr_cli.specs.Outcome.{HasRows}
use Rattle.addr_cli.specs.declared.refusal.Refusal.{Refusal}
use Rattle.addr_cli.specs.declared.refusal.Refusal.TheVariants.{NoMemory, Usage, Depot, BadProject, NoFile, BadCatalogue, BadRows, BadBundle, BadScript, TooLarge}

-- what follows for files that are told
told : {P Q : List MemFile → Type 0} (known : Option (List MemFile)) → ((files : List MemFile) → P files → Q files) → IfSome known P → IfSome known Q
told None from here = tt
told (Some files) from here = from files here

has_rows : (files : List MemFile) (name bytes : List ℕ) (r : Rows) → ReadsFile name bytes (Ok r) → file_at name files ≡ Some bytes → HasRows files name r
has_rows files name bytes r reads at = elim reads [
  | inl catalogue ↦ inl (catalogue.0, catalogue.1, record { bytes = bytes; file = at; read = catalogue.2 }, catalogue.3)
  | inr plain ↦ inr (plain.0, record { bytes = bytes; file = at; read = plain.1 })
]

pub rows_read : (name bytes : List ℕ) (old new : Store) (read : Result Rows Refusal) → IfSome old.files (λ files. file_at name files ≡ Some bytes) → ReadsFile name bytes read → ReadsRowsFile name old new read
rows_read name bytes old new (Ok r) there reads = told old.files (λ files at. has_rows files name bytes r reads at) there
rows_read name bytes old new (Err (BadCatalogue n)) there reads = told old.files (λ files at. (reads.0, (bytes, at, reads.1.0, reads.1.1, reads.1.2))) there
rows_read name bytes old new (Err (BadRows n)) there reads = told old.files (λ files at. (reads.0, (bytes, at, reads.1))) there
rows_read name bytes old new (Err NoMemory) there reads = tt
rows_read name bytes old new (Err Usage) there reads = absurd reads
rows_read name bytes old new (Err Depot) there reads = absurd reads
rows_read name bytes old new (Err (NoFile token)) there reads = absurd reads
rows_read name bytes old new (Err (BadProject fault)) there reads = absurd reads
rows_read name bytes old new (Err (BadBundle token n)) there reads = absurd reads
rows_read name bytes old new (Err (BadScript n)) there reads = absurd reads
rows_read name bytes old new (Err (TooLarge which n)) there reads = absurd reads
