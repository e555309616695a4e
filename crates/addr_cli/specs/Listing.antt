-- What a file of rows is read as: its bytes by its name, and the file where its depot tells its files.
use Rattle.std.specs.Prelude.{ℕ, ◌≡◌, ◌⊎◌, List, None, Result, Ok, Err, IfSome}
use Rattle.addr_base.specs.Faults.{Rose}
use Rattle.addr_base.specs.Files.{Store, file_at}
use Rattle.addr_base.specs.Tokens.{token_of}
use Rattle.addr_catalog.specs.Catalogue.{catalogue_read}
use Rattle.addr_catalog.specs.Numbers.{error_number}
use Rattle.addr_catalog.specs.declared.catalogue.Catalogue.{Catalogue}
use Rattle.addr_catalog.specs.declared.error.CatErr.{CatErr}
use Rattle.addr_locate.specs.PlainRows.{ReadsRows}
use Rattle.addr_locate.specs.Rows.{Rows}
use Rattle.addr_locate.specs.declared.error.RowsErr.TheVariants.{Line as RowsLine}
use Rattle.addr_cli.specs.Outcome.{HasRows, IsBadCatalogue, IsBadPlain}
use Rattle.addr_cli.specs.Words.{IsJsonName}
use Rattle.addr_cli.specs.declared.refusal.Refusal.{Refusal}
use Rattle.addr_cli.specs.declared.refusal.Refusal.TheVariants.{NoMemory, Depot, NoFile, BadCatalogue, BadRows}

-- the bytes are read as a catalogue
abbrev pub ReadsCatalogue : List ℕ → Result Catalogue Refusal → Type 0
ReadsCatalogue bytes (Ok c) = catalogue_read bytes ≡ Ok c
ReadsCatalogue bytes (Err NoMemory) = Unit {0}
ReadsCatalogue bytes (Err (BadCatalogue n)) = (fault : CatErr) × (catalogue_read bytes ≡ Err fault) × (n ≡ error_number fault)
ReadsCatalogue bytes (Err _) = ⊥

-- the bytes of a file with that name are read as rows
abbrev pub ReadsFile : List ℕ → List ℕ → Result Rows Refusal → Type 0
ReadsFile name bytes (Ok r) = (IsJsonName name × (c : Catalogue) × (catalogue_read bytes ≡ Ok c) × (c.locator ≡ r)) ⊎ ((¬ IsJsonName name) × ReadsRows bytes (Ok r))
ReadsFile name bytes (Err NoMemory) = Unit {0}
ReadsFile name bytes (Err (BadCatalogue n)) = IsJsonName name × ReadsCatalogue bytes (Err (BadCatalogue n))
ReadsFile name bytes (Err (BadRows n)) = (¬ IsJsonName name) × ReadsRows bytes (Err (RowsLine n))
ReadsFile name bytes (Err _) = ⊥

-- what reading a file of rows ends with, where its depot tells its files
abbrev pub ReadsRowsFile : List ℕ → Store → Store → Result Rows Refusal → Type 0
ReadsRowsFile name old new (Ok r) = IfSome old.files (λ files. HasRows files name r)
ReadsRowsFile name old new (Err NoMemory) = Unit {0}
ReadsRowsFile name old new (Err Depot) = Rose old.faults new.faults
ReadsRowsFile name old new (Err (NoFile token)) = (token ≡ token_of name) × IfSome old.files (λ files. file_at name files ≡ None)
ReadsRowsFile name old new (Err (BadCatalogue n)) = IfSome old.files (λ files. IsJsonName name × IsBadCatalogue files name n)
ReadsRowsFile name old new (Err (BadRows n)) = IfSome old.files (λ files. (¬ IsJsonName name) × IsBadPlain files name n)
ReadsRowsFile name old new (Err _) = ⊥
