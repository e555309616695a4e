-- Files of a release: what putting them leaves, and when a catalogue is there.
use Rattle.std.specs.Prelude.{ℕ, ◌≡◌, List, Some, Result, Ok, Err}
use Rattle.addr_base.specs.Files.{Store, file_at}
use Rattle.addr_base.specs.Ids.{digest_of, hex_of}
use Rattle.addr_base.specs.declared.depot.DepotErr.{DepotErr}
use Rattle.addr_base.specs.declared.files.MemFile.{MemFile}
use Rattle.addr_release.specs.Names.{catalogue_path, hash_path}
use Rattle.addr_build.specs.Moments.{LaysAll, LaysSome}

-- the file with that name and these bytes
abbrev pub file_of : List ℕ → List ℕ → MemFile
file_of name bytes = record { name = name; bytes = bytes }

-- what putting files leaves: after Ok all are put, after an error some are
abbrev pub Lays : {T : Type 0} → List MemFile → Store → Store → Result T DepotErr → Type 0
Lays puts old new (Ok done) = LaysAll puts old new
Lays puts old new (Err cause) = LaysSome puts old new

-- a catalogue and the digits of its digest are there
abbrev pub AreListed : List ℕ → List ℕ → List MemFile → Type 0
AreListed folder bytes files = (file_at (catalogue_path folder) files ≡ Some bytes)
    × (file_at (hash_path folder) files ≡ Some (hex_of (digest_of bytes)))
