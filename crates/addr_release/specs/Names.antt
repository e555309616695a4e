-- The files of a release: their names below a folder, and where a bundle's file is looked for.
use Rattle.std.specs.Prelude.{ℕ, codes, List, ◌++◌, Bool, false, true, Option, Some, None}
use Rattle.std.specs.Option.{option_or}
use Rattle.addr_base.specs.Files.{file_at}
use Rattle.addr_base.specs.Ids.{hex_of, digest_of}
use Rattle.addr_base.specs.declared.files.MemFile.{MemFile}
use Rattle.addr_base.specs.declared.ids.Digest.{Digest}
use Rattle.addr_project.specs.Reading.{path}
use Rattle.addr_state.specs.Files.{side_folder, side_file}

-- the digest of bytes, as a digest
abbrev pub digest_from : List ℕ → Digest
digest_from bytes = record { 0 = digest_of bytes }

-- the catalogue of a folder, and the file that holds its digest
abbrev pub catalogue_path : List ℕ → List ℕ
catalogue_path folder = path folder (codes "remote/catalog_main.json")

abbrev pub hash_path : List ℕ → List ℕ
hash_path folder = path folder (codes "remote/catalog_main.hash")

-- the content state that a catalogue names, and the one of a catalogue that names none, below the folder
abbrev pub state_file : Option Digest → List ℕ
state_file None = codes "state_.json"
state_file (Some digest) = codes "state_" ++ (hex_of digest.0 ++ codes ".json")

abbrev pub state_path : List ℕ → Option Digest → List ℕ
state_path folder digest = path folder (state_file digest)

-- a bundle's file, by its side, its name and the digest of its bytes
abbrev pub bundle_path : List ℕ → Bool → List ℕ → Digest → List ℕ
bundle_path folder remote name digest = path folder (side_file remote name digest)

-- the file under a key on a side
abbrev pub side_path : List ℕ → Bool → List ℕ → List ℕ
side_path folder remote key = path folder (side_folder remote ++ key)

-- the bytes under a key: among the local files, or else among the remote ones
abbrev pub bundle_file : List MemFile → List ℕ → List ℕ → Option (List ℕ)
bundle_file files folder key = option_or (file_at (side_path folder false key) files) (file_at (side_path folder true key) files)
