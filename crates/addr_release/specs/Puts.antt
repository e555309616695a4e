-- The puts of a release in their order, which file name they find taken first, and what they leave.
use Rattle.std.specs.Prelude.{ℕ, ◌≡◌, ◌<◌, length, List, [], ◌∷◌, ◌++◌, map, find, reverse, Bool, false, true, not, Option, Some, None}
use Rattle.std.specs.List.{Contains, enumerate_from, flat_map}
use Rattle.std.specs.Str.{bytes_eq}
use Rattle.addr_base.specs.Files.{file_at}
use Rattle.addr_base.specs.Ids.{digest_of, hex_of}
use Rattle.addr_base.specs.declared.files.MemFile.{MemFile}
use Rattle.addr_project.specs.Reading.{path}
use Rattle.addr_state.specs.Files.{side_folder}
use Rattle.addr_release.specs.Built.{Release, ReleaseBundle}
use Rattle.addr_release.specs.Names.{catalogue_path, digest_from, hash_path, side_path, state_file, state_path}

-- ---- what is put

-- a bundle's file on its side, under its key
abbrev pub bundle_put : List ℕ → ReleaseBundle → MemFile
bundle_put folder made = record { name = side_path folder made.remote made.row.key; bytes = made.file }

-- a state under the digest of its bytes
abbrev pub state_put : List ℕ → List ℕ → MemFile
state_put folder bytes = record { name = state_path folder (Some (digest_from bytes)); bytes = bytes }

-- a catalogue, and the digits of its digest
abbrev pub catalogue_put : List ℕ → List ℕ → MemFile
catalogue_put folder bytes = record { name = catalogue_path folder; bytes = bytes }

abbrev pub hash_put : List ℕ → List ℕ → MemFile
hash_put folder bytes = record { name = hash_path folder; bytes = hex_of (digest_of bytes) }

-- the puts before the catalogue's: the bundles in order, and the state
abbrev pub content_puts : List ℕ → Release → List MemFile
content_puts folder r = map (bundle_put folder) r.bundles ++ state_put folder r.state_bytes ∷ []

-- the puts of a release: its content, the catalogue, the hash
abbrev pub puts_of : List ℕ → Release → List MemFile
puts_of folder r = content_puts folder r ++ catalogue_put folder r.catalogue ∷ hash_put folder r.catalogue ∷ []

-- ---- what puts leave

-- each name leads to the latest put of it, and else to what it led to before
abbrev pub IsAfter : List MemFile → List MemFile → List MemFile → Type 0
IsAfter puts old new = (name : List ℕ) → file_at name new ≡ file_at name (reverse puts ++ old)

-- ---- which names are taken

-- a name below the folder that may have these bytes alone, and the number of the put for which it is tested
pub record Test : Type 0 where
  pub number : ℕ
  pub name : List ℕ
  pub bytes : List ℕ

-- the tests of a bundle's put: local before remote
abbrev pub bundle_tests : ℕ → ReleaseBundle → List Test
bundle_tests n made =
    record { number = n; name = side_folder false ++ made.row.key; bytes = made.file }
    ∷ record { number = n; name = side_folder true ++ made.row.key; bytes = made.file } ∷ []

-- the tests of all bundles' puts, in their order
abbrev pub all_bundle_tests : List ReleaseBundle → List Test
all_bundle_tests bundles = flat_map (λ numbered. bundle_tests numbered.0 numbered.1) (enumerate_from 0 bundles)

-- the test of a state's put
abbrev pub state_test : ℕ → List ℕ → Test
state_test n bytes = record { number = n; name = state_file (Some (digest_from bytes)); bytes = bytes }

-- the tests of a release's puts, in their order; none is made for catalogue and hash
abbrev pub tests_of : Release → List Test
tests_of r = all_bundle_tests r.bundles ++ state_test (length r.bundles) r.state_bytes ∷ []

-- bytes that are there and are others
abbrev pub are_other : List ℕ → Option (List ℕ) → Bool
are_other bytes None = false
are_other bytes (Some found) = not (bytes_eq found bytes)

-- a file is there with other bytes
abbrev pub is_taken : List MemFile → List ℕ → Test → Bool
is_taken files folder test = are_other test.bytes (file_at (path folder test.name) files)

-- the first taken name, with the number of its put
abbrev pub first_taken : List MemFile → List ℕ → List Test → Option Test
first_taken files folder tests = find (is_taken files folder) tests

-- no name of a release is taken
abbrev pub NoneTaken : List MemFile → List ℕ → Release → Type 0
NoneTaken files folder r = first_taken files folder (tests_of r) ≡ None

-- no name is taken that is tested for a put before the m-th
abbrev pub AreUntaken : List MemFile → List ℕ → ℕ → List Test → Type 0
AreUntaken files folder m tests = (test : Test) → Contains tests test → test.number < m → is_taken files folder test ≡ false
