-- What the laws of releases speak of: puts of different names, files that are there or free, and what stays.
use Rattle.std.specs.Prelude.{ℕ, ◌≡◌, ◌≢◌, ◌⊎◌, length, List, [], ◌∷◌, ◌++◌, map, nat_le, take, if◌then◌else◌, Some, None}
use Rattle.std.specs.List.{Contains}
use Rattle.addr_base.specs.Files.{file_at}
use Rattle.addr_base.specs.Ids.{Are16Bytes}
use Rattle.addr_base.specs.declared.files.MemFile.{MemFile}
use Rattle.addr_base.specs.declared.ids.Digest.{Digest}
use Rattle.addr_project.specs.Reading.{path}
use Rattle.addr_state.specs.Files.{file_name}
use Rattle.addr_walks.specs.Once.{AreOnce}
use Rattle.addr_release.specs.Built.{ReleaseBundle}
use Rattle.addr_release.specs.Names.{catalogue_path, hash_path}
use Rattle.addr_release.specs.Puts.{IsAfter, Test, catalogue_put, hash_put}

-- no two puts have one name
abbrev pub NamesOnce : List MemFile → Type 0
NamesOnce puts = AreOnce (map (λ put. put.name) puts)

-- each file is there
abbrev pub AreThere : List MemFile → List MemFile → Type 0
AreThere puts files = (put : MemFile) → Contains puts put → file_at put.name files ≡ Some put.bytes

-- under a put's name there is no file, or one with its bytes
abbrev pub IsFree : List MemFile → MemFile → Type 0
IsFree files put = (file_at put.name files ≡ None) ⊎ (file_at put.name files ≡ Some put.bytes)

abbrev pub AreFree : List MemFile → List MemFile → Type 0
AreFree puts files = (put : MemFile) → Contains puts put → IsFree files put

-- each file but catalogue and hash stays as it was
abbrev pub Keeps : List ℕ → List MemFile → List MemFile → Type 0
Keeps folder old new = (name bytes : List ℕ) → name ≢ catalogue_path folder → name ≢ hash_path folder
    → file_at name old ≡ Some bytes → file_at name new ≡ Some bytes

-- bundles' keys are names of bundles' files, and no two have one
pub record AreNamed (bundles : List ReleaseBundle) : Type 0 where
  pub named : (made : ReleaseBundle) → Contains bundles made
      → (name : List ℕ) × (digest : Digest) × Are16Bytes digest.0 × (made.row.key ≡ file_name name digest)
  pub once : AreOnce (map (λ made. made.row.key) bundles)

-- no put is the catalogue's or the hash's
abbrev pub IsContent : List ℕ → List MemFile → Type 0
IsContent folder puts = (put : MemFile) → Contains puts put → (put.name ≢ catalogue_path folder) × (put.name ≢ hash_path folder)

-- content, and behind it a catalogue and its hash
abbrev pub with_catalogue : List ℕ → List MemFile → List ℕ → List MemFile
with_catalogue folder content bytes = content ++ catalogue_put folder bytes ∷ hash_put folder bytes ∷ []

-- after so many of these puts the catalogue is the old one, and from its own put on the new one
abbrev pub CatalogueAlong : List ℕ → List MemFile → List ℕ → Type 0
CatalogueAlong folder content bytes = (k : ℕ) (old new : List MemFile) → IsAfter (take k (with_catalogue folder content bytes)) old new
    → file_at (catalogue_path folder) new ≡ (if nat_le k (length content) then file_at (catalogue_path folder) old else Some bytes)

-- a test finds in one place what it finds in the other
abbrev pub SameFound : List ℕ → List MemFile → List MemFile → Test → Type 0
SameFound folder old new test = file_at (path folder test.name) new ≡ file_at (path folder test.name) old
