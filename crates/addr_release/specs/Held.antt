-- When a folder holds the content state that its catalogue names.
use Rattle.std.specs.Prelude.{ℕ, ◌≡◌, List, Option, Some, None, Ok}
use Rattle.addr_base.specs.Files.{file_at}
use Rattle.addr_base.specs.Ids.{digest_of}
use Rattle.addr_base.specs.declared.files.MemFile.{MemFile}
use Rattle.addr_base.specs.declared.ids.Digest.{Digest}
use Rattle.addr_catalog.specs.Catalogue.{catalogue_read}
use Rattle.addr_catalog.specs.declared.catalogue.Catalogue.{Catalogue}
use Rattle.addr_state.specs.Reading.{state_read}
use Rattle.addr_state.specs.declared.model.State.{State}
use Rattle.addr_release.specs.Names.{catalogue_path, state_path}

-- bytes have the digest that is named, if one is
abbrev pub HasDigest : List ℕ → Option Digest → Type 0
HasDigest bytes None = Unit {0}
HasDigest bytes (Some digest) = digest_of bytes ≡ digest.0

-- the catalogue is read, and its state is there, is read, and has the digest that the catalogue names, where it names one
pub record IsHeldAs (files : List MemFile) (folder : List ℕ) (catalogue : Catalogue) (state : State) : Type 0 where
  pub bytes : List ℕ
  pub there : file_at (catalogue_path folder) files ≡ Some bytes
  pub read : catalogue_read bytes ≡ Ok catalogue
  pub kept : List ℕ
  pub kept_there : file_at (state_path folder catalogue.state) files ≡ Some kept
  pub kept_read : state_read kept ≡ Ok state
  pub digest : HasDigest kept catalogue.state

-- the folder holds its state
abbrev pub IsHeld : List MemFile → List ℕ → Type 0
IsHeld files folder = (catalogue : Catalogue) × (state : State) × IsHeldAs files folder catalogue state
