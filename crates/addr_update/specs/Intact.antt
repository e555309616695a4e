-- When the files of a state's bundles are as it says, and what is first found wrong.
use Rattle.std.specs.Prelude.{ℕ, ◌≡◌, ◌≢◌, ◌<◌, ◌^◌, ◌⊎◌, length, List, map, Option, Some, None, take, Ok, Err}
use Rattle.std.specs.List.{AllZip, slice_get}
use Rattle.hex.specs.Hex.{IsBytes}
use Rattle.addr_base.specs.Files.{file_at}
use Rattle.addr_base.specs.Ids.{digest_of, hex_of}
use Rattle.addr_base.specs.declared.files.MemFile.{MemFile}
use Rattle.addr_base.specs.declared.ids.Digest.{Digest as Sum}
use Rattle.addr_cab.specs.Objects.{HoldsCab}
use Rattle.addr_cab.specs.declared.object.ObjectOut.{ObjectOut}
use Rattle.addr_project.specs.Reading.{path}
use Rattle.addr_release.specs.Names.{digest_from, state_file}
use Rattle.addr_release.specs.Opened.{Opened}
use Rattle.addr_resolve.specs.Opening.{IsBadTable}
use Rattle.addr_state.specs.Numbers.{fault_number}
use Rattle.addr_state.specs.Reading.{state_read}
use Rattle.addr_state.specs.declared.error.StateErr.{StateErr}
use Rattle.addr_state.specs.declared.model.State.{State as Contents}
use Rattle.addr_state.specs.declared.model.StateBundle.{StateBundle}
use Rattle.addr_unityfs.specs.Faults.{bundle_read}
use Rattle.addr_update.specs.declared.model.NotIntact.{NotIntact}
use Rattle.addr_update.specs.declared.model.NotIntact.TheVariants.{Missing, State, Size, Digest, Fs, Cab, Objects}

-- ---- intact

-- the file of a state's bundle is there with its size and digest, is read, and holds exactly the objects that the state lists
pub record IsIntact (files : List MemFile) (folder : List ℕ) (old : StateBundle) (opened : Opened) : Type 0 where
  pub file : List ℕ
  pub there : file_at (path folder old.file) files ≡ Some file
  pub bytes : IsBytes file
  pub short : length file < 2 ^ 63
  pub size : length file ≡ old.size
  pub digest : digest_of file ≡ old.digest.0
  pub name : opened.name ≡ hex_of (digest_of old.name)
  pub cab : Sum
  pub holds : HoldsCab file cab opened.objects
  pub objects : map (λ o. o.guid) opened.objects ≡ old.objects

-- each bundle of the state is intact
abbrev pub AreIntact : Contents → List MemFile → List ℕ → List Opened → Type 0
AreIntact s files folder was = AllZip (IsIntact files folder) s.bundles was

-- ---- what is wrong

-- the file of a bundle is there; so with the size that the state says; and so with its digest too
abbrev pub IsThere : List MemFile → List ℕ → StateBundle → List ℕ → Type 0
IsThere files folder old file = file_at (path folder old.file) files ≡ Some file

abbrev pub HasSize : List MemFile → List ℕ → StateBundle → List ℕ → Type 0
HasSize files folder old file = IsThere files folder old file × (length file ≡ old.size)

abbrev pub HasSum : List MemFile → List ℕ → StateBundle → List ℕ → Type 0
HasSum files folder old file = IsThere files folder old file × (length file ≡ old.size) × (digest_of file ≡ old.digest.0)

-- what is wrong with the file of a bundle: the first of these tests that fails
abbrev pub IsFileFault : List MemFile → List ℕ → StateBundle → NotIntact → Type 0
IsFileFault files folder old Missing = file_at (path folder old.file) files ≡ None
IsFileFault files folder old (State n) = ⊥
IsFileFault files folder old (Size said found) = (file : List ℕ) × IsThere files folder old file
    × (said ≡ old.size) × (found ≡ length file) × (found ≢ said)
IsFileFault files folder old (Digest said found) = (file : List ℕ) × HasSize files folder old file
    × (said ≡ old.digest) × (found ≡ digest_from file) × (found ≢ said)
IsFileFault files folder old (Fs e) = (file : List ℕ) × HasSum files folder old file × (bundle_read file ≡ Err e)
IsFileFault files folder old (Cab e) = (file : List ℕ) × HasSum files folder old file × IsBadTable file e
IsFileFault files folder old Objects = (file : List ℕ) × HasSum files folder old file
    × (cab : Sum) × (objects : List ObjectOut) × HoldsCab file cab objects × (map (λ o. o.guid) objects ≢ old.objects)

-- what is wrong with the state's own bytes: they are read before their digest is compared with the one that the catalogue names
abbrev pub IsStateFault : List ℕ → Option Sum → NotIntact → Type 0
IsStateFault bytes named Missing = ⊥
IsStateFault bytes named (State n) = (e : StateErr) × (state_read bytes ≡ Err e) × (fault_number e ≡ Some n)
IsStateFault bytes named (Size said found) = ⊥
IsStateFault bytes named (Digest said found) = (s : Contents) × (state_read bytes ≡ Ok s)
    × (named ≡ Some said) × (found ≡ digest_from bytes) × (found ≢ said)
IsStateFault bytes named (Fs e) = ⊥
IsStateFault bytes named (Cab e) = ⊥
IsStateFault bytes named Objects = ⊥

-- the first bundle that isn't intact, by its file: those before it are
pub record IsFirstFault (s : Contents) (files : List MemFile) (folder : List ℕ) (name : List ℕ) (why : NotIntact) : Type 0 where
  pub number : ℕ
  pub old : StateBundle
  pub at : slice_get s.bundles number ≡ Some old
  pub before : List Opened
  pub intact : AllZip (IsIntact files folder) (take number s.bundles) before
  pub named : name ≡ old.file
  pub fault : IsFileFault files folder old why

-- why a release is refused whose catalogue names a state that is there: the state's own bytes first, then its bundles
abbrev pub IsBadRelease : List ℕ → Option Sum → List MemFile → List ℕ → List ℕ → NotIntact → Type 0
IsBadRelease bytes state files folder name why = ((name ≡ state_file state) × IsStateFault bytes state why)
    ⊎ ((s : Contents) × (state_read bytes ≡ Ok s) × IsFirstFault s files folder name why)
