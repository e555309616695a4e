-- The steps of opening a release: what is told of bytes, of the catalogue and the state, and of one bundle after the other.
use Rattle.std.specs.Prelude.{ℕ, ◌≡◌, ◌≢◌, ◌⊎◌, List, length, Option, Some, None, Result, Ok, Err}
use Rattle.addr_base.specs.Files.{file_at}
use Rattle.addr_base.specs.Ids.{digest_of}
use Rattle.addr_base.specs.declared.files.MemFile.{MemFile}
use Rattle.addr_base.specs.declared.ids.Digest.{Digest as Sum}
use Rattle.addr_cab.specs.Lookup.{Held}
use Rattle.addr_cab.specs.Objects.{HoldsCab, objects_of}
use Rattle.addr_catalog.specs.declared.catalogue.Catalogue.{Catalogue}
use Rattle.addr_held.specs.Opening.{HasBadCatalogue, IsIntactAs}
use Rattle.addr_held.specs.declared.error.HeldErr.{HeldErr}
use Rattle.addr_held.specs.declared.error.HeldErr.TheVariants.{NoRelease, BadCatalogue, BadRelease, DepotFault, NoMemory}
use Rattle.addr_release.specs.Held.{HasDigest}
use Rattle.addr_release.specs.Names.{catalogue_path, digest_from, state_file, state_path}
use Rattle.addr_resolve.specs.Opening.{IsBadTable}
use Rattle.addr_resolve.specs.Resolving.{HasCatalogue}
use Rattle.addr_state.specs.Numbers.{fault_number}
use Rattle.addr_state.specs.Reading.{state_read}
use Rattle.addr_state.specs.declared.error.StateErr.{StateErr}
use Rattle.addr_state.specs.declared.model.State.{State as Contents}
use Rattle.addr_state.specs.declared.model.StateBundle.{StateBundle}
use Rattle.addr_unityfs.specs.Faults.{bundle_read}
use Rattle.addr_update.specs.Intact.{IsFileFault, IsFirstFault, IsStateFault}
use Rattle.addr_update.specs.declared.model.NotIntact.{NotIntact}
use Rattle.addr_update.specs.declared.model.NotIntact.TheVariants.{Missing, State, Size, Digest, Fs, Cab, Objects}

-- ---- bytes

-- whether bytes have another digest than the one that is said
abbrev pub TellsDigest : List ℕ → Sum → Option NotIntact → Type 0
TellsDigest bytes said None = digest_of bytes ≡ said.0
TellsDigest bytes said (Some why) = (why ≡ Digest said (digest_from bytes)) × (digest_from bytes ≢ said)

-- the same of a digest that may be named
abbrev pub TellsNamed : List ℕ → Option Sum → Option NotIntact → Type 0
TellsNamed bytes named None = HasDigest bytes named
TellsNamed bytes named (Some why) = (said : Sum) × (named ≡ Some said) × (why ≡ Digest said (digest_from bytes)) × (digest_from bytes ≢ said)

-- whether a file has another size than the state says, or else another digest
abbrev pub TellsBytes : StateBundle → List ℕ → Option NotIntact → Type 0
TellsBytes old file None = (length file ≡ old.size) × (digest_of file ≡ old.digest.0)
TellsBytes old file (Some why) = ((why ≡ Size old.size (length file)) × (length file ≢ old.size))
    ⊎ ((length file ≡ old.size) × (why ≡ Digest old.digest (digest_from file)) × (digest_from file ≢ old.digest))

-- what a file is read as
abbrev pub Opens : List ℕ → Result Held NotIntact → Type 0
Opens file (Ok held) = (name : Sum) × HoldsCab file name (objects_of held)
Opens file (Err (Fs e)) = bundle_read file ≡ Err e
Opens file (Err (Cab e)) = IsBadTable file e
Opens file (Err Missing) = ⊥
Opens file (Err (State n)) = ⊥
Opens file (Err (Size said found)) = ⊥
Opens file (Err (Digest said found)) = ⊥
Opens file (Err Objects) = ⊥

-- what the file of a bundle is judged as
abbrev pub OpensBundle : List MemFile → List ℕ → StateBundle → Result Held NotIntact → Type 0
OpensBundle files folder old (Ok held) = IsIntactAs files folder old held
OpensBundle files folder old (Err why) = IsFileFault files folder old why

-- ---- the catalogue and the state

-- what reading a folder's catalogue answers
abbrev pub ReadsCatalogue : List MemFile → List ℕ → Result Catalogue HeldErr → Type 0
ReadsCatalogue files folder (Ok c) = HasCatalogue files folder c
ReadsCatalogue files folder (Err (NoRelease name)) = (name ≡ catalogue_path folder) × (file_at (catalogue_path folder) files ≡ None)
ReadsCatalogue files folder (Err (BadCatalogue fault)) = HasBadCatalogue files folder fault
ReadsCatalogue files folder (Err (BadRelease name why)) = ⊥
ReadsCatalogue files folder (Err DepotFault) = Unit {0}
ReadsCatalogue files folder (Err NoMemory) = Unit {0}

-- the state that bytes are, or the number of their first fault
abbrev pub TellsState : List ℕ → Result Contents NotIntact → Type 0
TellsState bytes (Ok s) = state_read bytes ≡ Ok s
TellsState bytes (Err (State n)) = (e : StateErr) × (state_read bytes ≡ Err e) × (fault_number e ≡ Some n)
TellsState bytes (Err _) = ⊥

-- what the bytes of a state are judged as
abbrev pub JudgesState : List ℕ → Option Sum → Result Contents NotIntact → Type 0
JudgesState bytes named (Ok s) = (state_read bytes ≡ Ok s) × HasDigest bytes named
JudgesState bytes named (Err why) = IsStateFault bytes named why

-- what reading the state of a folder answers whose catalogue names it so
abbrev pub ReadsState : List MemFile → List ℕ → Option Sum → Result Contents HeldErr → Type 0
ReadsState files folder named (Ok s) = (bytes : List ℕ) × (file_at (state_path folder named) files ≡ Some bytes)
    × (state_read bytes ≡ Ok s) × HasDigest bytes named
ReadsState files folder named (Err (NoRelease name)) = (name ≡ state_path folder named) × (file_at (state_path folder named) files ≡ None)
ReadsState files folder named (Err (BadCatalogue fault)) = ⊥
ReadsState files folder named (Err (BadRelease name why)) = (name ≡ state_file named)
    × (bytes : List ℕ) × (file_at (state_path folder named) files ≡ Some bytes) × IsStateFault bytes named why
ReadsState files folder named (Err DepotFault) = Unit {0}
ReadsState files folder named (Err NoMemory) = Unit {0}

-- ---- bundles

-- a refusal names a file and what is wrong, unless memory was refused
abbrev pub Names : List ℕ → NotIntact → HeldErr → Type 0
Names file why (BadRelease said fault) = (said ≡ file) × (fault ≡ why)
Names file why NoMemory = Unit {0}
Names file why _ = ⊥

-- why a bundle isn't opened
abbrev pub IsBundleRefused : List MemFile → List ℕ → StateBundle → HeldErr → Type 0
IsBundleRefused files folder old (BadRelease name why) = (name ≡ old.file) × IsFileFault files folder old why
IsBundleRefused files folder old DepotFault = Unit {0}
IsBundleRefused files folder old NoMemory = Unit {0}
IsBundleRefused files folder old _ = ⊥

-- why the bundles of a state aren't opened
abbrev pub IsRefused : List MemFile → List ℕ → Contents → HeldErr → Type 0
IsRefused files folder s (BadRelease name why) = IsFirstFault s files folder name why
IsRefused files folder s DepotFault = Unit {0}
IsRefused files folder s NoMemory = Unit {0}
IsRefused files folder s _ = ⊥
