-- What opening the release of a folder answers: its catalogue, its state and what the files of the state's bundles hold; or the
-- first thing that is wrong.
use Rattle.std.specs.Prelude.{ℕ, ◌≡◌, ◌≤◌, ◌⊎◌, List, [], ◌∷◌, Option, Some, None, Result, Ok, Err}
use Rattle.addr_base.specs.Faults.{Rose}
use Rattle.addr_base.specs.Files.{file_at}
use Rattle.addr_base.specs.Ids.{digest_of, hex_of}
use Rattle.addr_base.specs.declared.files.MemFile.{MemFile}
use Rattle.addr_base.specs.declared.ids.Digest.{Digest}
use Rattle.addr_cab.specs.Lookup.{Held}
use Rattle.addr_cab.specs.Objects.{objects_of}
use Rattle.addr_catalog.specs.Catalogue.{catalogue_read}
use Rattle.addr_catalog.specs.declared.catalogue.Catalogue.{Catalogue}
use Rattle.addr_catalog.specs.declared.error.CatErr.{CatErr}
use Rattle.addr_held.specs.declared.error.HeldErr.{HeldErr}
use Rattle.addr_held.specs.declared.error.HeldErr.TheVariants.{NoRelease, BadCatalogue, BadRelease, DepotFault, NoMemory}
use Rattle.addr_held.specs.declared.release.Release.{Release}
use Rattle.addr_release.specs.Held.{HasDigest, IsHeldAs}
use Rattle.addr_release.specs.Names.{catalogue_path, state_file, state_path}
use Rattle.addr_release.specs.Opened.{Opened}
use Rattle.addr_resolve.specs.Resolving.{HasCatalogue}
use Rattle.addr_state.specs.Reading.{state_read}
use Rattle.addr_state.specs.declared.model.State.{State}
use Rattle.addr_state.specs.declared.model.StateBundle.{StateBundle}
use Rattle.addr_update.specs.Intact.{AreIntact, IsFirstFault, IsIntact, IsStateFault}
use Rattle.addr_update.specs.declared.model.NotIntact.{NotIntact}

-- ---- a release

-- a bundle of the state by its internal name, with the objects that were read of its file
abbrev pub opened_as : StateBundle → Held → Opened
opened_as old held = record { name = hex_of (digest_of old.name); objects = objects_of held }

-- so all bundles of the state
abbrev pub opened_all : List StateBundle → List Held → List Opened
opened_all [] helds = []
opened_all (old ∷ olds) [] = []
opened_all (old ∷ olds) (held ∷ helds) = opened_as old held ∷ opened_all olds helds

-- the bundles of a release, as they were opened
abbrev pub was_of : Release → List Opened
was_of r = opened_all r.state.bundles r.cabs

-- what is held was read of the intact file of a bundle
abbrev pub IsIntactAs : List MemFile → List ℕ → StateBundle → Held → Type 0
IsIntactAs files folder old held = IsIntact files folder old (opened_as old held)

-- the folder holds the release: its catalogue, the state that this names, and each bundle of the state intact
pub record HoldsRelease (files : List MemFile) (folder : List ℕ) (r : Release) : Type 0 where
  pub held : IsHeldAs files folder r.catalogue r.state
  pub intact : AreIntact r.state files folder (was_of r)

-- ---- what is wrong

-- the folder has no catalogue, or not the state that its catalogue names
abbrev pub LacksFile : List MemFile → List ℕ → List ℕ → Type 0
LacksFile files folder name = ((name ≡ catalogue_path folder) × (file_at (catalogue_path folder) files ≡ None))
    ⊎ ((c : Catalogue) × HasCatalogue files folder c
    × (name ≡ state_path folder c.state) × (file_at (state_path folder c.state) files ≡ None))

-- the catalogue's first fault
abbrev pub HasBadCatalogue : List MemFile → List ℕ → CatErr → Type 0
HasBadCatalogue files folder fault = (bytes : List ℕ) × (file_at (catalogue_path folder) files ≡ Some bytes)
    × (catalogue_read bytes ≡ Err fault)

-- what is first wrong with the state that a catalogue names; or, where nothing is, with the first of its bundles that isn't intact
abbrev pub IsWrong : List MemFile → List ℕ → Option Digest → List ℕ → NotIntact → Type 0
IsWrong files folder named name why = (bytes : List ℕ) × (file_at (state_path folder named) files ≡ Some bytes)
    × (((name ≡ state_file named) × IsStateFault bytes named why)
    ⊎ ((s : State) × (state_read bytes ≡ Ok s) × HasDigest bytes named × IsFirstFault s files folder name why))

-- ---- answers

-- what opening the release of a folder answers over files that are told
abbrev pub OpensRelease : List MemFile → List ℕ → Result Release HeldErr → Type 0
OpensRelease files folder (Ok release) = HoldsRelease files folder release
OpensRelease files folder (Err (NoRelease name)) = LacksFile files folder name
OpensRelease files folder (Err (BadCatalogue fault)) = HasBadCatalogue files folder fault
OpensRelease files folder (Err (BadRelease name why)) = (c : Catalogue) × HasCatalogue files folder c × IsWrong files folder c.state name why
OpensRelease files folder (Err DepotFault) = Unit {0}
OpensRelease files folder (Err NoMemory) = Unit {0}

-- the count of faults rose exactly where the answer is a fault of the depot
abbrev pub HeldRose : {T : Type 0} → ℕ → ℕ → Result T HeldErr → Type 0
HeldRose before now (Ok done) = now ≡ before
HeldRose before now (Err (NoRelease name)) = now ≡ before
HeldRose before now (Err (BadCatalogue fault)) = now ≡ before
HeldRose before now (Err (BadRelease name why)) = now ≡ before
HeldRose before now (Err DepotFault) = (before ≤ now) × Rose before now
HeldRose before now (Err NoMemory) = now ≡ before
