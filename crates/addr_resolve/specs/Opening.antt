-- Opening the bundles of a catalogue: the file under each key, read as a bundle and as its objects.
use Rattle.std.specs.Prelude.{ℕ, ◌≡◌, ◌≤◌, ◌⊎◌, List, [], ◌∷◌, take, Some, None, Result, Ok, Err}
use Rattle.std.specs.List.{AllZip, slice_get}
use Rattle.addr_base.specs.Faults.{Rose}
use Rattle.addr_base.specs.declared.files.MemFile.{MemFile}
use Rattle.addr_cab.specs.Lookup.{Held, HasFault, HasNoTable}
use Rattle.addr_base.specs.declared.ids.Digest.{Digest}
use Rattle.addr_cab.specs.Objects.{HoldsCab, objects_of}
use Rattle.addr_cab.specs.declared.error.CabErr.{CabErr}
use Rattle.addr_cab.specs.declared.error.CabErr.TheVariants.{Nodes}
use Rattle.addr_locate.specs.declared.rows.BundleRow.{BundleRow}
use Rattle.addr_resolve.specs.declared.error.BundleFault.{BundleFault}
use Rattle.addr_resolve.specs.declared.error.BundleFault.TheVariants.{Missing, Fs, Cab, Lost}
use Rattle.addr_resolve.specs.declared.error.OpenErr.{OpenErr}
use Rattle.addr_resolve.specs.declared.error.OpenErr.TheVariants.{Bad, DepotFault, NoMemory}
use Rattle.addr_unityfs.specs.Faults.{bundle_read}
use Rattle.addr_unityfs.specs.declared.bundle.Bundle.{Bundle}
use Rattle.addr_release.specs.Names.{bundle_file}
use Rattle.addr_release.specs.Opened.{Opened}
use Rattle.addr_release.specs.Resolve.{IsOpened}

-- a bundle with the objects that were read of its file
abbrev pub opened_as : BundleRow → Held → Opened
opened_as row held = record { name = row.name; objects = objects_of held }

-- what is held was read of the file of a row
abbrev pub IsOpenedAs : List MemFile → List ℕ → BundleRow → Held → Type 0
IsOpenedAs files folder row held = IsOpened files folder row (opened_as row held)

-- a file has this fault as a table of objects
abbrev pub IsBadTable : List ℕ → CabErr → Type 0
IsBadTable file e = (b : Bundle) × (bundle_read file ≡ Ok b) × (((e ≡ Nodes) × HasNoTable b) ⊎ HasFault file b e)

-- what is wrong with the file of a row: it is nowhere, or it has a first fault as a bundle, or else as a table
abbrev pub IsBad : List MemFile → List ℕ → BundleRow → BundleFault → Type 0
IsBad files folder row Missing = bundle_file files folder row.key ≡ None
IsBad files folder row (Fs e) = (file : List ℕ) × (bundle_file files folder row.key ≡ Some file) × (bundle_read file ≡ Err e)
IsBad files folder row (Lost guid) = ⊥
IsBad files folder row (Cab e) = (file : List ℕ) × (bundle_file files folder row.key ≡ Some file) × IsBadTable file e

-- what a file is read as
abbrev pub Opens : List ℕ → Result Held BundleFault → Type 0
Opens file (Ok held) = (name : Digest) × HoldsCab file name (objects_of held)
Opens file (Err Missing) = ⊥
Opens file (Err (Fs e)) = bundle_read file ≡ Err e
Opens file (Err (Cab e)) = IsBadTable file e
Opens file (Err (Lost guid)) = ⊥

-- what opening the bundle of a row answers
abbrev pub OpensRow : List MemFile → List ℕ → BundleRow → Result Held BundleFault → Type 0
OpensRow files folder row (Ok held) = IsOpenedAs files folder row held
OpensRow files folder row (Err why) = IsBad files folder row why

-- a refusal names a key and what is wrong, unless memory was refused
abbrev pub Names : List ℕ → BundleFault → OpenErr → Type 0
Names key why (Bad said fault) = (said ≡ key) × (fault ≡ why)
Names key why DepotFault = ⊥
Names key why NoMemory = Unit {0}

-- why the bundle of a row isn't opened
abbrev pub IsRowRefused : List MemFile → List ℕ → BundleRow → OpenErr → Type 0
IsRowRefused files folder row (Bad key why) = (key ≡ row.key) × IsBad files folder row why
IsRowRefused files folder row DepotFault = Unit {0}
IsRowRefused files folder row NoMemory = Unit {0}

-- the first row whose bundle isn't opened: those of all rows before it are
pub record IsFirstBad (files : List MemFile) (folder : List ℕ) (rows : List BundleRow) (key : List ℕ) (why : BundleFault) : Type 0 where
  pub number : ℕ
  pub row : BundleRow
  pub at : slice_get rows number ≡ Some row
  pub before : List Opened
  pub opened : AllZip (IsOpened files folder) (take number rows) before
  pub named : key ≡ row.key
  pub bad : IsBad files folder row why

-- why the bundles of all rows aren't opened
abbrev pub IsRefused : List MemFile → List ℕ → List BundleRow → OpenErr → Type 0
IsRefused files folder rows (Bad key why) = IsFirstBad files folder rows key why
IsRefused files folder rows DepotFault = Unit {0}
IsRefused files folder rows NoMemory = Unit {0}

-- the count of faults rose exactly where the answer is a fault of the depot
abbrev pub OpenRose : {T : Type 0} → ℕ → ℕ → Result T OpenErr → Type 0
OpenRose before now (Ok done) = now ≡ before
OpenRose before now (Err (Bad key why)) = now ≡ before
OpenRose before now (Err DepotFault) = (before ≤ now) × Rose before now
OpenRose before now (Err NoMemory) = now ≡ before

-- the bundles with the objects that were read of their files
abbrev pub opened_all : List BundleRow → List Held → List Opened
opened_all [] helds = []
opened_all (row ∷ rows) [] = []
opened_all (row ∷ rows) (held ∷ helds) = opened_as row held ∷ opened_all rows helds
