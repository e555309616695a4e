-- What the images that are kept hold, and what the parts of a read find in them.
use Rattle.std.specs.Prelude.{ℕ, ◌≡◌, List, Option, Some, None, Result, Ok, Err, slice_get}
use Rattle.addr_base.specs.Images.{Object}
use Rattle.addr_base.specs.declared.ids.BundleNo.{BundleNo}
use Rattle.addr_base.specs.declared.memory.NoMemory.{NoMemory}
use Rattle.addr_locate.specs.declared.rows.AssetRow.{AssetRow}
use Rattle.addr_locate.specs.declared.rows.BundleRow.{BundleRow}
use Rattle.addr_history.specs.Reading.{Holds}
use Rattle.addr_history.specs.Unfolding.{IsMissedIn, IsStart, IsUnfolding}
use Rattle.addr_history.specs.declared.reading.Item2.{Item2}
use Rattle.addr_history.specs.declared.reading.Place.{Place}
use Rattle.addr_history.specs.declared.reading.ReadErr.{ReadErr}
use Rattle.addr_history.specs.declared.reading.ReadErr.TheVariants.{NoHandle, NoAsset, Pending, Failed, Absent, NoMemory as WantOfMemory}

-- the object that an image which may be there has under a GUID
abbrev pub object_under : {I : Type 0} → (I → List ℕ → Option Object) → Option (Option I) → List ℕ → Option Object
object_under held None guid = None
object_under held (Some None) guid = None
object_under held (Some (Some image)) guid = held image guid

-- what the images that are kept hold: the image in a bundle's place is the one handed to the bundle's last Done
abbrev pub objects_in : {I : Type 0} → (I → List ℕ → Option Object) → List (Option I) → BundleNo → List ℕ → Option Object
objects_in held images b guid = object_under held (slice_get images b.0) guid

-- the bytes of the object that a bundle holds under an id; memory is wanted only where it holds one
abbrev pub FindsBytes : (BundleNo → List ℕ → Option Object) → BundleNo → List ℕ → Result (Option (List ℕ)) NoMemory → Type 0
FindsBytes objects b id (Ok (Some bytes)) = (o : Object) × Holds objects b id o × (bytes ≡ o.bytes)
FindsBytes objects b id (Ok None) = (o : Object) → Holds objects b id o → ⊥
FindsBytes objects b id (Err none) = (o : Object) × Holds objects b id o

-- the bytes of an asset row's object in its first dependency, which is named where it holds none
abbrev pub ReadsAsset : (BundleNo → List ℕ → Option Object) → AssetRow → Result (List ℕ) ReadErr → Type 0
ReadsAsset objects a (Ok bytes) = (b : BundleNo) × (slice_get a.deps 0 ≡ Some b) × (o : Object) × Holds objects b a.id o × (bytes ≡ o.bytes)
ReadsAsset objects a (Err (Absent b)) = (slice_get a.deps 0 ≡ Some b) × ((o : Object) → Holds objects b a.id o → ⊥)
ReadsAsset objects a (Err WantOfMemory) = (b : BundleNo) × (slice_get a.deps 0 ≡ Some b) × ((o : Object) × Holds objects b a.id o)
ReadsAsset objects a (Err NoHandle) = ⊥
ReadsAsset objects a (Err NoAsset) = ⊥
ReadsAsset objects a (Err Pending) = ⊥
ReadsAsset objects a (Err (Failed b cause)) = ⊥

-- what an asset row's object leads to among some bundles; want of memory may come in place of each answer
abbrev pub ReadsAllOfAsset : (BundleNo → List ℕ → Option Object) → List BundleRow → List BundleNo → AssetRow → Result (List Item2) ReadErr → Type 0
ReadsAllOfAsset objects bundles needs a (Ok items) = (home : BundleNo) × (slice_get a.deps 0 ≡ Some home) × (start : Place) × IsStart a home start × IsUnfolding objects bundles needs start items
ReadsAllOfAsset objects bundles needs a (Err (Absent b)) = (home : BundleNo) × (slice_get a.deps 0 ≡ Some home) × IsMissedIn objects bundles needs a home b
ReadsAllOfAsset objects bundles needs a (Err WantOfMemory) = Unit {0}
ReadsAllOfAsset objects bundles needs a (Err NoHandle) = ⊥
ReadsAllOfAsset objects bundles needs a (Err NoAsset) = ⊥
ReadsAllOfAsset objects bundles needs a (Err Pending) = ⊥
ReadsAllOfAsset objects bundles needs a (Err (Failed b cause)) = ⊥
