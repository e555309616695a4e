-- What reading an asset with all that it leads to is answered. What the images hold is an argument, as for reading alone.
use Rattle.std.specs.Prelude.{ℕ, ◌≡◌, ◌<◌, ◌≤◌, ◌⊎◌, List, Option, Some, None, Result, Ok, Err, map, slice_get}
use Rattle.std.specs.Cmp.Lexicographic.{slice_cmp}
use Rattle.std.specs.List.{Contains}
use Rattle.std.specs.Ordering.{nat_cmp}
use Rattle.std.specs.declared.cmp.Ordering.{Ordering}
use Rattle.addr_base.specs.Images.{Object}
use Rattle.addr_base.specs.declared.ids.BundleNo.{BundleNo}
use Rattle.addr_base.specs.declared.ids.Digest.{Digest}
use Rattle.addr_base.specs.declared.ids.Guid.{Guid}
use Rattle.addr_base.specs.declared.ids.OpId.{OpId}
use Rattle.addr_base.specs.declared.images.Home.{Home}
use Rattle.addr_base.specs.declared.images.Home.TheVariants.{Own, Other}
use Rattle.addr_base.specs.declared.images.RefTo.{RefTo}
use Rattle.addr_locate.specs.Rows.{Rows}
use Rattle.addr_locate.specs.declared.rows.AssetRow.{AssetRow}
use Rattle.addr_locate.specs.declared.rows.BundleRow.{BundleRow}
use Rattle.addr_walks.specs.Walks.{Leads, IsListOf}
use Rattle.addr_history.specs.declared.event.Event.{Event}
use Rattle.addr_history.specs.declared.reading.Item2.{Item2}
use Rattle.addr_history.specs.declared.reading.Place.{Place}
use Rattle.addr_history.specs.declared.reading.ReadErr.{ReadErr}
use Rattle.addr_history.specs.declared.reading.ReadErr.TheVariants.{NoHandle, NoAsset, Pending, Failed, Absent, NoMemory}
use Rattle.addr_history.specs.Counts.{needs_of_op}
use Rattle.addr_history.specs.Reading.{MayRead, Spells, row_reply}

-- ---- where references lead

-- the bundle with a number
abbrev pub bundle_no : ℕ → BundleNo
bundle_no n = record { 0 = n }

-- a bundle's name is the 32 digits of a digest
abbrev pub IsNamed : List BundleRow → Digest → BundleNo → Type 0
IsNamed bundles digest b = (row : BundleRow) × (slice_get bundles b.0 ≡ Some row) × Spells row.name digest.0

-- the first of the needed bundles whose name is the digits of a digest
abbrev pub IsFirstNamed : List BundleRow → List BundleNo → Digest → BundleNo → Type 0
IsFirstNamed bundles needs digest b = (k : ℕ) × (slice_get needs k ≡ Some b) × IsNamed bundles digest b
    × ((j : ℕ) (c : BundleNo) → j < k → slice_get needs j ≡ Some c → IsNamed bundles digest c → ⊥)

-- from a bundle a home leads to the bundle itself, or to the first needed bundle with that name
abbrev pub LeadsTo : List BundleRow → List BundleNo → ℕ → Home → ℕ → Type 0
LeadsTo bundles needs b Own c = b ≡ c
LeadsTo bundles needs b (Other digest) c = IsFirstNamed bundles needs digest (bundle_no c)

-- one of the references of a bundle's object leads to a place
abbrev pub RefersTo : List BundleRow → List BundleNo → ℕ → List RefTo → Place → Type 0
RefersTo bundles needs b refs to = (r : RefTo) × Contains refs r × (r.guid ≡ to.guid) × LeadsTo bundles needs b r.home to.bundle

-- one of them leads to no needed bundle
abbrev pub Strays : List BundleRow → List BundleNo → ℕ → List RefTo → Type 0
Strays bundles needs b refs = (r : RefTo) × Contains refs r × ((c : ℕ) → LeadsTo bundles needs b r.home c → ⊥)

-- ---- the walk through the images

-- an object as it is read
abbrev pub item_of : Guid → Object → Item2
item_of guid o = record { guid = guid; bytes = o.bytes; refs = map (λ r. r.guid) o.refs }

-- GUIDs are ordered by their bytes, items by their GUIDs
abbrev pub guid_cmp : Guid → Guid → Ordering
guid_cmp x y = slice_cmp nat_cmp x.0 y.0

abbrev pub item_cmp : Item2 → Item2 → Ordering
item_cmp x y = guid_cmp x.guid y.guid

module _ (objects : BundleNo → List ℕ → Option Object) where
  -- the object at a place, if there is one
  abbrev pub object_at : Place → Option Object
  object_at q = objects (bundle_no q.bundle) q.guid.0

  module _ (bundles : List BundleRow) (needs : List BundleNo) where
    -- a step: the object at a place refers to another place
    abbrev pub Jumps : Place → Place → Type 0
    Jumps from to = (o : Object) × (object_at from ≡ Some o) × RefersTo bundles needs from.bundle o.refs to

    -- a place that holds nothing, or an object with a reference to no needed bundle
    abbrev pub Misses : Place → Type 0
    Misses q = (object_at q ≡ None) ⊎ ((o : Object) × (object_at q ≡ Some o) × Strays bundles needs q.bundle o.refs)

    -- the least bundle in which the walk misses something
    abbrev pub IsLeastMiss : Place → BundleNo → Type 0
    IsLeastMiss start b = ((q : Place) × Leads Jumps start q × Misses q × (q.bundle ≡ b.0))
        × ((q : Place) → Leads Jumps start q → Misses q → b.0 ≤ q.bundle)

    -- of the places of the walk with one GUID, the object in the least bundle
    abbrev pub Taken : Place → Item2 → Type 0
    Taken start i = (q : Place) × Leads Jumps start q × (o : Object) × (object_at q ≡ Some o) × (i ≡ item_of q.guid o)
        × ((s : Place) → Leads Jumps start s → s.guid ≡ q.guid → q.bundle ≤ s.bundle)

    -- the unfolding from a place, whose walk misses nothing: one item for each GUID of the walk, in the order of GUIDs
    pub record IsUnfolding (start : Place) (items : List Item2) : Type 0 where
      pub whole : (q : Place) → Leads Jumps start q → Misses q → ⊥
      pub lists : IsListOf item_cmp (Taken start) items

-- ---- the answer

-- where an asset row's walk starts: in its first dependency, at the GUID that its id spells
abbrev pub IsStart : AssetRow → BundleNo → Place → Type 0
IsStart a home start = Spells a.id start.guid.0 × (start.bundle ≡ home.0)

-- the bundle in which something is missed: the first dependency where the id is no GUID, else the least one
abbrev pub IsMissedIn : (BundleNo → List ℕ → Option Object) → List BundleRow → List BundleNo → AssetRow → BundleNo → BundleNo → Type 0
IsMissedIn objects bundles needs a home b =
    (((guid : List ℕ) → Spells a.id guid → ⊥) × (b ≡ home))
    ⊎ ((start : Place) × IsStart a home start × IsLeastMiss objects bundles needs start b)

-- read_all: the unfolding from the row's object over the bundles that the operation needs; want of memory is no answer
abbrev pub ReadsAll : (BundleNo → List ℕ → Option Object) → Rows → List Event → OpId → ℕ → Result (List Item2) ReadErr → Type 0
ReadsAll objects rows h op i (Ok items) = (a : AssetRow) × (home : BundleNo) × MayRead rows h op i a home × (start : Place) × IsStart a home start × IsUnfolding objects rows.bundles (needs_of_op rows h op) start items
ReadsAll objects rows h op i (Err (Absent b)) = (a : AssetRow) × (home : BundleNo) × MayRead rows h op i a home × IsMissedIn objects rows.bundles (needs_of_op rows h op) a home b
ReadsAll objects rows h op i (Err NoHandle) = row_reply rows h op i ≡ Err NoHandle
ReadsAll objects rows h op i (Err NoAsset) = row_reply rows h op i ≡ Err NoAsset
ReadsAll objects rows h op i (Err Pending) = row_reply rows h op i ≡ Err Pending
ReadsAll objects rows h op i (Err (Failed b cause)) = row_reply rows h op i ≡ Err (Failed b cause)
ReadsAll objects rows h op i (Err NoMemory) = ⊥
