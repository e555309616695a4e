-- The state of a search: the places that were found, in the order in which they were, and a set that tells which were.
use Rattle.std.specs.Prelude.{ℕ, ◌≡◌, ◌<◌, ◌≤◌, true, List, [], ◌++◌, Option, Some, None, Result, Ok, Err, slice_get}
use Rattle.std.specs.BTreeSet.{BTreeSet, contains}
use Rattle.std.specs.List.{Contains}
use Rattle.std.specs.Ordering.{nat_cmp, ordering_then}
use Rattle.std.specs.declared.cmp.Ordering.{Ordering}
use Rattle.std.proofs.Common.{Greater}
use Rattle.addr_base.specs.Images.{Object}
use Rattle.addr_base.specs.declared.ids.BundleNo.{BundleNo}
use Rattle.addr_base.specs.declared.ids.Guid.{Guid}
use Rattle.addr_locate.specs.declared.rows.BundleRow.{BundleRow}
use Rattle.addr_history.specs.Unfolding.{guid_cmp, item_cmp, item_of, object_at, IsLeastMiss, IsUnfolding}
use Rattle.addr_history.specs.declared.reading.Item2.{Item2}
use Rattle.addr_history.specs.declared.reading.Place.{Place}
use Rattle.addr_history.specs.declared.reading.ReadErr.{ReadErr}
use Rattle.addr_history.specs.declared.reading.ReadErr.TheVariants.{NoHandle, NoAsset, Pending, Failed, Absent, NoMemory}
use Rattle.addr_walks.specs.Walks.{IsListOf, Leads}

-- places are ordered by the GUID, and then by the bundle
abbrev pub place_cmp : Place → Place → Ordering
place_cmp q s = ordering_then (guid_cmp q.guid s.guid) (nat_cmp q.bundle s.bundle)

-- what is in the set is in the list
abbrev pub Tracks : BTreeSet Place → List Place → Type 0
Tracks seen found = (q : Place) → contains place_cmp seen q ≡ true → Contains found q

-- a list goes on with some of these places, and holds each of them
pub record Grows (these : Place → Type 0) (old new : List Place) : Type 0 where
  pub added : List Place
  pub is : new ≡ old ++ added
  pub only : (q : Place) → Contains added q → these q
  pub each : (q : Place) → these q → Contains new q

-- walks lead to what was found, the start among it; and where the first n lead to was found
pub record Searches (step : Place → Place → Type 0) (start : Place) (found : List Place) (n : ℕ) : Type 0 where
  pub begins : Contains found start
  pub led : (q : Place) → Contains found q → Leads step start q
  pub on : (i : ℕ) (q s : Place) → i < n → slice_get found i ≡ Some q → step q s → Contains found s

-- the least bundle among those of some places, if any is one of these
abbrev pub IsLeastAmong : (Place → Type 0) → List Place → Option ℕ → Type 0
IsLeastAmong these places None = (q : Place) → Contains places q → these q → ⊥
IsLeastAmong these places (Some b) = ((q : Place) × Contains places q × these q × (q.bundle ≡ b)) × ((q : Place) → Contains places q → these q → b ≤ q.bundle)

-- the item that a place holds
abbrev pub IsItemAt : (BundleNo → List ℕ → Option Object) → Place → Item2 → Type 0
IsItemAt objects q i = (o : Object) × (object_at objects q ≡ Some o) × (i ≡ item_of q.guid o)

-- of the places with one GUID, the item in the least bundle
abbrev pub TakenOf : (BundleNo → List ℕ → Option Object) → List Place → Item2 → Type 0
TakenOf objects places i = (q : Place) × Contains places q × IsItemAt objects q i × ((s : Place) → Contains places s → s.guid ≡ q.guid → q.bundle ≤ s.bundle)

-- one item for each GUID
abbrev pub Picks : (BundleNo → List ℕ → Option Object) → List Place → List Item2 → Type 0
Picks objects places items = IsListOf item_cmp (TakenOf objects places) items

-- the GUID of the last of some places in their order, if there is one
abbrev pub IsLast : List Place → Option Guid → Type 0
IsLast places None = places ≡ []
IsLast places (Some g) = ((q : Place) × Contains places q × (q.guid ≡ g)) × ((q : Place) → Contains places q → guid_cmp q.guid g ≡ Greater → ⊥)

-- the unfolding from a place, or the least bundle in which its walk misses something; want of memory may come in place of both
abbrev pub Unfolds : (BundleNo → List ℕ → Option Object) → List BundleRow → List BundleNo → Place → Result (List Item2) ReadErr → Type 0
Unfolds objects bundles needs start (Ok items) = IsUnfolding objects bundles needs start items
Unfolds objects bundles needs start (Err (Absent b)) = IsLeastMiss objects bundles needs start b
Unfolds objects bundles needs start (Err NoMemory) = Unit {0}
Unfolds objects bundles needs start (Err NoHandle) = ⊥
Unfolds objects bundles needs start (Err NoAsset) = ⊥
Unfolds objects bundles needs start (Err Pending) = ⊥
Unfolds objects bundles needs start (Err (Failed b cause)) = ⊥
