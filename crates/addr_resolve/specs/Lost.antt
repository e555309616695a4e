-- The least GUID that a walk loses.
use Rattle.std.specs.Prelude.{ℕ, ◌≡◌, ◌⊎◌, List, Option, Some, None, replicate}
use Rattle.std.proofs.Common.{Less, Equal, Greater}
use Rattle.std.specs.List.{Contains, slice_get}
use Rattle.std.specs.declared.cmp.Ordering.{Ordering}
use Rattle.addr_base.specs.Ids.{Are16Bytes, ReadsHex, hex_of}
use Rattle.addr_base.specs.declared.ids.Guid.{Guid}
use Rattle.addr_cab.specs.declared.object.ObjectOut.{ObjectOut}
use Rattle.addr_layout.specs.Agreement.{Place, place}
use Rattle.addr_locate.specs.declared.rows.AssetRow.{AssetRow}
use Rattle.addr_project.specs.Reach.{guid_cmp}
use Rattle.addr_release.specs.Opened.{Opened, Holds, Jumps}
use Rattle.addr_resolve.specs.Graph.{Misses}
use Rattle.addr_walks.specs.Walks.{Leads}

-- the second one where it is the lesser
abbrev pub if_less : Ordering → Guid → Guid → Guid
if_less Less a b = b
if_less Equal a b = a
if_less Greater a b = a

-- the lesser of two GUIDs that may be there
abbrev pub lesser : Option Guid → Option Guid → Option Guid
lesser None other = other
lesser (Some a) None = Some a
lesser (Some a) (Some b) = Some (if_less (guid_cmp b a) a b)

-- the least GUID that stands at some numbers, if one does
abbrev pub IsLeastOf : List (Option Guid) → List ℕ → Option Guid → Type 0
IsLeastOf lost found None = (n : ℕ) (g : Guid) → Contains found n → slice_get lost n ≡ Some (Some g) → ⊥
IsLeastOf lost found (Some g) = ((n : ℕ) × Contains found n × (slice_get lost n ≡ Some (Some g)))
    × ((n : ℕ) (h : Guid) → Contains found n → slice_get lost n ≡ Some (Some h) → guid_cmp h g ≡ Less → ⊥)

-- a place of the walk misses the GUID
abbrev pub IsMissed : List Opened → Place → Guid → Type 0
IsMissed files start g = (s : Place) × Leads (Jumps files) start s × Misses files s g

-- the least GUID that a place of the walk misses
abbrev pub IsFirstLost : List Opened → Place → Guid → Type 0
IsFirstLost files start g = IsMissed files start g × ((h : Guid) → IsMissed files start h → guid_cmp h g ≡ Less → ⊥)

-- a step of the walk from a place doesn't find the GUID: that of the place itself, which holds nothing, or that of a reference
abbrev pub IsUnfound : List Opened → Place → Guid → Type 0
IsUnfound files start g = ((start.guid ≡ g) × ¬ ((o : ObjectOut) × Holds files start o)) ⊎ IsMissed files start g

-- the least GUID that a step of the walk doesn't find
abbrev pub IsFirstUnfound : List Opened → Place → Guid → Type 0
IsFirstUnfound files start g = IsUnfound files start g × ((h : Guid) → IsUnfound files start h → guid_cmp h g ≡ Less → ⊥)

-- the GUID that is told where a row's id is no GUID
abbrev pub no_guid : Guid
no_guid = record { 0 = replicate 16 0 }

-- a row is lost with a GUID: its id is no GUID, or a step of the walk from its GUID in a bundle, its first dependency, doesn't
-- find one, and this is the least
abbrev pub LosesRow : List Opened → AssetRow → ℕ → Guid → Type 0
LosesRow files row first lost = (ReadsHex row.id None × (lost ≡ no_guid))
    ⊎ ((guid : Guid) × Are16Bytes guid.0 × (row.id ≡ hex_of guid.0) × IsFirstUnfound files (place first guid) lost)
