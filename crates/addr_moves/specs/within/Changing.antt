-- What has changed on an entry's way.
use Rattle.std.specs.Prelude.{ℕ, ◌≡◌, ◌⊎◌, List, Option, Some, None}
use Rattle.std.specs.List.{Contains, slice_get}
use Rattle.addr_base.specs.declared.ids.Guid.{Guid}
use Rattle.addr_layout.specs.Members.{IsNumbered}
use Rattle.addr_project.specs.Model.{Project}
use Rattle.addr_resolve.specs.declared.graph.PlaceRow.{PlaceRow}

-- the GUID of the place with a number
abbrev pub AreSeen : List PlaceRow → ℕ → Guid → Type 0
AreSeen places n g = (q : PlaceRow) × (slice_get places n ≡ Some q) × (q.guid ≡ g)

-- a GUID is spoilt at one of some places
abbrev pub IsSpoiltAmong : List (List Guid) → List ℕ → Guid → Type 0
IsSpoiltAmong spoils found g = (n : ℕ) × Contains found n × (gs : List Guid) × (slice_get spoils n ≡ Some gs) × Contains gs g

pub record AreSpoilt (spoils : List (List Guid)) (found : List ℕ) (spoilt : List Guid) : Type 0 where
  pub within : (g : Guid) → Contains spoilt g → IsSpoiltAmong spoils found g
  pub all : (g : Guid) → IsSpoiltAmong spoils found g → Contains spoilt g

-- an asset isn't seen, or is spoilt
abbrev pub IsUnsettled : (List ℕ → Option ℕ) → (List ℕ → Option ℕ) → Guid → Type 0
IsUnsettled seen spoilt g = (seen g.0 ≡ None) ⊎ ((n : ℕ) × (spoilt g.0 ≡ Some n))

-- the GUIDs of unsettled assets among those with some numbers
pub record AreUnsettled (p : Project) (seen spoilt : List ℕ → Option ℕ) (reached : List ℕ) (guids : List Guid) : Type 0 where
  pub within : (g : Guid) → Contains guids g → (n : ℕ) × Contains reached n × IsNumbered p n g × IsUnsettled seen spoilt g
  pub all : (n : ℕ) (g : Guid) → Contains reached n → IsNumbered p n g → IsUnsettled seen spoilt g → Contains guids g

-- an asset is off the way: no place with one of some numbers has its GUID, or one is spoilt under it
abbrev pub IsOffWay : List PlaceRow → List (List Guid) → List ℕ → Guid → Type 0
IsOffWay places spoils found d = ((n : ℕ) → Contains found n → (g : Guid) → AreSeen places n g → g ≡ d → ⊥)
    ⊎ IsSpoiltAmong spoils found d

-- so is an asset among those with some numbers
abbrev pub IsChangedAmong : Project → List PlaceRow → List (List Guid) → List ℕ → List ℕ → Guid → Type 0
IsChangedAmong p places spoils reached found d = (n : ℕ) × Contains reached n × IsNumbered p n d × IsOffWay places spoils found d
