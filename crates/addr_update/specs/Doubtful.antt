-- Which entries stay without a look at their own ways: those from whose places no bad place is reached.
use Rattle.std.specs.Prelude.{ℕ, ◌≡◌, List, Some}
use Rattle.std.specs.List.{Contains, slice_get}
use Rattle.addr_base.specs.declared.ids.Guid.{Guid}
use Rattle.addr_layout.specs.Agreement.{Place}
use Rattle.addr_project.specs.Model.{Project}
use Rattle.addr_release.specs.Opened.{Jumps}
use Rattle.addr_resolve.specs.Graph.{place_at}
use Rattle.addr_resolve.specs.declared.graph.PlaceRow.{PlaceRow}
use Rattle.addr_walks.specs.Rows.{Edge}
use Rattle.addr_walks.specs.Walks.{Leads}
use Rattle.addr_update.specs.Clean.{IsClean}
use Rattle.addr_update.specs.Moved.{Update, HasChanged, IsLedAway, IsOld}

-- rows lead wherever references of numbered places do, also to places that hold nothing
pub record IsWays (u : Update) (places : List PlaceRow) (rows : List (List ℕ)) : Type 0 where
  pub down : (m : ℕ) (q : PlaceRow) (s : Place) → slice_get places m ≡ Some q → Jumps u.was (place_at q) s
      → (n : ℕ) × (row : PlaceRow) × (slice_get places n ≡ Some row) × (place_at row ≡ s) × Edge rows m n

-- every place but the bad ones is clean
abbrev pub AreBad : Update → List PlaceRow → List ℕ → Type 0
AreBad u places bad = (n : ℕ) (q : PlaceRow) → slice_get places n ≡ Some q → (Contains bad n → ⊥) → IsClean u (place_at q)

-- a walk leads to a bad place
abbrev pub IsDoubtful : List (List ℕ) → List ℕ → ℕ → Type 0
IsDoubtful rows bad n = (b : ℕ) × Contains bad b × Leads (Edge rows) n b

-- an entry whose old place isn't doubtful is neither changed nor led away
abbrev pub WaysTell : Project → Type 0
WaysTell p = (u : Update) → u.project ≡ p → (places : List PlaceRow) (rows : List (List ℕ)) (bad : List ℕ)
    → IsWays u places rows → AreBad u places bad → (m : ℕ) (q : PlaceRow) → slice_get places m ≡ Some q → IsOld u q.guid q.bundle
    → (IsDoubtful rows bad m → ⊥) → (d : Guid) → (¬ HasChanged u q.guid d) × (¬ IsLedAway u q.guid d)
