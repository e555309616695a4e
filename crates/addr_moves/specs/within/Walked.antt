-- The ways of entries by number, as they are walked.
use Rattle.std.specs.Prelude.{ℕ, ◌≡◌, ◌⊎◌, List, [], ◌∷◌, Option, Some, None}
use Rattle.std.specs.List.{Contains, slice_get}
use Rattle.std.specs.Ordering.{nat_cmp}
use Rattle.addr_base.specs.declared.ids.Guid.{Guid}
use Rattle.addr_resolve.specs.declared.graph.PlaceRow.{PlaceRow}
use Rattle.addr_update.specs.declared.model.Why.{Why}
use Rattle.addr_update.specs.declared.model.Why.TheVariants.{Before, Unknown, Changed, Led}
use Rattle.addr_update.specs.Leading.{TellsLedAt}
use Rattle.addr_walks.specs.Rows.{LedTo}
use Rattle.addr_walks.specs.Walks.{IsListOf}

-- the numbers of the places of a way, from its start; none where the start holds nothing
abbrev pub IsWay : List (List ℕ) → Option ℕ → List ℕ → Type 0
IsWay rows None found = found ≡ []
IsWay rows (Some n) found = IsListOf nat_cmp (LedTo rows (n ∷ [])) found

-- the number of a place, or none where it holds nothing
abbrev pub IsStart : List PlaceRow → Guid → ℕ → Option ℕ → Type 0
IsStart places a m None = Contains places (record { guid = a; bundle = m }) → ⊥
IsStart places a m (Some n) = slice_get places n ≡ Some (record { guid = a; bundle = m })

-- an entry's start is none of the doubted places
abbrev pub IsClear : List ℕ → Option ℕ → Type 0
IsClear doubted start = (n : ℕ) × (start ≡ Some n) × (Contains doubted n → ⊥)

-- the least asset to which a reference on the way is led away, as the reason of a move
abbrev pub IsLedFrom : List (List ℕ) → List (Option Guid) → Option ℕ → Option Why → Type 0
IsLedFrom rows away None why = why ≡ None
IsLedFrom rows away (Some n) None = TellsLedAt rows away n None
IsLedFrom rows away (Some n) (Some Before) = ⊥
IsLedFrom rows away (Some n) (Some Unknown) = ⊥
IsLedFrom rows away (Some n) (Some (Changed d)) = ⊥
IsLedFrom rows away (Some n) (Some (Led d)) = TellsLedAt rows away n (Some d)
