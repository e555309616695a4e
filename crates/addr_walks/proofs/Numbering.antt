-- Walks over numbers and walks over what the numbers name: where each edge is a step and each step an edge, they are the same.
use Rattle.std.proofs.Common.{◌≡◌, ℕ, List, Some, subst, sym}
use Rattle.std.specs.List.{slice_get}
use Rattle.addr_walks.specs.Rows.{Edge}
use Rattle.addr_walks.specs.Walks.{Leads}
use Rattle.addr_walks.specs.Walks.Leads.{stays, goes}

-- the rows' edges are steps between what stands at their numbers
pub record AreSteps {X : Type 0} (names : List X) (step : X → X → Type 0) (rows : List (List ℕ)) : Type 0 where
  pub up : (r s : ℕ) (x : X) → slice_get names r ≡ Some x → Edge rows r s → (y : X) × (slice_get names s ≡ Some y) × step x y
  pub down : (r : ℕ) (x y : X) → slice_get names r ≡ Some x → step x y → (s : ℕ) × (slice_get names s ≡ Some y) × Edge rows r s

pub walk-up : {X : Type 0} (names : List X) (step : X → X → Type 0) (rows : List (List ℕ)) → AreSteps names step rows → (r s : ℕ) (x : X) → slice_get names r ≡ Some x
    → Leads (Edge rows) r s → (y : X) × (slice_get names s ≡ Some y) × Leads step x y
walk-up names step rows steps r s x at stays = (x, at, stays)
walk-up names step rows steps r s x at (goes {x = m} {y = n} before last) =
    let sofar = walk-up names step rows steps r m x at before in
    let next = steps.up m n sofar.0 sofar.1 last in
    (next.0, next.1, goes sofar.2 next.2)

pub walk-down : {X : Type 0} (names : List X) (step : X → X → Type 0) (rows : List (List ℕ)) → AreSteps names step rows → (r : ℕ) (x y : X) → slice_get names r ≡ Some x
    → Leads step x y → (s : ℕ) × (slice_get names s ≡ Some y) × Leads (Edge rows) r s
walk-down names step rows steps r x y at stays = (r, at, stays)
walk-down names step rows steps r x y at (goes {x = m} {y = n} before last) =
    let sofar = walk-down names step rows steps r x m at before in
    let next = steps.down sofar.0 m n sofar.1 last in
    (next.0, next.1, goes sofar.2 next.2)
