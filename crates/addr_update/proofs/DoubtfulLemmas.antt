-- A place from which no bad place is reached has a clean way; and rows turned round lead back.
use Rattle.std.proofs.Common.{◌≡◌, ℕ, List, length, Some, refl, sym, subst, arith}
use Rattle.std.proofs.lemmas.Option.{slice_get_within}
use Rattle.std.specs.List.{slice_get}
use Rattle.std.specs.Ordering.{nat_cmp}
use Rattle.addr_layout.specs.Agreement.{Place}
use Rattle.addr_release.specs.Opened.{Jumps}
use Rattle.addr_resolve.specs.Graph.{place_at}
use Rattle.addr_resolve.specs.declared.graph.PlaceRow.{PlaceRow}
use Rattle.addr_walks.specs.Rows.{AreBelow, Edge, LedTo}
use Rattle.addr_walks.specs.Walks.{IsListOf, Leads}
use Rattle.addr_walks.specs.Walks.Leads.{stays, goes}
use Rattle.addr_walks.proofs.Lists.{IsListOf-same}
use Rattle.addr_walks.proofs.Walking.{Leads-join}
use Rattle.addr_update.specs.Clean.{HasCleanWay, IsClean}
use Rattle.addr_update.specs.Doubtful.{AreBad, IsDoubtful, IsWays}
use Rattle.addr_update.specs.within.Turned.{IsTurned}
use Rattle.addr_update.specs.Moved.{Update}

module _ (u : Update) (places : List PlaceRow) (rows : List (List ℕ)) (ways : IsWays u places rows) where
  way-down : (m : ℕ) (q : PlaceRow) (s : Place) → slice_get places m ≡ Some q → Leads (Jumps u.was) (place_at q) s → (n : ℕ) × (row : PlaceRow) × (slice_get places n ≡ Some row) × (place_at row ≡ s) × Leads (Edge rows) m n
  way-down m q s at stays = (m, q, at, refl, stays)
  way-down m q s at (goes {x = x} {y = y} before last) =
      let sofar = way-down m q x at before in
      let step = ways.down sofar.0 sofar.1 y sofar.2 (subst (λ w. Jumps u.was w y) (sym sofar.3) last) in
      (step.0, step.1, step.2, step.3, goes sofar.4 step.4)

  pub clean-way : (bad : List ℕ) → AreBad u places bad → (m : ℕ) (q : PlaceRow) → slice_get places m ≡ Some q → (IsDoubtful rows bad m → ⊥) → HasCleanWay u q.bundle q.guid
  clean-way bad are m q at never s way =
      let down = way-down m q s at way in
      subst (IsClean u) down.3 (are down.0 down.1 down.2 (λ here. never (down.0, here, down.4)))

turn-walk : (rows back : List (List ℕ)) → ((b c : ℕ) → Edge rows b c → Edge back c b) → (m n : ℕ) → Leads (Edge rows) m n → Leads (Edge back) n m
turn-walk rows back turned m n stays = stays
turn-walk rows back turned m n (goes {x = x} {y = y} before last) = Leads-join (Edge back) n x m (goes stays (turned x n last)) (turn-walk rows back turned m x before)

pub turned-below : (rows back : List (List ℕ)) → IsTurned rows back → length back ≡ length rows → AreBelow back (length back)
turned-below rows back turned many = record { each = λ c b edge. let from = (turned b c).1 edge in let small = slice_get_within rows b from.0 from.1 in omega (arith, small, many) }

pub doubtful-list : (rows back : List (List ℕ)) (bad found : List ℕ) → IsTurned rows back → IsListOf nat_cmp (LedTo back bad) found → IsListOf nat_cmp (IsDoubtful rows bad) found
doubtful-list rows back bad found turned list =
    IsListOf-same (LedTo back bad) (IsDoubtful rows bad) (λ n (s, here, walk). (s, here, turn-walk back rows (λ c b edge. (turned b c).1 edge) s n walk)) (λ n (b, here, walk). (b, here, turn-walk rows back (λ b' c edge. (turned b' c).0 edge) n b walk)) found list
