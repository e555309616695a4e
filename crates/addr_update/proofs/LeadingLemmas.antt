-- The least asset at the numbers that a search finds is the least one that an entry is led away from.
use Rattle.std.proofs.Common.{◌≡◌, ◌<◌, ℕ, ◌⊎◌, inl, inr, List, [], ◌∷◌, length, get_or, Option, Some, None, Less, Equal, Greater, refl, subst, sym, ap, ◌∙◌}
use Rattle.std.proofs.lemmas.List.Elements.{Contains-get_or}
use Rattle.std.specs.List.{Contains, slice_get}
use Rattle.std.specs.Ordering.{nat_cmp, ordering_reverse}
use Rattle.std.specs.declared.cmp.Ordering.{Ordering}
use Rattle.addr_base.specs.declared.ids.Guid.{Guid}
use Rattle.addr_cab.specs.declared.object.ObjectOut.{ObjectOut}
use Rattle.addr_layout.specs.Agreement.{Place, place}
use Rattle.addr_layout.proofs.GuidLemmas.{exact-guid, guid_total}
use Rattle.addr_project.specs.Reach.{guid_cmp}
use Rattle.addr_release.proofs.ImageLemmas.{beside}
use Rattle.addr_release.specs.Opened.{Holds, Jumps}
use Rattle.addr_resolve.specs.Graph.{Finds, IsGraph, place_at}
use Rattle.addr_resolve.specs.Lost.{IsLeastOf}
use Rattle.addr_resolve.specs.declared.graph.PlaceRow.{PlaceRow}
use Rattle.addr_walks.specs.Rows.{AreBelow, Edge, LedTo}
use Rattle.addr_walks.specs.Walks.{IsListOf, Leads}
use Rattle.addr_walks.specs.Walks.Leads.{stays, goes}
use Rattle.addr_walks.proofs.Lists.{Contains-cases, Contains-here, Contains-none}
use Rattle.addr_update.specs.Leading.{AreAway, IsAwayFrom, TellsLed}
use Rattle.addr_update.specs.Moved.{Update, IsLedAway, IsOld}
use Rattle.addr_update.proofs.SplitLemmas.{one-first}

below-both : (h a b : Guid) → (guid_cmp h a ≡ Less → ⊥) → (guid_cmp a b ≡ Less → ⊥) → guid_cmp h b ≡ Less → ⊥
below-both h a b first second less = by_order (guid_cmp h a) refl
  where
    by_order : (o : Ordering) → guid_cmp h a ≡ o → ⊥
    by_order Less is = first is
    by_order Equal is = second (subst (λ x. guid_cmp x b ≡ Less) (exact-guid h a is) less)
    by_order Greater is =
        let turned : guid_cmp a h ≡ Less = guid_total.antisymm a h ∙ ap ordering_reverse is in
        second (guid_total.trans a h b turned less)

-- what one number leads to
own-walk : (rows : List (List ℕ)) (first n : ℕ) → LedTo rows (first ∷ []) n → Leads (Edge rows) first n
own-walk rows first n (s, here, walk) = by_start (Contains-cases first [] s here)
  where
    by_start : (first ≡ s) ⊎ Contains [] s → Leads (Edge rows) first n
    by_start (inl same) = subst (λ k. Leads (Edge rows) k n) (sym same) walk
    by_start (inr none) = absurd (Contains-none s none)

walk-below : (rows : List (List ℕ)) (first n : ℕ) → AreBelow rows (length rows) → first < length rows → Leads (Edge rows) first n → n < length rows
walk-below rows first n below small stays = small
walk-below rows first n below small (goes {x = x} {y = y} before last) = below.each x n last

-- what is found are numbers of rows
pub found-below : (rows : List (List ℕ)) (first : ℕ) (found : List ℕ) → AreBelow rows (length rows) → first < length rows → IsListOf nat_cmp (LedTo rows (first ∷ [])) found
    → (k d : ℕ) → k < length found → get_or found k d < length rows
found-below rows first found below within list k d small =
    walk-below rows first (get_or found k d) below within (own-walk rows first (get_or found k d) (list.within (get_or found k d) (Contains-get_or found k d small)))

module _ (u : Update) (places : List PlaceRow) (rows : List (List ℕ)) (lost : List (Option Guid)) (away : List (Option Guid)) (many : length away ≡ length rows) (graph : IsGraph u.was places rows lost) (are : AreAway u places away)
    (first : ℕ) (start : PlaceRow) (begins : slice_get places first ≡ Some start) (old : IsOld u start.guid start.bundle) (found : List ℕ) (list : IsListOf nat_cmp (LedTo rows (first ∷ [])) found) where
  -- a walk over places that hold something has numbers, and numbers have a walk
  way-down : (s : Place) (o : ObjectOut) → Leads (Jumps u.was) (place_at start) s → Holds u.was s o → (n : ℕ) × (row : PlaceRow) × (slice_get places n ≡ Some row) × (place_at row ≡ s) × Leads (Edge rows) first n
  way-down s o stays holds = (first, start, begins, refl, stays)
  way-down s o (goes {x = x} {y = y} before jump) holds =
      let sofar = way-down x jump.0 before jump.1 in
      let step = graph.down sofar.0 sofar.1 s sofar.2 (subst (λ w. Finds u.was w s) (sym sofar.3) (jump, (o, holds))) in
      (step.0, step.1, step.2, step.3, goes sofar.4 step.4)

  way-up : (n : ℕ) → Leads (Edge rows) first n → (q : PlaceRow) × (slice_get places n ≡ Some q) × Leads (Jumps u.was) (place_at start) (place_at q)
  way-up n stays = (start, begins, stays)
  way-up n (goes {x = x} {y = y} before last) =
      let sofar = way-up x before in
      let step = graph.up x n sofar.0 sofar.1 last in
      (step.0, step.1, goes sofar.2 step.2.0)

  beside-away : (n : ℕ) (q : PlaceRow) → slice_get places n ≡ Some q → (l : Option Guid) × (slice_get away n ≡ Some l)
  beside-away n q at = beside places away n q (many ∙ graph.rows_many) at

  -- what an entry is led away from, it is at a number that is found
  at-number : (d : Guid) → IsLedAway u start.guid d → (n : ℕ) × (row : PlaceRow) × (slice_get places n ≡ Some row) × Contains found n × IsAwayFrom u (place_at row) d
  at-number d (q, (m, other, way), o, holds, r, here, guid, fails) =
      let walk = subst (λ k. Leads (Jumps u.was) (place k start.guid) q) (one-first u start.guid m start.bundle other old) way in
      let at = way-down q o walk holds in
      (at.0, at.1, at.2, list.all at.0 (first, Contains-here first [], at.4), subst (λ s. IsAwayFrom u s d) (sym at.3) (o, holds, r, here, guid, fails))

  pub tells-led : (least : Option Guid) → IsLeastOf away found least → TellsLed u start.guid least
  tells-led None none = λ d led. (let at = at-number d led in by_away d at.0 at.1 at.2 at.3 at.4 (beside-away at.0 at.1 at.2))
    where
      by_away : (d : Guid) (n : ℕ) (row : PlaceRow) → slice_get places n ≡ Some row → Contains found n → IsAwayFrom u (place_at row) d → (l : Option Guid) × (slice_get away n ≡ Some l) → ⊥
      by_away d n row at here from (None, there) = are n row None at there d from
      by_away d n row at here from (Some g, there) = none n g here there
  tells-led (Some g) ((n, here, there), least) = (led, λ h other less. (let at = at-number h other in by_away h less at.0 at.1 at.2 at.3 at.4 (beside-away at.0 at.1 at.2)))
    where
      led : IsLedAway u start.guid g
      led =
          let at = way-up n (own-walk rows first n (list.within n here)) in
          let from = (are n at.0 (Some g) at.1 there).0 in
          (place_at at.0, (start.bundle, old, at.2), from.0, from.1, from.2, from.3, from.4, from.5)

      by_away : (h : Guid) → guid_cmp h g ≡ Less → (m : ℕ) (row : PlaceRow) → slice_get places m ≡ Some row → Contains found m → IsAwayFrom u (place_at row) h → (l : Option Guid) × (slice_get away m ≡ Some l) → ⊥
      by_away h less m row at among from (None, there') = are m row None at there' h from
      by_away h less m row at among from (Some l, there') = below-both h l g ((are m row (Some l) at there').1 h from) (λ below. least m l among there' below) less
