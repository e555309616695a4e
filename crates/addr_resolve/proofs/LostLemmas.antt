-- The least GUID that a walk misses is the least one among those at the numbers that are found.
use Rattle.std.proofs.Common.{◌≡◌, ◌<◌, ◌+◌, ℕ, List, [], ◌∷◌, ◌++◌, length, get_or, take, Option, Some, None, Less, Equal, Greater, refl, ap, subst, sym, ◌∙◌, ◌⊎◌, inl, inr}
use Rattle.std.proofs.lemmas.List.{take_more}
use Rattle.std.proofs.lemmas.List.Elements.{Contains-append_left, Contains-push, Contains-push_cases, All-from_recursion, Contains-get_or}
use Rattle.addr_layout.proofs.FoundLemmas.{led-below}
use Rattle.std.specs.List.{Contains, slice_get}
use Rattle.std.specs.Ordering.{nat_cmp, ordering_reverse}
use Rattle.std.specs.declared.cmp.Ordering.{Ordering}
use Rattle.addr_base.specs.declared.ids.Guid.{Guid}
use Rattle.addr_cab.specs.declared.object.ObjectOut.{ObjectOut}
use Rattle.addr_layout.specs.Agreement.{Place, place}
use Rattle.addr_layout.proofs.GuidLemmas.{exact-guid, guid_total}
use Rattle.addr_layout.proofs.RankLemmas.{same-some}
use Rattle.addr_project.specs.Reach.{guid_cmp}
use Rattle.addr_walks.specs.Rows.{AreBelow, LedTo}
use Rattle.addr_walks.specs.Walks.{IsListOf, Leads}
use Rattle.addr_walks.specs.Walks.Leads.{stays, goes}
use Rattle.addr_release.proofs.ImageLemmas.{beside}
use Rattle.addr_release.specs.Opened.{Opened, Holds, Jumps}
use Rattle.addr_resolve.specs.Graph.{Finds, IsComplete, IsGraph, Misses, place_at}
use Rattle.addr_resolve.specs.Lost.{if_less, lesser, IsFirstLost, IsLeastOf, IsMissed}
use Rattle.addr_resolve.specs.declared.graph.PlaceRow.{PlaceRow}
use Rattle.addr_resolve.proofs.UnfoldLemmas.{found-place, jumps, place-found}

-- what isn't below the lesser one isn't below the other
pub below-both : (h a b : Guid) → (guid_cmp h a ≡ Less → ⊥) → (guid_cmp a b ≡ Less → ⊥) → guid_cmp h b ≡ Less → ⊥
below-both h a b first second less = by_order (guid_cmp h a) refl
  where
    by_order : (o : Ordering) → guid_cmp h a ≡ o → ⊥
    by_order Less is = first is
    by_order Equal is = second (subst (λ x. guid_cmp x b ≡ Less) (exact-guid h a is) less)
    by_order Greater is =
        let turned : guid_cmp a h ≡ Less = guid_total.antisymm a h ∙ ap ordering_reverse is in
        second (guid_total.trans a h b turned less)

pub never-itself : (g : Guid) → guid_cmp g g ≡ Less → ⊥
never-itself g less = let turned : Less ≡ Greater = sym less ∙ (guid_total.antisymm g g ∙ ap ordering_reverse less) in absurd (cc turned)

module _ (lost : List (Option Guid)) (xs : List ℕ) (n : ℕ) where
  -- one more number, of a place that misses nothing
  keeps-least : (best : Option Guid) → slice_get lost n ≡ Some None → IsLeastOf lost xs best → IsLeastOf lost (xs ++ n ∷ []) best
  keeps-least None at least = λ m g here there. by_place m g (Contains-push_cases xs n m here) there
    where
      by_place : (m : ℕ) (g : Guid) → Contains xs m ⊎ (n ≡ m) → slice_get lost m ≡ Some (Some g) → ⊥
      by_place m g (inl old) there' = least m g old there'
      by_place m g (inr same) there' = let clash : Some None ≡ Some (Some g) = sym at ∙ (ap (slice_get lost) same ∙ there') in absurd (cc clash)
  keeps-least (Some b) at (some, least) = (
    (some.0, Contains-append_left xs (n ∷ []) some.0 some.1, some.2),
    λ m h here there less. by_place m h (Contains-push_cases xs n m here) there less,
  )
    where
      by_place : (m : ℕ) (h : Guid) → Contains xs m ⊎ (n ≡ m) → slice_get lost m ≡ Some (Some h) → guid_cmp h b ≡ Less → ⊥
      by_place m h (inl old) there less = least m h old there less
      by_place m h (inr same) there less = let clash : Some None ≡ Some (Some h) = sym at ∙ (ap (slice_get lost) same ∙ there) in absurd (cc clash)

  own-guid : (g h : Guid) → slice_get lost n ≡ Some (Some g) → (m : ℕ) → n ≡ m → slice_get lost m ≡ Some (Some h) → g ≡ h
  own-guid g h at m same there = same-some g h (same-some (Some g) (Some h) (sym at ∙ (ap (slice_get lost) same ∙ there)))

  -- one more number, of a place that misses a GUID
  more-least : (best : Option Guid) (g : Guid) → slice_get lost n ≡ Some (Some g) → IsLeastOf lost xs best → IsLeastOf lost (xs ++ n ∷ []) (lesser best (Some g))
  more-least None g at least = (
    (n, Contains-push xs n, at),
    λ m h here there less. by_place m h (Contains-push_cases xs n m here) there less,
  )
    where
      by_place : (m : ℕ) (h : Guid) → Contains xs m ⊎ (n ≡ m) → slice_get lost m ≡ Some (Some h) → guid_cmp h g ≡ Less → ⊥
      by_place m h (inl old) there less = least m h old there
      by_place m h (inr same) there less = never-itself g (subst (λ x. guid_cmp x g ≡ Less) (sym (own-guid g h at m same there)) less)
  more-least (Some b) g at (some, least) = by_order (guid_cmp g b) refl
    where
      stays-least : (guid_cmp g b ≡ Less → ⊥) → IsLeastOf lost (xs ++ n ∷ []) (Some b)
      stays-least above = (
        (some.0, Contains-append_left xs (n ∷ []) some.0 some.1, some.2),
        λ m h here there less. by_place m h (Contains-push_cases xs n m here) there less,
      )
        where
          by_place : (m : ℕ) (h : Guid) → Contains xs m ⊎ (n ≡ m) → slice_get lost m ≡ Some (Some h) → guid_cmp h b ≡ Less → ⊥
          by_place m h (inl old) there less = least m h old there less
          by_place m h (inr same) there less = above (subst (λ x. guid_cmp x b ≡ Less) (sym (own-guid g h at m same there)) less)

      by_order : (o : Ordering) → guid_cmp g b ≡ o → IsLeastOf lost (xs ++ n ∷ []) (Some (if_less o b g))
      by_order Less is = (
        (n, Contains-push xs n, at),
        λ m h here there less. by_place m h (Contains-push_cases xs n m here) there less,
      )
        where
          by_place : (m : ℕ) (h : Guid) → Contains xs m ⊎ (n ≡ m) → slice_get lost m ≡ Some (Some h) → guid_cmp h g ≡ Less → ⊥
          by_place m h (inl old) there less = least m h old there (guid_total.trans h g b less is)
          by_place m h (inr same) there less = never-itself g (subst (λ x. guid_cmp x g ≡ Less) (sym (own-guid g h at m same there)) less)
      by_order Equal is = stays-least (λ less. absurd (cc (sym is ∙ less)))
      by_order Greater is = stays-least (λ less. absurd (cc (sym is ∙ less)))

pub least-more : (lost : List (Option Guid)) (found : List ℕ) (k : ℕ) (best l : Option Guid) → k < length found → slice_get lost (get_or found k 0) ≡ Some l → IsLeastOf lost (take k found) best → IsLeastOf lost (take (k + 1) found) (lesser best l)
least-more lost found k best l within at least = subst (λ xs. IsLeastOf lost xs (lesser best l)) (sym (take_more found k 0 within)) (by_lost l at)
  where
    lesser-none : (best : Option Guid) → lesser best None ≡ best
    lesser-none None = refl
    lesser-none (Some b) = refl

    by_lost : (l : Option Guid) → slice_get lost (get_or found k 0) ≡ Some l → IsLeastOf lost (take k found ++ get_or found k 0 ∷ []) (lesser best l)
    by_lost None at' = subst (IsLeastOf lost (take k found ++ get_or found k 0 ∷ [])) (sym (lesser-none best)) (keeps-least lost (take k found) (get_or found k 0) best at' least)
    by_lost (Some g) at' = more-least lost (take k found) (get_or found k 0) best g at' least

-- ---- what a walk misses

module _ (files : List Opened) (places : List PlaceRow) (rows : List (List ℕ)) (lost : List (Option Guid)) (graph : IsGraph files places rows lost) (first : ℕ) (start : PlaceRow) (begins : slice_get places first ≡ Some start) (found : List ℕ) (list : IsListOf nat_cmp (LedTo rows (first ∷ [])) found) where
  beside-lost : (n : ℕ) (q : PlaceRow) → slice_get places n ≡ Some q → (l : Option Guid) × (slice_get lost n ≡ Some l)
  beside-lost n q at = beside places lost n q graph.missed_many at

  -- where nothing is missed at the numbers that are found, each place of theirs is complete
  pub none-lost : IsLeastOf lost found None → (n : ℕ) (q : PlaceRow) → Contains found n → slice_get places n ≡ Some q → IsComplete files (place_at q)
  none-lost none n q here at = by_lost (beside-lost n q at)
    where
      by_lost : (l : Option Guid) × (slice_get lost n ≡ Some l) → IsComplete files (place_at q)
      by_lost (None, there) = graph.missed n q None at there
      by_lost (Some g, there) = absurd (none n g here there)

  pub finds-held : (s : Place) → Leads (Jumps files) (place_at start) s → (o : ObjectOut) × Holds files s o → Leads (Finds files) (place_at start) s
  finds-held s stays held = stays
  finds-held s (goes {x = x} {y = y} before jump) held = goes (finds-held x before (jump.0, jump.1)) (jump, held)

  -- the least GUID that is missed at the numbers that are found is the first lost one
  pub least-lost : (g : Guid) → IsLeastOf lost found (Some g) → IsFirstLost files (place_at start) g
  least-lost g ((n, here, there), least) = (
    missed,
    λ h (s, walk, misses) less. (
        let at = place-found files places rows lost graph first start begins found list s (finds-held s walk (misses.0, misses.1)) in
        by_lost h less at.0 at.1 at.2 at.4 (subst (λ w. Misses files w h) (sym at.3) misses) (beside-lost at.0 at.1 at.2)),
  )
    where
      missed : IsMissed files (place_at start) g
      missed =
          let at = found-place files places rows lost graph first start begins found list n here in
          (place_at at.0, jumps files places rows lost graph first start begins found list (place_at start) (place_at at.0) at.2, (graph.missed n at.0 (Some g) at.1 there).0)

      by_lost : (h : Guid) → guid_cmp h g ≡ Less → (m : ℕ) (q : PlaceRow) → slice_get places m ≡ Some q → Contains found m → Misses files (place_at q) h → (l : Option Guid) × (slice_get lost m ≡ Some l) → ⊥
      by_lost h less m q at among (o, holds, r, beside', guid, nowhere) (None, there') =
          let to = graph.missed m q None at there' o r holds beside' in
          nowhere (to.0, to.1, subst (λ x. (w : ObjectOut) × Holds files (place to.0 x) w) guid to.2)
      by_lost h less m q at among misses (Some l, there') = below-both h l g ((graph.missed m q (Some l) at there').1 h misses) (λ below. least m l among there' below) less

-- what is found are numbers of rows
pub found-below : (rows : List (List ℕ)) (first : ℕ) (found : List ℕ) → AreBelow rows (length rows) → first < length rows → IsListOf nat_cmp (LedTo rows (first ∷ [])) found → (k d : ℕ) → k < length found → get_or found k d < length rows
found-below rows first found below within list k d small = led-below rows (first ∷ []) (length rows) (get_or found k d) below (All-from_recursion (λ s. s < length rows) (first ∷ []) (within, tt)) (list.within (get_or found k d) (Contains-get_or found k d small))
