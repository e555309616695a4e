-- Picking the first number of each GUID, one number after the other.
use Rattle.std.proofs.Common.{◌≡◌, ◌≢◌, ◌<◌, ◌+◌, ℕ, List, [], ◌∷◌, ◌++◌, length, get_or, take, drop, Option, Some, None, Less, refl, ap, subst, sym, ◌∙◌, ◌⊎◌, inl, inr, arith}
use Rattle.std.proofs.lemmas.List.{take_more, take-append-drop}
use Rattle.std.proofs.lemmas.List.Elements.{Contains-append_left, Contains-push, Contains-push_cases, recursion_from_All, Contains-get_or, All-contains, All-from_recursion}
use Rattle.std.proofs.lemmas.Map.Keys.{sorted_tail}
use Rattle.std.proofs.lemmas.Cmp.{tied_itself}
use Rattle.std.specs.List.{Contains, slice_get}
use Rattle.std.specs.List.Sorted.{IsStrictlySortedBy}
use Rattle.std.specs.Ordering.{nat_cmp}
use Rattle.std.specs.declared.cmp.Ordering.{Ordering}
use Rattle.addr_base.specs.declared.ids.Guid.{Guid}
use Rattle.addr_layout.proofs.GuidLemmas.{guid_total}
use Rattle.addr_layout.proofs.RankLemmas.{same-some}
use Rattle.addr_project.specs.Reach.{guid_cmp}
use Rattle.addr_walks.specs.Walks.{IsListOf}
use Rattle.addr_walks.proofs.Lists.{Contains-here, Contains-later, Contains-cases, Contains-none, above-head}
use Rattle.addr_resolve.specs.Graph.{Before, IsFirst}
use Rattle.addr_resolve.specs.declared.graph.PlaceRow.{PlaceRow}
use Rattle.addr_resolve.proofs.UnfoldLemmas.{nat-less, less-nat}

-- the GUID at the last of some numbers, where there is one
abbrev pub IsLast : List PlaceRow → List ℕ → Option Guid → Type 0
IsLast places xs None = xs ≡ []
IsLast places xs (Some g) = (before : List ℕ) × (n : ℕ) × (xs ≡ before ++ n ∷ []) × (q : PlaceRow) × (slice_get places n ≡ Some q) × (q.guid ≡ g)

sorted-push : {X : Type 0} (cmp : X → X → Ordering) (xs : List X) (x : X) → IsStrictlySortedBy cmp xs → ((y : X) → Contains xs y → cmp y x ≡ Less) → IsStrictlySortedBy cmp (xs ++ x ∷ [])
unfolding IsStrictlySortedBy
sorted-push cmp [] x rising below = (tt, tt)
sorted-push cmp (z ∷ zs) x rising below = (
  recursion_from_All (λ y. cmp z y ≡ Less) (zs ++ x ∷ []) (λ k d within. above (get_or (zs ++ x ∷ []) k d) (Contains-get_or (zs ++ x ∷ []) k d within)),
  sorted-push cmp zs x rising.1 (λ y here. below y (Contains-later z zs y here)),
)
  where
    above : (y : _) → Contains (zs ++ x ∷ []) y → cmp z y ≡ Less
    above y here = by_case (Contains-push_cases zs x y here)
      where
        by_case : Contains zs y ⊎ (x ≡ y) → cmp z y ≡ Less
        by_case (inl old) = All-contains (λ w. cmp z w ≡ Less) zs y (All-from_recursion (λ w. cmp z w ≡ Less) zs rising.0) old
        by_case (inr same) = subst (λ w. cmp z w ≡ Less) same (below z (Contains-here z zs))

-- what stands before the last one is below it
pub below-last : (xs : List ℕ) (n : ℕ) → IsStrictlySortedBy nat_cmp (xs ++ n ∷ []) → (m : ℕ) → Contains xs m → m < n
below-last [] n rising m here = absurd (Contains-none m here)
below-last (x ∷ xs) n rising m here = by_case (Contains-cases x xs m here) (λ later. below-last xs n (sorted_tail nat_cmp x (xs ++ n ∷ []) rising) m later)
  where
    by_case : (x ≡ m) ⊎ Contains xs m → (Contains xs m → m < n) → m < n
    by_case (inl same) more = let less = nat-less x n (above-head nat_cmp x (xs ++ n ∷ []) n rising (Contains-push xs n)) in omega arith
    by_case (inr later) more = more later

-- a front of an ascending list ascends
sorted-front : (xs : List ℕ) (n : ℕ) → IsStrictlySortedBy nat_cmp (xs ++ n ∷ []) → IsStrictlySortedBy nat_cmp xs
unfolding IsStrictlySortedBy
sorted-front [] n rising = tt
sorted-front (x ∷ xs) n rising = (
  recursion_from_All (λ y. nat_cmp x y ≡ Less) xs (λ k d within. All-contains (λ w. nat_cmp x w ≡ Less) (xs ++ n ∷ []) (get_or xs k d) (All-from_recursion (λ w. nat_cmp x w ≡ Less) (xs ++ n ∷ []) rising.0) (Contains-append_left xs (n ∷ []) (get_or xs k d) (Contains-get_or xs k d within))),
  sorted-front xs n rising.1,
)

module _ (places : List PlaceRow) (ordered : (m n : ℕ) (q s : PlaceRow) → slice_get places m ≡ Some q → slice_get places n ≡ Some s → m < n → Before q s) where
  module _ (xs : List ℕ) (n : ℕ) (s : PlaceRow) (at : slice_get places n ≡ Some s) (up : IsStrictlySortedBy nat_cmp (xs ++ n ∷ [])) (picks : List ℕ) (list : IsListOf nat_cmp (IsFirst places xs) picks) where
    below : (m : ℕ) → Contains xs m → m < n
    below m here = below-last xs n up m here

    -- what is first among more numbers was first, and what was stays so
    still-first : (y : ℕ) → IsFirst places xs y → IsFirst places (xs ++ n ∷ []) y
    still-first y (here, least) = (Contains-append_left xs (n ∷ []) y here, λ m q r among less q-at r-at same. by_place m q r (Contains-push_cases xs n m among) less q-at r-at same)
      where
        by_place : (m : ℕ) (q r : PlaceRow) → Contains xs m ⊎ (n ≡ m) → m < y → slice_get places m ≡ Some q → slice_get places y ≡ Some r → q.guid ≡ r.guid → ⊥
        by_place m q r (inl old) less q-at r-at same = least m q r old less q-at r-at same
        by_place m q r (inr is) less q-at r-at same = let up = below y here in omega (arith, is, less, up)

    was-first : (y : ℕ) → Contains xs y → IsFirst places (xs ++ n ∷ []) y → IsFirst places xs y
    was-first y old (here, least) = (old, λ m q r among less q-at r-at same. least m q r (Contains-append_left xs (n ∷ []) m among) less q-at r-at same)

    -- no number before has the GUID, where the last one hasn't
    is-new : (last : Option Guid) → IsLast places xs last → last ≢ Some s.guid → (m : ℕ) (q : PlaceRow) → Contains xs m → slice_get places m ≡ Some q → q.guid ≡ s.guid → ⊥
    is-new None none differs m q here q-at same = Contains-none m (subst (λ ys. Contains ys m) none here)
    is-new (Some g) (before, l, is, r, r-at, r-guid) differs m q here q-at same = by_order (ordered l n r s r-at at (below l l-here))
      where
        l-here : Contains xs l
        l-here = subst (λ ys. Contains ys l) (sym is) (Contains-push before l)

        by_last : guid_cmp r.guid s.guid ≡ Less → Contains before m ⊎ (l ≡ m) → Before q r ⊎ (q ≡ r) → ⊥
        by_last less place (inl (inl first)) = let both = guid_total.trans q.guid r.guid s.guid first less in let tie = ap (λ g. guid_cmp g s.guid) same ∙ tied_itself guid_total s.guid in absurd (cc (sym both ∙ tie))
        by_last less place (inl (inr (own, up))) = let tie = ap (λ g. guid_cmp g s.guid) (sym own ∙ same) ∙ tied_itself guid_total s.guid in absurd (cc (sym less ∙ tie))
        by_last less place (inr own) = let tie = ap (λ g. guid_cmp g s.guid) (ap (λ (x : PlaceRow). x.guid) (sym own) ∙ same) ∙ tied_itself guid_total s.guid in absurd (cc (sym less ∙ tie))

        sides : Contains before m ⊎ (l ≡ m) → Before q r ⊎ (q ≡ r)
        sides (inl old) = inl (ordered m l q r q-at r-at (below-old old))
          where
            below-old : Contains before m → m < l
            below-old among = below-last before l (subst (IsStrictlySortedBy nat_cmp) is (sorted-front xs n up)) m among
        sides (inr own) = inr (same-some q r (sym q-at ∙ (ap (slice_get places) (sym own) ∙ r-at)))

        by_order : Before r s → ⊥
        by_order (inl less) = let place = Contains-push_cases before l m (subst (λ ys. Contains ys m) is here) in by_last less place (sides place)
        by_order (inr (own, up)) = differs (ap Some (sym r-guid ∙ own))

    pub picked-new : (last : Option Guid) → IsLast places xs last → last ≢ Some s.guid → IsListOf nat_cmp (IsFirst places (xs ++ n ∷ [])) (picks ++ n ∷ [])
    picked-new last is differs = record {
      rising = sorted-push nat_cmp picks n list.rising (λ y here. less-nat y n (below y (list.within y here).0));
      within = λ y here. within y (Contains-push_cases picks n y here);
      all = λ y first. all y first (Contains-push_cases xs n y first.0);
    }
      where
        own : IsFirst places (xs ++ n ∷ []) n
        own = (Contains-push xs n, λ m q r among less q-at r-at same. by_place m q r (Contains-push_cases xs n m among) less q-at r-at same)
          where
            by_place : (m : ℕ) (q r : PlaceRow) → Contains xs m ⊎ (n ≡ m) → m < n → slice_get places m ≡ Some q → slice_get places n ≡ Some r → q.guid ≡ r.guid → ⊥
            by_place m q r (inl old) less q-at r-at same = is-new last is differs m q old q-at (same ∙ ap (λ (x : PlaceRow). x.guid) (same-some r s (sym r-at ∙ at)))
            by_place m q r (inr one) less q-at r-at same = omega (arith, one, less)

        within : (y : ℕ) → Contains picks y ⊎ (n ≡ y) → IsFirst places (xs ++ n ∷ []) y
        within y (inl old) = still-first y (list.within y old)
        within y (inr same) = subst (IsFirst places (xs ++ n ∷ [])) same own

        all : (y : ℕ) → IsFirst places (xs ++ n ∷ []) y → Contains xs y ⊎ (n ≡ y) → Contains (picks ++ n ∷ []) y
        all y first (inl old) = Contains-append_left picks (n ∷ []) y (list.all y (was-first y old first))
        all y first (inr same) = subst (Contains (picks ++ n ∷ [])) same (Contains-push picks n)

    pub picked-old : (last : Option Guid) → IsLast places xs last → last ≡ Some s.guid → IsListOf nat_cmp (IsFirst places (xs ++ n ∷ [])) picks
    picked-old None none same = absurd (cc same)
    picked-old (Some g) (before, l, is, r, r-at, r-guid) same = record {
      rising = list.rising;
      within = λ y here. still-first y (list.within y here);
      all = λ y first. all y first (Contains-push_cases xs n y first.0);
    }
      where
        all : (y : ℕ) → IsFirst places (xs ++ n ∷ []) y → Contains xs y ⊎ (n ≡ y) → Contains picks y
        all y first (inl old) = list.all y (was-first y old first)
        all y first (inr one) =
            let l-here : Contains xs l = subst (λ ys. Contains ys l) (sym is) (Contains-push before l) in
            let guid : r.guid ≡ s.guid = r-guid ∙ same-some g s.guid same in
            absurd (first.1 l r s (Contains-append_left xs (n ∷ []) l l-here) (subst (λ k. l < k) one (below l l-here)) r-at (subst (λ k. slice_get places k ≡ Some s) one at) guid)

sorted-left : (xs ys : List ℕ) → IsStrictlySortedBy nat_cmp (xs ++ ys) → IsStrictlySortedBy nat_cmp xs
unfolding IsStrictlySortedBy
sorted-left [] ys rising = tt
sorted-left (x ∷ xs) ys rising = (
  recursion_from_All (λ y. nat_cmp x y ≡ Less) xs (λ k d within. All-contains (λ w. nat_cmp x w ≡ Less) (xs ++ ys) (get_or xs k d) (All-from_recursion (λ w. nat_cmp x w ≡ Less) (xs ++ ys) rising.0) (Contains-append_left xs ys (get_or xs k d) (Contains-get_or xs k d within))),
  sorted-left xs ys rising.1,
)

sorted-take : (k : ℕ) (xs : List ℕ) → IsStrictlySortedBy nat_cmp xs → IsStrictlySortedBy nat_cmp (take k xs)
sorted-take k xs rising = sorted-left (take k xs) (drop k xs) (subst (IsStrictlySortedBy nat_cmp) (sym (take-append-drop k xs)) rising)

-- the picks after one more number, and the last GUID
pub record PicksMore (places : List PlaceRow) (found : List ℕ) (k : ℕ) (picks : List ℕ) (last : Option Guid) (n : ℕ) (s : PlaceRow) : Type 0 where
  pub fresh : last ≢ Some s.guid → IsListOf nat_cmp (IsFirst places (take (k + 1) found)) (picks ++ n ∷ [])
  pub known : last ≡ Some s.guid → IsListOf nat_cmp (IsFirst places (take (k + 1) found)) picks
  pub ends : IsLast places (take (k + 1) found) (Some s.guid)

pub picks-more : (places : List PlaceRow) → ((m n : ℕ) (q s : PlaceRow) → slice_get places m ≡ Some q → slice_get places n ≡ Some s → m < n → Before q s) → (found : List ℕ) → IsStrictlySortedBy nat_cmp found
    → (k : ℕ) (picks : List ℕ) (last : Option Guid) (s : PlaceRow) → k < length found → slice_get places (get_or found k 0) ≡ Some s
    → IsListOf nat_cmp (IsFirst places (take k found)) picks → IsLast places (take k found) last → PicksMore places found k picks last (get_or found k 0) s
picks-more places ordered found rising k picks last s within at list ends =
    let n = get_or found k 0 in
    let more : take (k + 1) found ≡ take k found ++ n ∷ [] = take_more found k 0 within in
    let up : IsStrictlySortedBy nat_cmp (take k found ++ n ∷ []) = subst (IsStrictlySortedBy nat_cmp) more (sorted-take (k + 1) found rising) in
    record {
      fresh = λ differs. subst (λ xs. IsListOf nat_cmp (IsFirst places xs) (picks ++ n ∷ [])) (sym more) (picked-new places ordered (take k found) n s at up picks list last ends differs);
      known = λ same. subst (λ xs. IsListOf nat_cmp (IsFirst places xs) picks) (sym more) (picked-old places ordered (take k found) n s at up picks list last ends same);
      ends = (take k found, n, more, s, at, refl);
    }

pub picks-none : (places : List PlaceRow) → IsListOf nat_cmp (IsFirst places []) []
unfolding IsStrictlySortedBy
picks-none places = record { rising = tt; within = λ y here. absurd (Contains-none y here); all = λ y first. first.0 }
