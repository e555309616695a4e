-- One item for each GUID: the places in their order, one after the other; and what their walk takes.
use Rattle.std.proofs.Common.{◌≡◌, ◌≢◌, ◌<◌, ◌≤◌, ◌+◌, ◌⊎◌, inl, inr, ℕ, List, [], ◌∷◌, ◌++◌, length, get_or, take, drop, map, Option, Some, None, refl, ap, subst, sym, ◌∙◌, arith}
use Rattle.std.proofs.Common.{Less, Greater}
use Rattle.std.proofs.lemmas.Cmp.{tied_itself}
use Rattle.std.proofs.lemmas.List.{map-append, take_more, take-append-drop}
use Rattle.std.proofs.lemmas.List.Elements.{Contains-append_left, Contains-push, Contains-push_cases, recursion_from_All, Contains-get_or, All-contains, All-from_recursion}
use Rattle.std.specs.List.{Contains}
use Rattle.std.specs.List.Sorted.{IsStrictlySortedBy}
use Rattle.std.specs.Ordering.{ordering_reverse}
use Rattle.std.specs.declared.cmp.Ordering.{Ordering}
use Rattle.addr_base.specs.Images.{Object}
use Rattle.addr_base.specs.declared.ids.BundleNo.{BundleNo}
use Rattle.addr_base.specs.declared.ids.Guid.{Guid}
use Rattle.addr_base.specs.declared.images.RefTo.{RefTo}
use Rattle.addr_walks.proofs.Lists.{Contains-here, Contains-later, Contains-none}
use Rattle.addr_history.specs.Unfolding.{guid_cmp, item_cmp, object_at}
use Rattle.addr_history.specs.declared.reading.Item2.{Item2}
use Rattle.addr_history.specs.declared.reading.Place.{Place}
use Rattle.addr_objects.specs.within.Search.{IsItemAt, IsLast, Picks, TakenOf, place_cmp}
use Rattle.addr_objects.proofs.PlaceOrder.{before, before-last, guid_total, not-less-itself}

pub sorted-push : {X : Type 0} (cmp : X → X → Ordering) (xs : List X) (x : X) → IsStrictlySortedBy cmp xs → ((y : X) → Contains xs y → cmp y x ≡ Less) → IsStrictlySortedBy cmp (xs ++ x ∷ [])
unfolding IsStrictlySortedBy
sorted-push cmp [] x rising below = (tt, tt)
sorted-push cmp (z ∷ zs) x rising below = (
  recursion_from_All (λ y. cmp z y ≡ Less) (zs ++ x ∷ []) (λ k d within. above (get_or (zs ++ x ∷ []) k d) (Contains-get_or (zs ++ x ∷ []) k d within)),
  sorted-push cmp zs x rising.1 (λ y here. below y (Contains-later z zs y here)),
)
  where
    above : (y : _) → Contains (zs ++ x ∷ []) y → cmp z y ≡ Less
    above y here = by_case (Contains-push_cases zs x y here)
      where
        by_case : Contains zs y ⊎ (x ≡ y) → cmp z y ≡ Less
        by_case (inl old) = All-contains (λ w. cmp z w ≡ Less) zs y (All-from_recursion (λ w. cmp z w ≡ Less) zs rising.0) old
        by_case (inr same) = subst (λ w. cmp z w ≡ Less) same (below z (Contains-here z zs))

same-some : {A : Type 0} (x y : A) → Some x ≡ Some y → x ≡ y
same-some x y same = cc same

-- the GUIDs of one reference more
pub guids-more : (refs : List RefTo) (k : ℕ) (guids new : List Guid) (r : RefTo) → k < length refs → guids ≡ map (λ (x : RefTo). x.guid) (take k refs) → new ≡ guids ++ (get_or refs k r).guid ∷ []
    → new ≡ map (λ (x : RefTo). x.guid) (take (k + 1) refs)
guids-more refs k guids new r within before is =
    let more = map-append (λ (x : RefTo). x.guid) (take k refs) (get_or refs k r ∷ []) in
    is ∙ (ap (λ gs. gs ++ (get_or refs k r).guid ∷ []) before ∙ (sym more ∙ ap (map (λ (x : RefTo). x.guid)) (sym (take_more refs k r within))))

-- a front of an ascending list ascends
sorted-left : {X : Type 0} (cmp : X → X → Ordering) (xs ys : List X) → IsStrictlySortedBy cmp (xs ++ ys) → IsStrictlySortedBy cmp xs
unfolding IsStrictlySortedBy
sorted-left cmp [] ys rising = tt
sorted-left cmp (x ∷ xs) ys rising = (
  recursion_from_All (λ y. cmp x y ≡ Less) xs (λ k d within. All-contains (λ w. cmp x w ≡ Less) (xs ++ ys) (get_or xs k d) (All-from_recursion (λ w. cmp x w ≡ Less) (xs ++ ys) rising.0) (Contains-append_left xs ys (get_or xs k d) (Contains-get_or xs k d within))),
  sorted-left cmp xs ys rising.1,
)

-- ---- the last GUID

pub last-none : IsLast [] None
last-none = refl

pub last-more : (places : List Place) (p : Place) → IsStrictlySortedBy place_cmp (places ++ p ∷ []) → IsLast (places ++ p ∷ []) (Some p.guid)
last-more places p rising = ((p, Contains-push places p, refl), λ q here more. by_case q (Contains-push_cases places p q here) more)
  where
    below : (q : Place) → (guid_cmp q.guid p.guid ≡ Less) ⊎ ((q.guid ≡ p.guid) × (q.bundle < p.bundle)) → guid_cmp q.guid p.guid ≡ Greater → ⊥
    below q (inl less) more = cc (sym less ∙ more)
    below q (inr (same, up)) more = cc (sym more ∙ (ap (λ g. guid_cmp g p.guid) same ∙ tied_itself guid_total p.guid))

    by_case : (q : Place) → Contains places q ⊎ (p ≡ q) → guid_cmp q.guid p.guid ≡ Greater → ⊥
    by_case q (inl was) more = below q (before q p (before-last place_cmp places p rising q was)) more
    by_case q (inr same) more = cc (sym more ∙ (ap (λ (x : Place). guid_cmp x.guid p.guid) (sym same) ∙ tied_itself guid_total p.guid))

-- ---- one place more

module _ (objects : BundleNo → List ℕ → Option Object) where
  pub picks-none : Picks objects [] []
  unfolding IsStrictlySortedBy
  picks-none = record { rising = tt; within = λ i here. absurd (Contains-none i here); all = λ i (q, here, holds, least). absurd (Contains-none q here) }

  module _ (places : List Place) (p : Place) (rising : IsStrictlySortedBy place_cmp (places ++ p ∷ [])) (items : List Item2) (picks : Picks objects places items) where
    below : (q : Place) → Contains places q → (guid_cmp q.guid p.guid ≡ Less) ⊎ ((q.guid ≡ p.guid) × (q.bundle < p.bundle))
    below q here = before q p (before-last place_cmp places p rising q here)

    -- what was taken is still
    still : (i : Item2) → TakenOf objects places i → TakenOf objects (places ++ p ∷ []) i
    still i (q, here, holds, least) = (q, Contains-append_left places (p ∷ []) q here, holds, λ s among same. by_case s (Contains-push_cases places p s among) same)
      where
        lower : (guid_cmp q.guid p.guid ≡ Less) ⊎ ((q.guid ≡ p.guid) × (q.bundle < p.bundle)) → p.guid ≡ q.guid → q.bundle ≤ p.bundle
        lower (inl less) same = absurd (not-less-itself q.guid p.guid (sym same) less)
        lower (inr (own, up)) same = omega (arith, up)

        by_case : (s : Place) → Contains places s ⊎ (p ≡ s) → s.guid ≡ q.guid → q.bundle ≤ s.bundle
        by_case s (inl was) same = least s was same
        by_case s (inr one) same = subst (λ (x : Place). q.bundle ≤ x.bundle) one (lower (below q here) (ap (λ (x : Place). x.guid) one ∙ same))

    was : (i : Item2) (q : Place) → Contains places q → IsItemAt objects q i → ((s : Place) → Contains (places ++ p ∷ []) s → s.guid ≡ q.guid → q.bundle ≤ s.bundle) → TakenOf objects places i
    was i q here holds least = (q, here, holds, λ s among same. least s (Contains-append_left places (p ∷ []) s among) same)

    -- no place before has the GUID, where the last one hasn't
    fresh : (last : Option Guid) → IsLast places last → last ≢ Some p.guid → (q : Place) → Contains places q → q.guid ≡ p.guid → ⊥
    fresh None none differs q here same = Contains-none q (subst (λ (xs : List Place). Contains xs q) none here)
    fresh (Some g) ((r, among, own), highest) differs q here same = by_case (below r among)
      where
        by_case : (guid_cmp r.guid p.guid ≡ Less) ⊎ ((r.guid ≡ p.guid) × (r.bundle < p.bundle)) → ⊥
        by_case (inr (tied, up)) = differs (ap Some (sym own ∙ tied))
        by_case (inl less) =
            let back : guid_cmp p.guid r.guid ≡ Greater = guid_total.antisymm p.guid r.guid ∙ ap ordering_reverse less in
            highest q here (ap (λ (x : Guid). guid_cmp x g) same ∙ (ap (guid_cmp p.guid) (sym own) ∙ back))

    pub picks-known : (last : Option Guid) → IsLast places last → last ≡ Some p.guid → Picks objects (places ++ p ∷ []) items
    picks-known None none same = absurd (cc same)
    picks-known (Some g) ((r, among, own), highest) same = record {
      rising = picks.rising;
      within = λ i here. still i (picks.within i here);
      all = λ i (q, here, holds, least). by_case i q (Contains-push_cases places p q here) holds least;
    }
      where
        clash : (guid_cmp r.guid p.guid ≡ Less) ⊎ ((r.guid ≡ p.guid) × (r.bundle < p.bundle)) → r.guid ≡ p.guid → p.bundle ≤ r.bundle → ⊥
        clash (inl less) tied low = not-less-itself r.guid p.guid tied less
        clash (inr (tied', up)) tied low = omega (arith, up, low)

        by_case : (i : Item2) (q : Place) → Contains places q ⊎ (p ≡ q) → IsItemAt objects q i → ((s : Place) → Contains (places ++ p ∷ []) s → s.guid ≡ q.guid → q.bundle ≤ s.bundle) → Contains items i
        by_case i q (inl here) holds least = picks.all i (was i q here holds least)
        by_case i q (inr one) holds least =
            let tied : r.guid ≡ p.guid = own ∙ same-some g p.guid same in
            let guid : r.guid ≡ q.guid = tied ∙ ap (λ (x : Place). x.guid) one in
            let low = subst (λ (x : Place). x.bundle ≤ r.bundle) (sym one) (least r (Contains-append_left places (p ∷ []) r among) guid) in
            absurd (clash (below r among) tied low)

    pub picks-new : (last : Option Guid) (item : Item2) → IsLast places last → last ≢ Some p.guid → IsItemAt objects p item → Picks objects (places ++ p ∷ []) (items ++ item ∷ [])
    picks-new last item ends differs own = record {
      rising = sorted-push item_cmp items item picks.rising (λ y here. lower y (picks.within y here));
      within = λ i here. by_item i (Contains-push_cases items item i here);
      all = λ i (q, here, holds, least). by_place i q (Contains-push_cases places p q here) holds least;
    }
      where
        item-guid : (q : Place) (i : Item2) → IsItemAt objects q i → i.guid ≡ q.guid
        item-guid q i (o, at, is) = ap (λ (x : Item2). x.guid) is

        lower : (y : Item2) → TakenOf objects places y → item_cmp y item ≡ Less
        lower y (q, here, holds, least) = by_order (below q here)
          where
            by_order : (guid_cmp q.guid p.guid ≡ Less) ⊎ ((q.guid ≡ p.guid) × (q.bundle < p.bundle)) → item_cmp y item ≡ Less
            by_order (inl less) = ap (λ (x : Guid). guid_cmp x item.guid) (item-guid q y holds) ∙ (ap (guid_cmp q.guid) (item-guid p item own) ∙ less)
            by_order (inr (same, up)) = absurd (fresh last ends differs q here same)

        by_item : (i : Item2) → Contains items i ⊎ (item ≡ i) → TakenOf objects (places ++ p ∷ []) i
        by_item i (inl here) = still i (picks.within i here)
        by_item i (inr same) = subst (TakenOf objects (places ++ p ∷ [])) same (p, Contains-push places p, own, λ s among tied. least s (Contains-push_cases places p s among) tied)
          where
            least : (s : Place) → Contains places s ⊎ (p ≡ s) → s.guid ≡ p.guid → p.bundle ≤ s.bundle
            least s (inl here) tied = absurd (fresh last ends differs s here tied)
            least s (inr one) tied = subst (λ (x : Place). p.bundle ≤ x.bundle) one (omega arith)

        one-item : (i : Item2) (q : Place) → p ≡ q → IsItemAt objects q i → item ≡ i
        one-item i q one (o, at, is) =
            let at' : object_at objects p ≡ Some o = ap (object_at objects) one ∙ at in
            let same : own.0 ≡ o = same-some own.0 o (sym own.1 ∙ at') in
            own.2 ∙ (cc (same, one) ∙ sym is)

        by_place : (i : Item2) (q : Place) → Contains places q ⊎ (p ≡ q) → IsItemAt objects q i → ((s : Place) → Contains (places ++ p ∷ []) s → s.guid ≡ q.guid → q.bundle ≤ s.bundle) → Contains (items ++ item ∷ []) i
        by_place i q (inl here) holds least = Contains-append_left items (item ∷ []) i (picks.all i (was i q here holds least))
        by_place i q (inr one) holds least = subst (Contains (items ++ item ∷ [])) (one-item i q one holds) (Contains-push items item)

  -- the loop's step
  pub picks-step : (places : List Place) (k : ℕ) (d : Place) (items new : List Item2) (last : Option Guid) → k < length places → IsStrictlySortedBy place_cmp places → IsLast (take k places) last → Picks objects (take k places) items
      → ((qs : List Place) → IsStrictlySortedBy place_cmp (qs ++ get_or places k d ∷ []) → IsLast qs last → Picks objects qs items → Picks objects (qs ++ get_or places k d ∷ []) new)
      → Picks objects (take (k + 1) places) new × IsLast (take (k + 1) places) (Some (get_or places k d).guid)
  picks-step places k d items new last within rising ends picks step =
      let more : take (k + 1) places ≡ take k places ++ get_or places k d ∷ [] = take_more places k d within in
      let up : IsStrictlySortedBy place_cmp (take k places ++ get_or places k d ∷ []) = subst (IsStrictlySortedBy place_cmp) more (sorted-left place_cmp (take (k + 1) places) (drop (k + 1) places) (subst (IsStrictlySortedBy place_cmp) (sym (take-append-drop (k + 1) places)) rising)) in
      (subst (λ qs. Picks objects qs new) (sym more) (step (take k places) up ends picks), subst (λ qs. IsLast qs (Some (get_or places k d).guid)) (sym more) (last-more (take k places) (get_or places k d) up))
