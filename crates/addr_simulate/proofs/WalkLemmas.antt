-- A walk goes through needed bundles alone; so what is answered of it stands on their images alone.
use Rattle.std.proofs.Common.{◌≡◌, inl, inr, ℕ, zero, suc, Bool, true, false, ◌||◌, eqb, List, [], ◌∷◌, Option, Some, slice_get, refl, sym, ap, subst, ◌∙◌}
use Rattle.std.proofs.lemmas.Bool.{eq-eqb}
use Rattle.addr_base.specs.Images.{Object}
use Rattle.addr_base.specs.declared.ids.BundleNo.{BundleNo}
use Rattle.addr_base.specs.declared.images.Home.{Home}
use Rattle.addr_base.specs.declared.images.Home.TheVariants.{Own, Other}
use Rattle.addr_locate.specs.declared.rows.BundleRow.{BundleRow}
use Rattle.addr_walks.proofs.Lists.{IsListOf-same}
use Rattle.addr_walks.specs.Walks.{Leads}
use Rattle.addr_walks.specs.Walks.Leads.{stays, goes}
use Rattle.addr_history.specs.Events.{is_in}
use Rattle.addr_history.specs.Unfolding.{IsLeastMiss, IsUnfolding, Jumps, LeadsTo, Misses, Taken, bundle_no, object_at}
use Rattle.addr_history.specs.declared.reading.Item2.{Item2}
use Rattle.addr_history.specs.declared.reading.Place.{Place}

or_right : (t : Bool) {s : Bool} → s ≡ true → (t || s) ≡ true
or_right true holds = refl
or_right false holds = holds

in_at : (bs : List BundleNo) (k : ℕ) (b : BundleNo) → slice_get bs k ≡ Some b → is_in b bs ≡ true
in_at [] k b at = cc
in_at (c ∷ bs) zero b at = let same : c ≡ b = cc in ap (λ t. t || is_in b bs) (ap (λ (d : BundleNo). eqb d.0 b.0) same ∙ eq-eqb b.0 b.0 refl)
in_at (c ∷ bs) (suc k) b at = or_right (eqb c.0 b.0) (in_at bs k b at)

module _ (bundles : List BundleRow) (needs : List BundleNo) where
  abbrev pub IsNeeded : Place → Type 0
  IsNeeded q = is_in (bundle_no q.bundle) needs ≡ true

  needed_home : (b : ℕ) (home : Home) (c : ℕ) → LeadsTo bundles needs b home c → is_in (bundle_no b) needs ≡ true → is_in (bundle_no c) needs ≡ true
  needed_home b Own c same needed = subst (λ n. is_in (bundle_no n) needs ≡ true) same needed
  needed_home b (Other digest) c first needed = in_at needs first.0 (bundle_no c) first.1

  module _ (objects other : BundleNo → List ℕ → Option Object) (agree : (q : Place) → IsNeeded q → object_at objects q ≡ object_at other q) where
    jump_to : (q s : Place) → IsNeeded q → Jumps objects bundles needs q s → Jumps other bundles needs q s × IsNeeded s
    jump_to q s needed (o, at, refers) = ((o, sym (agree q needed) ∙ at, refers), needed_home q.bundle refers.0.home s.bundle refers.3 needed)

    walk_to : (start q : Place) → IsNeeded start → Leads (Jumps objects bundles needs) start q → Leads (Jumps other bundles needs) start q × IsNeeded q
    walk_to start q needed stays = (stays, needed)
    walk_to start q needed (goes {x = x} {y = y} before last) =
        let sofar = walk_to start x needed before in
        let next = jump_to x y sofar.1 last in
        (goes sofar.0 next.0, next.1)

    misses_to : (q : Place) → IsNeeded q → Misses objects bundles needs q → Misses other bundles needs q
    misses_to q needed (inl none) = inl (sym (agree q needed) ∙ none)
    misses_to q needed (inr (o, at, strays)) = inr (o, sym (agree q needed) ∙ at, strays)

  module _ (objects other : BundleNo → List ℕ → Option Object) (agree : (q : Place) → IsNeeded q → object_at objects q ≡ object_at other q) (start : Place) (needed : IsNeeded start) where
    abbrev back : (q : Place) → IsNeeded q → object_at other q ≡ object_at objects q
    back q needed = sym (agree q needed)

    taken_to : (i : Item2) → Taken objects bundles needs start i → Taken other bundles needs start i
    taken_to i (q, walk, o, at, is, least) =
        let to = walk_to objects other agree start q needed walk in
        (q, to.0, o, sym (agree q to.1) ∙ at, is, λ s way same. least s (walk_to other objects back start s needed way).0 same)

    taken_back : (i : Item2) → Taken other bundles needs start i → Taken objects bundles needs start i
    taken_back i (q, walk, o, at, is, least) =
        let to = walk_to other objects back start q needed walk in
        (q, to.0, o, agree q to.1 ∙ at, is, λ s way same. least s (walk_to objects other agree start s needed way).0 same)

    pub unfolding_same : (items : List Item2) → IsUnfolding objects bundles needs start items → IsUnfolding other bundles needs start items
    unfolding_same items is = record {
      whole = λ q walk misses. (let to = walk_to other objects back start q needed walk in is.whole q to.0 (misses_to other objects back q to.1 misses));
      lists = IsListOf-same (Taken objects bundles needs start) (Taken other bundles needs start) taken_to taken_back items is.lists;
    }

    pub miss_same : (b : BundleNo) → IsLeastMiss objects bundles needs start b → IsLeastMiss other bundles needs start b
    miss_same b ((q, walk, misses, at), low) =
        let to = walk_to objects other agree start q needed walk in
        ((q, to.0, misses_to objects other agree q to.1 misses, at), λ s way also. (let from = walk_to other objects back start s needed way in low s from.0 (misses_to other objects back s from.1 also)))
