-- What has changed on an entry's way: one more place, one more asset.
use Rattle.std.proofs.Common.{◌≡◌, ◌↔◌, ◌<◌, ◌⊎◌, inl, inr, ℕ, Bool, true, false, IsTrue, List, [], ◌∷◌, ◌++◌, length, map, Option, Some, None, refl, sym, ap, subst, ◌∙◌}
use Rattle.std.proofs.lemmas.Bool.{false≢true}
use Rattle.std.proofs.lemmas.List.Elements.{Contains-append_left, Contains-append_right, Contains-push, Contains-push_cases}
use Rattle.std.specs.List.{AllZip, Contains, slice_get}
use Rattle.addr_base.specs.declared.ids.Guid.{Guid}
use Rattle.addr_layout.proofs.GuidLemmas.{same-guid}
use Rattle.addr_layout.proofs.RankLemmas.{same-some}
use Rattle.addr_layout.specs.Members.{IsNumbered}
use Rattle.addr_project.specs.declared.model.Asset.{Asset}
use Rattle.addr_project.specs.Model.{Project}
use Rattle.addr_resolve.specs.declared.graph.PlaceRow.{PlaceRow}
use Rattle.addr_update.proofs.DecidedLemmas.{Decided}
use Rattle.addr_walks.proofs.Lists.{Contains-cases, Contains-here, Contains-later, Contains-map, Contains-none, Contains-slice_get, map-Contains}
use Rattle.addr_walks.proofs.Zips.{zip-here, zip-there}
use Rattle.addr_moves.specs.Firsts.{AreFirsts, IsFirstAt}
use Rattle.addr_moves.specs.within.Changing.{AreSeen, AreSpoilt, AreUnsettled, IsChangedAmong, IsOffWay, IsSpoiltAmong, IsUnsettled}
use Rattle.addr_moves.specs.within.Looks.{with_guid}
use Rattle.addr_moves.specs.within.Leasts.{IsLeastIn, IsLeastWhere}
use Rattle.addr_moves.proofs.LeastLemmas.{least-same}

-- what stands in two lists joined
append-cases : {X : Type 0} (xs ys : List X) (x : X) → Contains (xs ++ ys) x → Contains xs x ⊎ Contains ys x
append-cases [] ys x here = inr here
append-cases {X} (y ∷ xs) ys x here = by_head (Contains-cases y (xs ++ ys) x here) (λ later. append-cases xs ys x later)
  where
    by_tail : Contains xs x ⊎ Contains ys x → Contains (y ∷ xs) x ⊎ Contains ys x
    by_tail (inl there) = inl (Contains-later y xs x there)
    by_tail (inr there) = inr there

    by_head : (y ≡ x) ⊎ Contains (xs ++ ys) x → (Contains (xs ++ ys) x → Contains xs x ⊎ Contains ys x) → Contains (y ∷ xs) x ⊎ Contains ys x
    by_head (inl same) more = inl (subst (Contains (y ∷ xs)) same (Contains-here y xs))
    by_head (inr later) more = by_tail (more later)

pub spoilt-none : (spoils : List (List Guid)) → AreSpoilt spoils [] []
spoilt-none spoils = record { within = λ g here. absurd (Contains-none g here); all = λ g (n, here, gs, at, among). absurd (Contains-none n here) }

pub spoilt-more : (spoils : List (List Guid)) (found : List ℕ) (n : ℕ) (gs spoilt : List Guid) → slice_get spoils n ≡ Some gs → AreSpoilt spoils found spoilt → AreSpoilt spoils (found ++ n ∷ []) (spoilt ++ gs)
spoilt-more spoils found n gs spoilt at are = record {
  within = λ g here. by_side g (append-cases spoilt gs g here);
  all = λ g (m, here, hs, there, among). by_place g m hs there among (Contains-push_cases found n m here);
}
  where
    by_side : (g : Guid) → Contains spoilt g ⊎ Contains gs g → IsSpoiltAmong spoils (found ++ n ∷ []) g
    by_side g (inl old) = let from = are.within g old in (from.0, Contains-append_left found (n ∷ []) from.0 from.1, from.2, from.3, from.4)
    by_side g (inr new) = (n, Contains-push found n, gs, at, new)

    by_place : (g : Guid) (m : ℕ) (hs : List Guid) → slice_get spoils m ≡ Some hs → Contains hs g → Contains found m ⊎ (n ≡ m) → Contains (spoilt ++ gs) g
    by_place g m hs there among (inl old) = Contains-append_left spoilt gs g (are.all g (m, old, hs, there, among))
    by_place g m hs there among (inr same) =
        let own : hs ≡ gs = same-some hs gs (sym there ∙ (ap (slice_get spoils) (sym same) ∙ at)) in
        Contains-append_right spoilt gs g (subst (λ (xs : List Guid). Contains xs g) own among)

pub unsettled-none : (p : Project) (seen spoilt : List ℕ → Option ℕ) → AreUnsettled p seen spoilt [] []
unsettled-none p seen spoilt = record { within = λ g here. absurd (Contains-none g here); all = λ n g here numbered is. absurd (Contains-none n here) }

pub one-guid : (p : Project) (n : ℕ) (g d : Guid) → IsNumbered p n g → IsNumbered p n d → g ≡ d
one-guid p n g d (asset, at, is) (other, there, too) = sym is ∙ (ap (λ (a : Asset). a.guid) (same-some asset other (sym at ∙ there)) ∙ too)

pub unsettled-more : (p : Project) (seen spoilt : List ℕ → Option ℕ) (reached : List ℕ) (n : ℕ) (g : Guid) (guids : List Guid) (t : Bool) → IsNumbered p n g → IsTrue t ↔ IsUnsettled seen spoilt g
    → AreUnsettled p seen spoilt reached guids → AreUnsettled p seen spoilt (reached ++ n ∷ []) (with_guid t g guids)
unsettled-more p seen spoilt reached n g guids true numbered tells are = record {
  within = λ d here. by_guid d (Contains-push_cases guids g d here);
  all = λ m d here also is. by_number m d also is (Contains-push_cases reached n m here);
}
  where
    by_guid : (d : Guid) → Contains guids d ⊎ (g ≡ d) → (m : ℕ) × Contains (reached ++ n ∷ []) m × IsNumbered p m d × IsUnsettled seen spoilt d
    by_guid d (inl old) = let from = are.within d old in (from.0, Contains-append_left reached (n ∷ []) from.0 from.1, from.2, from.3)
    by_guid d (inr same) = (n, Contains-push reached n, subst (IsNumbered p n) same numbered, subst (IsUnsettled seen spoilt) same (tells.0 refl))

    by_number : (m : ℕ) (d : Guid) → IsNumbered p m d → IsUnsettled seen spoilt d → Contains reached m ⊎ (n ≡ m) → Contains (guids ++ g ∷ []) d
    by_number m d also is (inl old) = Contains-append_left guids (g ∷ []) d (are.all m d old also is)
    by_number m d also is (inr same) = subst (Contains (guids ++ g ∷ [])) (one-guid p n g d numbered (subst (λ k. IsNumbered p k d) (sym same) also)) (Contains-push guids g)
unsettled-more p seen spoilt reached n g guids false numbered tells are = record {
  within = λ d here. (let from = are.within d here in (from.0, Contains-append_left reached (n ∷ []) from.0 from.1, from.2, from.3));
  all = λ m d here also is. by_number m d also is (Contains-push_cases reached n m here);
}
  where
    by_number : (m : ℕ) (d : Guid) → IsNumbered p m d → IsUnsettled seen spoilt d → Contains reached m ⊎ (n ≡ m) → Contains guids d
    by_number m d also is (inl old) = are.all m d old also is
    by_number m d also is (inr same) = absurd (false≢true (tells.1 (subst (IsUnsettled seen spoilt) (sym (one-guid p n g d numbered (subst (λ k. IsNumbered p k d) (sym same) also))) is)))

-- ---- found by their bytes

module _ (guids : List Guid) (find : List ℕ → Option ℕ) (firsts : AreFirsts (map (λ (g : Guid). g.0) guids) find) where
  first-at : (d : Guid) (o : Option ℕ) → find d.0 ≡ o → IsFirstAt (map (λ (g : Guid). g.0) guids) d.0 o
  first-at d o is = subst (IsFirstAt (map (λ (g : Guid). g.0) guids) d.0) is (firsts d.0)

  among-none : (d : Guid) → find d.0 ≡ None → Contains guids d → ⊥
  among-none d is here = first-at d None is (Contains-map (λ (g : Guid). g.0) guids d here)

  among-some : (d : Guid) (n : ℕ) → find d.0 ≡ Some n → Contains guids d
  among-some d n is =
      let from = map-Contains (λ (g : Guid). g.0) guids d.0 (Contains-slice_get (map (λ (g : Guid). g.0) guids) n d.0 (first-at d (Some n) is).0) in
      subst (Contains guids) (same-guid from.0 d from.2) from.1

  find-cases : (d : Guid) → (find d.0 ≡ None) ⊎ ((n : ℕ) × (find d.0 ≡ Some n))
  find-cases d = by_value (find d.0) refl
    where
      by_value : (o : Option ℕ) → find d.0 ≡ o → (find d.0 ≡ None) ⊎ ((n : ℕ) × (find d.0 ≡ Some n))
      by_value None is = inl is
      by_value (Some n) is = inr (n, is)

module _ (p : Project) (places : List PlaceRow) (spoils : List (List Guid)) (reached found : List ℕ) (seen spoilt : List Guid) (all-seen : AllZip (AreSeen places) found seen) (are-spoilt : AreSpoilt spoils found spoilt)
    (see spoil : List ℕ → Option ℕ) (firsts : AreFirsts (map (λ (g : Guid). g.0) seen) see) (seconds : AreFirsts (map (λ (g : Guid). g.0) spoilt) spoil) where
  off-from : (d : Guid) → IsUnsettled see spoil d → IsOffWay places spoils found d
  off-from d (inl none) = inl (λ n here g seen-at same. unseen n here g seen-at same)
    where
      unseen : (n : ℕ) → Contains found n → (g : Guid) → AreSeen places n g → g ≡ d → ⊥
      unseen n here g (q, at, guid) same =
          let there = zip-here (AreSeen places) found seen n all-seen here in
          let own : there.0 ≡ d = sym there.2.2 ∙ (ap (λ (x : PlaceRow). x.guid) (same-some there.2.0 q (sym there.2.1 ∙ at)) ∙ (guid ∙ same)) in
          among-none seen see firsts d none (subst (Contains seen) own there.1)
  off-from d (inr (n, is)) = inr (are-spoilt.within d (among-some spoilt spoil seconds d n is))

  off-to : (d : Guid) → IsOffWay places spoils found d → IsUnsettled see spoil d
  off-to d (inr spoilt-at) = by_find (find-cases spoilt spoil seconds d)
    where
      by_find : (spoil d.0 ≡ None) ⊎ ((n : ℕ) × (spoil d.0 ≡ Some n)) → IsUnsettled see spoil d
      by_find (inl none) = absurd (among-none spoilt spoil seconds d none (are-spoilt.all d spoilt-at))
      by_find (inr there) = inr there
  off-to d (inl unseen) = by_find (find-cases seen see firsts d)
    where
      by_find : (see d.0 ≡ None) ⊎ ((n : ℕ) × (see d.0 ≡ Some n)) → IsUnsettled see spoil d
      by_find (inl none) = inl none
      by_find (inr (n, is)) =
          let from = zip-there (AreSeen places) found seen d all-seen (among-some seen see firsts d n is) in
          absurd (unseen from.0 from.1 d from.2 refl)

  pub changed-least : (guids : List Guid) (least : Option Guid) → AreUnsettled p see spoil reached guids → IsLeastIn guids least → IsLeastWhere (IsChangedAmong p places spoils reached found) least
  changed-least guids least are is = least-same (Contains guids) (IsChangedAmong p places spoils reached found)
      (λ d here. (let from = are.within d here in (from.0, from.1, from.2, off-from d from.3)))
      (λ d (n, here, numbered, off). are.all n d here numbered (off-to d off)) least is
