-- Numbers of the state's bundles: what a search by halving finds among names that rise.
use Rattle.std.proofs.Common.{◌≡◌, ℕ, ◌+◌, ◌<◌, Bool, true, false, ltb, List, [], length, get_or, map, Some, None, Err, nat_cmp, Less, Equal, refl, sym, ap, subst, ◌∙◌, arith}
use Rattle.std.proofs.lemmas.Bool.{ltb-true, ltb-false}
use Rattle.std.proofs.lemmas.Cmp.{nat_list_cmp_total, tied_itself}
use Rattle.std.proofs.lemmas.List.{get_or-map, length-map}
use Rattle.std.proofs.lemmas.List.Sorted.{searchable_from_sorted}
use Rattle.std.proofs.lemmas.Map.Keys.{Less-from_sorted}
use Rattle.std.proofs.lemmas.Map.Text.{is_eq-slice_cmp}
use Rattle.std.proofs.lemmas.Option.{get_or_from_slice_get, slice_get-get_or, slice_get_within}
use Rattle.std.proofs.lemmas.Slice.Eq.{bytes_eq-Decides}
use Rattle.std.specs.Cmp.Lexicographic.{slice_cmp}
use Rattle.std.specs.List.Sorted.{IsBinarySearchResult, IsNonDecreasingBy, IsStrictlySortedBy}
use Rattle.std.specs.Ordering.{is_eq, is_lt, ordering_index, ordering_reverse}
use Rattle.std.specs.Prelude.{◌↔◌}
use Rattle.addr_layout.proofs.RankLemmas.{same-some}
use Rattle.addr_project.proofs.OnceLemmas.{to_map}
use Rattle.addr_state.specs.declared.model.StateBundle.{StateBundle}
use Rattle.addr_walks.proofs.Lists.{sorted-once}
use Rattle.addr_needs.specs.Numbers.{IsNamedAt}

module _ (olds : List StateBundle) (rising : IsStrictlySortedBy (slice_cmp nat_cmp) (map (λ (b : StateBundle). b.name) olds)) where
  -- no two have one name
  pub one-number : (m n : ℕ) (name : List ℕ) → IsNamedAt olds m name → IsNamedAt olds n name → m ≡ n
  one-number m n name (old, at, is) (other, there, also) =
      sorted-once nat_list_cmp_total (map (λ (b : StateBundle). b.name) olds) rising m n name
      (to_map (λ (b : StateBundle). b.name) olds m old at ∙ ap Some is) (to_map (λ (b : StateBundle). b.name) olds n other there ∙ ap Some also)

  rises : (k : ℕ) (d : StateBundle) → k + 1 < length olds → slice_cmp nat_cmp (get_or olds k d).name (get_or olds (k + 1) d).name ≡ Less
  rises k d more =
      let many = length-map olds (λ (b : StateBundle). b.name) in
      let less = Less-from_sorted (slice_cmp nat_cmp) (map (λ (b : StateBundle). b.name) olds) k (k + 1) d.name rising (omega arith) (omega (arith, many, more)) in
      subst (λ x. slice_cmp nat_cmp x (get_or olds (k + 1) d).name ≡ Less) (get_or-map (λ (b : StateBundle). b.name) olds k d d.name (omega (arith, more)))
      (subst (λ y. slice_cmp nat_cmp (get_or (map (λ (b : StateBundle). b.name) olds) k d.name) y ≡ Less) (get_or-map (λ (b : StateBundle). b.name) olds (k + 1) d d.name more) less)

  above : (k : ℕ) (d : StateBundle) → k + 1 < length olds → is_lt (slice_cmp nat_cmp (get_or olds (k + 1) d).name (get_or olds k d).name) ≡ false
  above k d more = ap is_lt (nat_list_cmp_total.antisymm (get_or olds (k + 1) d).name (get_or olds k d).name ∙ ap ordering_reverse (rises k d more))

  searchable : (name : List ℕ) → IsNonDecreasingBy (λ (b : StateBundle). ordering_index (slice_cmp nat_cmp b.name name)) olds
  searchable name = searchable_from_sorted nat_list_cmp_total (λ (b : StateBundle). b.name) olds name (λ k d low more. above k d (omega (arith, more)))

  module _ (name : List ℕ) where
    pub found : (m : ℕ) → m < length olds → ((d : StateBundle) → slice_cmp nat_cmp (get_or olds m d).name name ≡ Equal) → (n : ℕ) → (Some m ≡ Some n) ↔ IsNamedAt olds n name
    found m within equal n = ((λ same. subst (λ k. IsNamedAt olds k name) (same-some m n same) here), (λ named. ap Some (one-number m n name here named)))
      where
        none : StateBundle
        none = record { name = []; group = []; file = []; id = []; digest = record { 0 = [] }; size = 0; entries = []; objects = [] }

        old : StateBundle
        old = get_or olds m none

        here : IsNamedAt olds m name
        here = (old, slice_get-get_or olds m none within, (bytes_eq-Decides old.name name).0 (sym (is_eq-slice_cmp old.name name) ∙ ap is_eq (equal none)))

    pub absent : (i : ℕ) → IsBinarySearchResult (λ (b : StateBundle). slice_cmp nat_cmp b.name name) olds (Err i) → (n : ℕ) → (None ≡ Some n) ↔ IsNamedAt olds n name
    absent i parted n = ((λ same. absurd (cc same)), (λ named. absurd (none named)))
      where
        none : IsNamedAt olds n name → ⊥
        none (old, at, is) = by_side (ltb n i) refl
          where
            within : n < length olds
            within = slice_get_within olds n old at

            tied : slice_cmp nat_cmp (get_or olds n old).name name ≡ Equal
            tied = ap (λ (b : StateBundle). slice_cmp nat_cmp b.name name) (get_or_from_slice_get olds n old old at) ∙ (ap (λ x. slice_cmp nat_cmp x name) is ∙ tied_itself nat_list_cmp_total name)

            by_side : (t : Bool) → ltb n i ≡ t → ⊥
            by_side true before = cc (sym ((parted (searchable name)).0 n old (omega (arith, within)) (ltb-true n i before)), tied)
            by_side false behind = cc (sym ((parted (searchable name)).1 n old (ltb-false n i behind) within), tied)
