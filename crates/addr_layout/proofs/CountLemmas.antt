-- Whole counts: the lists of the first bundles, and the total of their lengths.
use Rattle.std.proofs.Common.{◌≡◌, ℕ, ◌+◌, ◌<◌, ◌≤◌, Bool, true, false, List, [], ◌∷◌, ◌++◌, length, get_or, map, Some, refl, sym, ap, subst, ◌∙◌, arith}
use Rattle.std.proofs.lemmas.List.{length-map, length_push, map_push}
use Rattle.std.proofs.lemmas.List.Elements.{Contains-get_or}
use Rattle.std.proofs.lemmas.List.Sums.{sum_by_push}
use Rattle.std.proofs.lemmas.Map.Views.{length-le_from_below}
use Rattle.std.proofs.lemmas.Option.{slice_get_within}
use Rattle.std.specs.Bool.{MatchBool}
use Rattle.std.specs.List.{slice_get, sum}
use Rattle.addr_pack.specs.declared.bundles.Plan.{Plan}
use Rattle.addr_pack.specs.declared.bundles.PlanBundle.{PlanBundle}
use Rattle.addr_project.specs.Kept.{IsKept}
use Rattle.addr_project.specs.Model.{Project}
use Rattle.addr_walks.specs.Places.{EachAt}
use Rattle.addr_walks.specs.Rows.{IsSizeOf, LedTo}
use Rattle.addr_walks.proofs.Lists.{EachAt-push}
use Rattle.addr_layout.specs.declared.graph.Graph.{Graph}
use Rattle.addr_layout.specs.Counts.{AreCounted}
use Rattle.addr_layout.specs.Graph.{IsGraph, number_at, seeds_at}
use Rattle.addr_layout.specs.Layout.{AreMembers}
use Rattle.addr_layout.specs.Members.{IsShared}
use Rattle.addr_layout.proofs.FoundLemmas.{members-are, rank-below}
use Rattle.addr_layout.proofs.GraphLemmas.{sized}

-- lists of the first n bundles, each as its bundle wants it, and the total of their lengths
pub record TotalTo (fits : ℕ → List ℕ → Type 0) (n total : ℕ) : Type 0 where
  pub lists : List (List ℕ)
  pub as_many : length lists ≡ n
  pub each : EachAt fits lists
  pub is : total ≡ sum (map length lists)

pub total-none : (fits : ℕ → List ℕ → Type 0) → TotalTo fits 0 0
total-none fits = record { lists = []; as_many = refl; each = λ k x at. absurd (cc at); is = refl }

pub total-more : (fits : ℕ → List ℕ → Type 0) (n total : ℕ) (xs : List ℕ) (more : ℕ) → fits n xs → more ≡ length xs → TotalTo fits n total → TotalTo fits (n + 1) (total + more)
total-more fits n total xs more fit is before = record {
  lists = before.lists ++ xs ∷ [];
  as_many = length_push before.lists xs ∙ ap (λ k. k + 1) before.as_many;
  each = EachAt-push fits before.lists xs before.each (subst (λ k. fits k xs) (sym before.as_many) fit);
  is =
      let pushed = sum_by_push (λ x. x) (map length before.lists) (length xs) in
      let mapped : sum (map length (before.lists ++ xs ∷ [])) ≡ sum (map length before.lists ++ length xs ∷ []) = ap sum (map_push length before.lists xs) in
      let old = before.is in
      omega arith;
}

-- the members of one bundle, as many as a search counts, and not more than there are assets
pub members-counted : (p : Project) (plan : Plan) (graph : Graph) → IsKept p → IsShared p plan → IsGraph p plan graph → (b n : ℕ) (bundle : PlanBundle) → slice_get plan.bundles b ≡ Some bundle
    → MatchBool bundle.kept (n ≡ 0) (IsSizeOf (LedTo graph.within (seeds_at graph b)) n) → (n ≤ 65536) × ((xs : List ℕ) × AreCounted p plan b xs × (n ≡ length xs))
members-counted p plan graph kept shared is b n bundle at counted = by_test bundle.kept refl counted
  where
    inside : b < length graph.seeds
    inside = let within = slice_get_within plan.bundles b bundle at in let same = is.as_many in omega arith

    by_test : (t : Bool) → bundle.kept ≡ t → MatchBool t (n ≡ 0) (IsSizeOf (LedTo graph.within (seeds_at graph b)) n) → (n ≤ 65536) × ((xs : List ℕ) × AreCounted p plan b xs × (n ≡ length xs))
    by_test true taken none = (omega arith, ([], (bundle, at, subst (λ t. MatchBool t (◌≡◌ {A = List ℕ} [] []) (AreMembers p plan b [])) (sym taken) refl), none))
    by_test false new (found, list, size) = (
      (let few = (sized p plan graph is).few in
          let below = length-le_from_below (length graph.guids) found list.rising (λ k d within. rank-below p plan graph kept shared is b (get_or found k d) inside (list.within (get_or found k d) (Contains-get_or found k d within))) in
          omega arith),
      (
        map (number_at graph) found,
        (bundle, at, subst (λ t. MatchBool t (map (number_at graph) found ≡ []) (AreMembers p plan b (map (number_at graph) found))) (sym new) (members-are p plan graph kept shared is b found inside list)),
        size ∙ sym (length-map found (number_at graph)),
      ),
    )
