-- A project's own placement: each entry in exactly one bundle, no bundle kept, and no more bundles than entries.
use Rattle.std.proofs.Common.{◌≡◌, ℕ, zero, suc, ◌<◌, ◌≤◌, ◌⊎◌, inl, inr, false, List, [], ◌∷◌, ◌++◌, length, get_or, Some, nat_eq, refl, subst, arith}
use Rattle.std.proofs.lemmas.Bool.{false_from_ne_true}
use Rattle.std.proofs.lemmas.Cmp.{nat_eq_equiv}
use Rattle.std.proofs.lemmas.List.{length_push}
use Rattle.std.proofs.lemmas.Map.Keys.{IsDistinct-push}
use Rattle.std.proofs.lemmas.Map.Steps.{length-le_from_distinct_below}
use Rattle.std.proofs.lemmas.Option.{slice_get-get_or, slice_get_within}
use Rattle.std.specs.List.{Contains, IsDistinct, list_any, slice_get}
use Rattle.addr_pack.specs.declared.bundles.Plan.{Plan}
use Rattle.addr_pack.specs.declared.bundles.PlanBundle.{PlanBundle}
use Rattle.addr_pack.specs.Placement.{InBundle, IsPlaced}
use Rattle.addr_project.specs.Kept.{IsKept}
use Rattle.addr_project.specs.Model.{Project}
use Rattle.addr_walks.proofs.MarkLemmas.{any-Contains}
use Rattle.addr_walks.proofs.Lists.{Contains-none}
use Rattle.std.proofs.lemmas.List.Elements.{Contains-push_cases}
use Rattle.addr_layout.specs.Direct.{IsAllNew}
use Rattle.addr_layout.specs.Members.{IsShared}
use Rattle.addr_layout.proofs.LimitLemmas.{few-entries}

module _ (p : Project) (plan : Plan) (placed : IsPlaced p plan) where
  entry-within : (b x : ℕ) → InBundle plan b x → x < length p.entries
  entry-within b x (bundle, at, here) = let named = (placed.classes b bundle at).named x here in slice_get_within p.entries x named.0 named.1

  pub shared : IsShared p plan
  shared = record { each = placed.each; one = λ b c x here there. (placed.same b c x x here there).1 (inl refl); entries = entry-within }

  pub all-new : IsAllNew plan
  all-new b bundle at = (placed.classes b bundle at).new

  -- one entry of each of the first n bundles, all different
  record Chosen (n : ℕ) : Type 0 where
    pub entries : List ℕ
    pub as_many : length entries ≡ n
    pub once : IsDistinct nat_eq entries
    pub of : (x : ℕ) → Contains entries x → (b : ℕ) × (b < n) × InBundle plan b x

  chosen : (n : ℕ) → n ≤ length plan.bundles → Chosen n
  unfolding IsDistinct
  chosen zero within = record { entries = []; as_many = refl; once = tt; of = λ x here. absurd (Contains-none x here) }
  chosen (suc n) within = more (chosen n (omega arith)) (get_or plan.bundles n none) (slice_get-get_or plan.bundles n none (omega arith))
    where
      none : PlanBundle
      none = record { name = []; group = 0; kept = false; entries = [] }

      more : Chosen n → (bundle : PlanBundle) → slice_get plan.bundles n ≡ Some bundle → Chosen (suc n)
      more before bundle at = record {
        entries = before.entries ++ first.0 ∷ [];
        as_many = (let longer = length_push before.entries first.0 in let old = before.as_many in omega arith);
        once = IsDistinct-push nat_eq_equiv before.entries first.0 before.once (false_from_ne_true (list_any (nat_eq first.0) before.entries) (λ any. another (before.of first.0 (any-Contains first.0 before.entries any))));
        of = λ x here. of x (Contains-push_cases before.entries first.0 x here);
      }
        where
          first : (x : ℕ) × Contains bundle.entries x
          first = (placed.classes n bundle at).filled

          another : (b : ℕ) × (b < n) × InBundle plan b first.0 → ⊥
          another (b, below, there) = let same = shared.one b n first.0 there (bundle, at, first.1) in omega arith

          of : (x : ℕ) → Contains before.entries x ⊎ (first.0 ≡ x) → (b : ℕ) × (b < suc n) × InBundle plan b x
          of x (inl here) = let old = before.of x here in (old.0, (let below = old.1 in omega arith), old.2)
          of x (inr same) = (n, omega arith, subst (InBundle plan n) same (bundle, at, first.1))

  pub few-bundles : IsKept p → length plan.bundles ≤ 65536
  few-bundles kept = within (chosen (length plan.bundles) (omega arith))
    where
      within : Chosen (length plan.bundles) → length plan.bundles ≤ 65536
      within all =
          let few = few-entries p kept in
          let short = length-le_from_distinct_below all.entries (length p.entries) all.once (λ x any. below x (all.of x (any-Contains x all.entries any))) in
          let same = all.as_many in
          omega arith
        where
          below : (x : ℕ) → (b : ℕ) × (b < length plan.bundles) × InBundle plan b x → x < length p.entries
          below x (b, less, here) = entry-within b x here
