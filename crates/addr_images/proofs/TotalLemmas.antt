-- A total that grows by one bundle after another.
use Rattle.std.proofs.Common.{◌≡◌, ◌<◌, ◌≤◌, ◌+◌, ◌*◌, ◌^◌, ℕ, List, [], ◌∷◌, ◌++◌, length, refl, sym, ap, subst, ◌∙◌, arith}
use Rattle.std.proofs.lemmas.List.{length_push}
use Rattle.std.proofs.lemmas.List.Sums.{sum_by_push}
use Rattle.std.specs.List.{sum}
use Rattle.addr_walks.specs.Places.{EachAt}
use Rattle.addr_walks.proofs.Lists.{EachAt-push}

-- sizes of the first n bundles and their sum, each below a bound
pub record SumTo (fits : ℕ → ℕ → Type 0) (n total : ℕ) : Type 0 where
  pub sizes : List ℕ
  pub as_many : length sizes ≡ n
  pub each : EachAt fits sizes
  pub is : total ≡ sum sizes
  pub few : total ≤ n * 2 ^ 29

pub sum-none : (fits : ℕ → ℕ → Type 0) → SumTo fits 0 0
sum-none fits = record { sizes = []; as_many = refl; each = λ k x at. absurd (cc at); is = refl; few = omega arith }

pub sum-more : (fits : ℕ → ℕ → Type 0) (n total more : ℕ) → fits n more → more < 2 ^ 29 → SumTo fits n total → SumTo fits (n + 1) (total + more)
sum-more fits n total more here small so_far = record {
  sizes = so_far.sizes ++ more ∷ [];
  as_many = length_push so_far.sizes more ∙ ap (λ k. k + 1) so_far.as_many;
  each = EachAt-push fits so_far.sizes more so_far.each (subst (λ k. fits k more) (sym so_far.as_many) here);
  is = (let push = sum_by_push (λ (x : ℕ). x) so_far.sizes more in let is = so_far.is in omega (arith, push, is));
  few = (let few = so_far.few in omega (arith, few, small));
}
