-- In how many parts of domains a number stands, over a change of one view.
use Rattle.std.proofs.Common.{◌≡◌, ◌≢◌, ℕ, zero, suc, ◌+◌, ◌-◌, ◌≤◌, List, [], ◌∷◌, ◌++◌, map, set, refl, sym, ap, ◌∙◌, arith}
use mathlib.Core.Option.{some-injective, some-ne-none}
use Rattle.addr_turn.specs.declared.board.View.{View}
use Rattle.addr_turn.specs.Numbers.{in_span, times, single}
use Rattle.addr_turn.specs.OneHistory.{At, had, unused, domain, claims, spares_of}

pub times-append : (k : ℕ) (xs ys : List (ℕ × ℕ)) → times k (xs ++ ys) ≡ times k xs + times k ys
times-append k [] ys = omega arith
times-append k (x ∷ xs) ys = let h = times-append k xs ys in omega (arith, h)

-- a number stands once in its own span
pub in_own_span : (k : ℕ) → in_span k k 1 ≡ 1
in_own_span k = omega arith

-- the numbers of a span, cut in two
pub span_cut : (k low n m : ℕ) → m ≤ n → in_span k low n ≡ in_span k low m + in_span k (low + m) (n - m)
span_cut k low n m h = omega (arith, h)

-- the number of a pass that was met stands in the domain
pub met_claims : {E : Type 0} (others : List (ℕ × List E)) (i k : ℕ) (es : List E) → At others i (k, es) → 1 ≤ times k (map single others)
met_claims {E} [] i k es e = absurd (some-ne-none (k, es) (sym e))
met_claims {E} (o ∷ others) zero k es e = let same : o.0 ≡ k = ap (λ (z : ℕ × List E). z.0) (some-injective o (k, es) e) in let one = in_own_span k in let here : in_span k o.0 1 ≡ 1 = ap (λ (z : ℕ). in_span k z 1) same ∙ one in omega (arith, here)
met_claims {E} (o ∷ others) (suc i) k es e = let h = met_claims others i k es e in omega (arith, h)

module _ {E F : Type 0} where
  pub claims_set : (k : ℕ) (vs : List (View E F)) (me : ℕ) (v w : View E F) → At vs me v → claims k (set vs me w) + times k (domain v) ≡ claims k vs + times k (domain w)
  claims_set k [] me v w e = absurd (some-ne-none v (sym e))
  claims_set k (x ∷ xs) zero v w e = let same : times k (domain x) ≡ times k (domain v) = ap (λ (z : View E F). times k (domain z)) (some-injective x v e) in omega (arith, same)
  claims_set k (x ∷ xs) (suc me) v w e = let h = claims_set k xs me v w e in omega (arith, h)

  pub claims_append : (k : ℕ) (vs : List (View E F)) (w : View E F) → claims k (vs ++ w ∷ []) ≡ claims k vs + times k (domain w)
  claims_append k [] w = omega arith
  claims_append k (x ∷ xs) w = let h = claims_append k xs w in omega (arith, h)

  pub claims_one : (k : ℕ) (vs : List (View E F)) (i : ℕ) (v : View E F) → At vs i v → times k (domain v) ≤ claims k vs
  claims_one k [] i v e = absurd (some-ne-none v (sym e))
  claims_one k (x ∷ xs) zero v e = let same : times k (domain x) ≡ times k (domain v) = ap (λ (z : View E F). times k (domain z)) (some-injective x v e) in omega (arith, same)
  claims_one k (x ∷ xs) (suc i) v e = let h = claims_one k xs i v e in omega (arith, h)

  -- what two seats claim is claimed twice
  pub claims_two : (k : ℕ) (vs : List (View E F)) (i j : ℕ) (v w : View E F) → i ≢ j → At vs i v → At vs j w → times k (domain v) + times k (domain w) ≤ claims k vs
  claims_two k [] i j v w ne e f = absurd (some-ne-none v (sym e))
  claims_two k (x ∷ xs) zero zero v w ne e f = absurd (ne refl)
  claims_two k (x ∷ xs) zero (suc j) v w ne e f = let same : times k (domain x) ≡ times k (domain v) = ap (λ (z : View E F). times k (domain z)) (some-injective x v e) in let h = claims_one k xs j w f in omega (arith, same, h)
  claims_two k (x ∷ xs) (suc i) zero v w ne e f = let same : times k (domain x) ≡ times k (domain w) = ap (λ (z : View E F). times k (domain z)) (some-injective x w f) in let h = claims_one k xs i v e in omega (arith, same, h)
  claims_two k (x ∷ xs) (suc i) (suc j) v w ne e f = let h = claims_two k xs i j v w (λ s. ne (ap suc s)) e f in omega (arith, h)

  pub spares_set : (vs : List (View E F)) (me : ℕ) (v w : View E F) → At vs me v → spares_of (set vs me w) + v.spare ≡ spares_of vs + w.spare
  spares_set [] me v w e = absurd (some-ne-none v (sym e))
  spares_set (x ∷ xs) zero v w e = let same : x.spare ≡ v.spare = ap (λ (z : View E F). z.spare) (some-injective x v e) in omega (arith, same)
  spares_set (x ∷ xs) (suc me) v w e = let h = spares_set xs me v w e in omega (arith, h)

  pub spares_append : (vs : List (View E F)) (w : View E F) → spares_of (vs ++ w ∷ []) ≡ spares_of vs + w.spare
  spares_append [] w = omega arith
  spares_append (x ∷ xs) w = let h = spares_append xs w in omega (arith, h)

  pub domain_parts : (k : ℕ) (v : View E F) → times k (domain v) ≡ in_span k v.number 1 + times k (map single v.others) + times k (unused v)
  domain_parts k v = let h = times-append k (had v) (unused v) in omega (arith, h)
