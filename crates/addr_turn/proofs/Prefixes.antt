-- Prefixes of one list, and places in a list that grows.
use Rattle.std.proofs.Common.{◌≡◌, ◌⊎◌, ℕ, zero, suc, ◌<◌, ◌≤◌, List, [], ◌∷◌, ◌++◌, length, refl, sym, ap, ◌∙◌, inl, inr, arith, append_assoc, length-append}
use Rattle.std.proofs.lemmas.List.{append-nil}
use mathlib.Core.Option.{some-injective, some-ne-none}
use lib.ListN.{get_elem?}
use Rattle.addr_turn.specs.OneHistory.{IsPrefix, At}

module _ {E : Type 0} where
  pub prefix_of_itself : (xs : List E) → IsPrefix xs xs
  prefix_of_itself xs = ([], append-nil xs)

  pub prefix_of_more : (xs ys zs : List E) → IsPrefix xs ys → IsPrefix xs (ys ++ zs)
  prefix_of_more xs ys zs b = (b.0 ++ zs, sym (append_assoc xs b.0 zs) ∙ ap (λ (l : List E). l ++ zs) b.1)

  pub prefix_length : (xs ys : List E) → IsPrefix xs ys → length xs ≤ length ys
  prefix_length xs ys b = let l = length-append xs b.0 in let m : length (xs ++ b.0) ≡ length ys = ap length b.1 in omega (arith, l, m)

  abbrev tail : List E → List E
  tail [] = []
  tail (x ∷ xs) = xs

  -- of two prefixes of one list the shorter is a prefix of the longer
  pub prefix_of_longer : (xs ys zs : List E) → IsPrefix xs zs → IsPrefix ys zs → length xs ≤ length ys → IsPrefix xs ys
  prefix_of_longer [] ys zs a b h = (ys, refl)
  prefix_of_longer (x ∷ xs) [] zs a b h = absurd (omega (arith, h))
  prefix_of_longer (x ∷ xs) (y ∷ ys) [] a b h = let l = prefix_length (x ∷ xs) [] a in absurd (omega (arith, l))
  prefix_of_longer (x ∷ xs) (y ∷ ys) (z ∷ zs) a b h = let head : y ≡ x = some-injective y x (ap (λ (l : List E). get_elem? l 0) b.1 ∙ sym (ap (λ (l : List E). get_elem? l 0) a.1)) in
      let rest = prefix_of_longer xs ys zs (a.0, ap tail a.1) (b.0, ap tail b.1) (omega (arith, h)) in (rest.0, λ i. sym head i ∷ rest.1 i)

  pub at_below : (xs : List E) (i : ℕ) (x : E) → At xs i x → i < length xs
  at_below [] i x e = absurd (some-ne-none x (sym e))
  at_below (y ∷ xs) zero x e = omega arith
  at_below (y ∷ xs) (suc i) x e = let h = at_below xs i x e in omega (arith, h)

  -- what stands in a list with one more stands in the list, or is the last one
  pub at_snoc_place : (xs : List E) (y x : E) (i : ℕ) → At (xs ++ y ∷ []) i x → At xs i x ⊎ ((i ≡ length xs) × (y ≡ x))
  at_snoc_place [] y x zero e = inr (refl, some-injective y x e)
  at_snoc_place [] y x (suc i) e = absurd (some-ne-none x (sym e))
  at_snoc_place (z ∷ xs) y x zero e = inl e
  at_snoc_place (z ∷ xs) y x (suc i) e = step (at_snoc_place xs y x i e)
    where
      step : At xs i x ⊎ ((i ≡ length xs) × (y ≡ x)) → At (z ∷ xs) (suc i) x ⊎ ((suc i ≡ length (z ∷ xs)) × (y ≡ x))
      step (inl h) = inl h
      step (inr h) = inr (ap suc h.0, h.1)

  -- what stands in a joined list stands in one of the two
  pub at_append : (xs ys : List E) (i : ℕ) (x : E) → At (xs ++ ys) i x → At xs i x ⊎ ((j : ℕ) × At ys j x)
  at_append [] ys i x e = inr (i, e)
  at_append (z ∷ xs) ys zero x e = inl e
  at_append (z ∷ xs) ys (suc i) x e = at_append xs ys i x e

  pub at_left : (xs ys : List E) (i : ℕ) (x : E) → At xs i x → At (xs ++ ys) i x
  at_left [] ys i x e = absurd (some-ne-none x (sym e))
  at_left (z ∷ xs) ys zero x e = e
  at_left (z ∷ xs) ys (suc i) x e = at_left xs ys i x e

  pub at_right : (xs ys : List E) (j : ℕ) (x : E) → At ys j x → (i : ℕ) × At (xs ++ ys) i x
  at_right [] ys j x e = (j, e)
  at_right (z ∷ xs) ys j x e = let h = at_right xs ys j x e in (suc h.0, h.1)
