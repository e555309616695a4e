-- The entries of one number, in a history that grows.
use Rattle.std.proofs.Common.{◌≡◌, ◌≢◌, ℕ, zero, suc, Bool, true, false, cond, List, [], ◌∷◌, ◌++◌, sym, refl, ap, ◌∙◌, subst, Option, Some, None, eq-eqb, ne_eqb, length, length-append, arith}
use Rattle.std.proofs.lemmas.List.{append-nil}
use Rattle.std.proofs.lemmas.List.Elements.{filter-append}
use mathlib.Core.Option.{some, some-injective, some-ne-none}
use Rattle.addr_turn.specs.OneHistory.{is_number, own, IsPrefix, At}

pub is_number-same : (n : Option ℕ) (k : ℕ) → n ≡ Some k → is_number n k ≡ true
is_number-same n k is = ap (λ (z : Option ℕ). is_number z k) is ∙ eq-eqb k k refl

pub is_number-other : (n : Option ℕ) (k : ℕ) → ((j : ℕ) → n ≡ Some j → j ≢ k) → is_number n k ≡ false
is_number-other None k other = refl
is_number-other (Some j) k other = ne_eqb j k (other j refl)

module _ {E : Type 0} (number : E → Option ℕ) where
  pub own_cons : (k : ℕ) (e : E) (log : List E) → own number k (e ∷ log) ≡ cond (is_number (number e) k) (e ∷ own number k log) (own number k log)
  unfolding own
  own_cons k e log = refl

  own_first : (k : ℕ) (e : E) (log : List E) (b : Bool) → is_number (number e) k ≡ b → own number k (e ∷ log) ≡ cond b (e ∷ own number k log) (own number k log)
  own_first k e log b is = own_cons k e log ∙ ap (λ (z : Bool). cond z (e ∷ own number k log) (own number k log)) is

  own_append : (k : ℕ) (xs ys : List E) → own number k (xs ++ ys) ≡ own number k xs ++ own number k ys
  unfolding own
  own_append k xs ys = filter-append (λ e. is_number (number e) k) xs ys

  own_none : (k : ℕ) → own number k [] ≡ []
  unfolding own
  own_none k = refl

  own_only : (k : ℕ) (e : E) (b : Bool) → is_number (number e) k ≡ b → own number k (e ∷ []) ≡ cond b (e ∷ []) []
  own_only k e true is = own_first k e [] true is ∙ ap (λ (z : List E). e ∷ z) (own_none k)
  own_only k e false is = own_first k e [] false is ∙ own_none k

  -- an entry of the number adds itself
  pub own_more : (k : ℕ) (log : List E) (e : E) → number e ≡ Some k → own number k (log ++ e ∷ []) ≡ own number k log ++ e ∷ []
  own_more k log e is = own_append k log (e ∷ []) ∙ ap (λ (z : List E). own number k log ++ z) (own_only k e true (is_number-same (number e) k is))

  -- another one adds nothing
  pub own_same : (k : ℕ) (log : List E) (e : E) → ((j : ℕ) → number e ≡ Some j → j ≢ k) → own number k (log ++ e ∷ []) ≡ own number k log
  own_same k log e other = own_append k log (e ∷ []) ∙ (ap (λ (z : List E). own number k log ++ z) (own_only k e false (is_number-other (number e) k other)) ∙ append-nil (own number k log))

  cond_has : (b : Bool) (e x : E) (xs : List E) → ((i : ℕ) × At xs i x) → (i : ℕ) × At (cond b (e ∷ xs) xs) i x
  cond_has true e x xs h = (suc h.0, h.1)
  cond_has false e x xs h = h

  -- an entry of the number k stands among the entries of that number
  pub own_has : (k : ℕ) (log : List E) (p : ℕ) (e : E) → At log p e → number e ≡ Some k → (i : ℕ) × At (own number k log) i e
  own_has k [] p e at is = absurd (some-ne-none e (sym at))
  own_has k (x ∷ log) zero e at is = let same : x ≡ e = some-injective x e at in
      (0, ap (λ (l : List E). lib.ListN.get_elem? l 0) (own_first k x log true (is_number-same (number x) k (ap number same ∙ is))) ∙ ap some same)
  own_has k (x ∷ log) (suc p) e at is = let h = own_has k log p e at is in let b : Bool = is_number (number x) k in
      subst (λ (l : List E). (i : ℕ) × At l i e) (sym (own_cons k x log)) (cond_has b x e (own number k log) h)

  -- where no entry has the number k
  pub own_nothing : (k : ℕ) (log : List E) → ((p : ℕ) (e : E) → At log p e → number e ≡ Some k → ⊥) → own number k log ≡ []
  own_nothing k [] never = own_none k
  own_nothing k (x ∷ log) never = own_first k x log false (is_number-other (number x) k (λ j is same. never 0 x refl (is ∙ ap (λ (z : ℕ). let m : Option ℕ = Some z in m) same))) ∙ own_nothing k log (λ p e at is. never (suc p) e at is)

  -- a history between two that have the same entries of a number has them too
  pub own_between : (k : ℕ) (xs ys zs : List E) (mine : List E) → IsPrefix xs ys → IsPrefix ys zs → own number k xs ≡ mine → own number k zs ≡ mine → own number k ys ≡ mine
  own_between k xs ys zs mine a b first last = let more : own number k ys ≡ mine ++ own number k a.0 = ap (own number k) (sym a.1) ∙ (own_append k xs a.0 ∙ ap (λ (l : List E). l ++ own number k a.0) first) in
      let all : mine ≡ (mine ++ own number k a.0) ++ own number k b.0 = sym last ∙ (ap (own number k) (sym b.1) ∙ (own_append k ys b.0 ∙ ap (λ (l : List E). l ++ own number k b.0) more)) in
      let size : length mine ≡ length ((mine ++ own number k a.0) ++ own number k b.0) = ap length all in let l = length-append (mine ++ own number k a.0) (own number k b.0) in let m = length-append mine (own number k a.0) in
      more ∙ (ap (λ (l : List E). mine ++ l) (none_left (own number k a.0) (omega (arith, size, l, m))) ∙ append-nil mine)
    where
      none_left : (l : List E) → length l ≡ 0 → l ≡ []
      none_left [] h = refl
      none_left (x ∷ l) h = absurd (omega (arith, h))
