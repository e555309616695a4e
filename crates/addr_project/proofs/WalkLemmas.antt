-- Whether a walk leads from one thing to another is decided, where steps are and all of them leave things of a list; and each
-- set that is decided on a list has an ascending list.
use Rattle.std.proofs.Common.{◌≡◌, Bool, true, false, ◌||◌, ◌&&◌, List, [], ◌∷◌, Ordering, Less, Equal, Greater, refl, ap, sym, subst, ◌∙◌, ◌⊎◌, inl, inr}
use Rattle.std.proofs.lemmas.Bool.{false≢true}
use Rattle.std.specs.BTreeSet.{insert_key}
use Rattle.std.specs.Cmp.{IsTotalOrder}
use Rattle.std.specs.List.{AllByRecursion, Contains}
use Rattle.std.specs.List.Sorted.{IsStrictlySortedBy}
use Rattle.std.specs.Ordering.{ordering_reverse}
use Rattle.addr_walks.specs.Walks.{Leads}
use Rattle.addr_walks.specs.Walks.Leads.{stays, goes}
use Rattle.addr_walks.proofs.Lists.{Contains-here, Contains-later, Contains-cases, Contains-none}
use Rattle.addr_walks.proofs.Walking.{Leads-join}

pub either : (a b : Bool) → (a || b) ≡ true → (a ≡ true) ⊎ (b ≡ true)
either true b is = inl refl
either false b is = inr is

pub both : (a b : Bool) → (a && b) ≡ true → (a ≡ true) × (b ≡ true)
both true b is = (refl, is)
both false b is = absurd (false≢true is)

pub with-both : (a b : Bool) → a ≡ true → b ≡ true → (a && b) ≡ true
with-both a b first second = rw (first, second) refl

pub with-first : (a b : Bool) → a ≡ true → (a || b) ≡ true
with-first a b is = rw is refl

pub with-second : (a b : Bool) → b ≡ true → (a || b) ≡ true
with-second true b is = refl
with-second false b is = is

module _ {X : Type 0} (step : X → X → Bool) where
  -- a walk of at least one step leads from x to y, and in between only over things of the list
  abbrev pub led : List X → X → X → Bool
  led [] x y = step x y
  led (k ∷ ks) x y = led ks x y || (led ks x k && led ks k y)

  led-step : (ks : List X) (x y : X) → step x y ≡ true → led ks x y ≡ true
  led-step [] x y is = is
  led-step (k ∷ ks) x y is = with-first (led ks x y) (led ks x k && led ks k y) (led-step ks x y is)

  pub led-walk : (ks : List X) (x y : X) → led ks x y ≡ true → Leads (λ a b. step a b ≡ true) x y
  led-walk [] x y is = goes stays is
  led-walk (k ∷ ks) x y is = by_case (led-walk ks) (either (led ks x y) (led ks x k && led ks k y) is)
    where
      by_case : ((a b : X) → led ks a b ≡ true → Leads (λ a b. step a b ≡ true) a b) → (led ks x y ≡ true) ⊎ ((led ks x k && led ks k y) ≡ true) → Leads (λ a b. step a b ≡ true) x y
      by_case walk (inl direct) = walk x y direct
      by_case walk (inr over) =
          let parts = both (led ks x k) (led ks k y) over in
          Leads-join (λ a b. step a b ≡ true) x k y (walk x k parts.0) (walk k y parts.1)

  -- walks that meet at a thing of the list are one walk
  led-join : (ks : List X) (m x y : X) → Contains ks m → led ks x m ≡ true → led ks m y ≡ true → led ks x y ≡ true
  led-join [] m x y there first second = absurd (Contains-none m there)
  led-join (k ∷ ks) m x y there first second = by_place (Contains-cases k ks m there) (either (led ks x m) (led ks x k && led ks k m) first) (either (led ks m y) (led ks m k && led ks k y) second) (led-join ks m)
    where
      over : led ks x k ≡ true → led ks k y ≡ true → led (k ∷ ks) x y ≡ true
      over to from = with-second (led ks x y) (led ks x k && led ks k y) (with-both (led ks x k) (led ks k y) to from)

      to-here : k ≡ m → (led ks x m ≡ true) ⊎ ((led ks x k && led ks k m) ≡ true) → led ks x k ≡ true
      to-here same (inl direct) = subst (λ n. led ks x n ≡ true) (sym same) direct
      to-here same (inr around) = (both (led ks x k) (led ks k m) around).0

      from-here : k ≡ m → (led ks m y ≡ true) ⊎ ((led ks m k && led ks k y) ≡ true) → led ks k y ≡ true
      from-here same (inl direct) = subst (λ n. led ks n y ≡ true) (sym same) direct
      from-here same (inr around) = (both (led ks m k) (led ks k y) around).1

      by_place : (k ≡ m) ⊎ Contains ks m → (led ks x m ≡ true) ⊎ ((led ks x k && led ks k m) ≡ true) → (led ks m y ≡ true) ⊎ ((led ks m k && led ks k y) ≡ true)
          → ((x y : X) → Contains ks m → led ks x m ≡ true → led ks m y ≡ true → led ks x y ≡ true) → led (k ∷ ks) x y ≡ true
      by_place (inl same) to from join = over (to-here same to) (from-here same from)
      by_place (inr later) (inl to) (inl from) join = with-first (led ks x y) (led ks x k && led ks k y) (join x y later to from)
      by_place (inr later) (inl to) (inr from) join =
          let parts = both (led ks m k) (led ks k y) from in
          over (join x k later to parts.0) parts.1
      by_place (inr later) (inr to) (inl from) join =
          let parts = both (led ks x k) (led ks k m) to in
          over parts.0 (join k y later parts.1 from)
      by_place (inr later) (inr to) (inr from) join = over (both (led ks x k) (led ks k m) to).0 (both (led ks m k) (led ks k y) from).1

  pub walk-led : (all : List X) → ((x y : X) → step x y ≡ true → Contains all x) → (x y : X) → Leads (λ a b. step a b ≡ true) x y → (x ≡ y) ⊎ (led all x y ≡ true)
  walk-led all leaves x y stays = inl refl
  walk-led all leaves x y (goes {x = m} {y = z} before last) = by_case (walk-led all leaves x m before)
    where
      by_case : (x ≡ m) ⊎ (led all x m ≡ true) → (x ≡ z) ⊎ (led all x z ≡ true)
      by_case (inl same) = inr (led-step all x z (subst (λ w. step w z ≡ true) (sym same) last))
      by_case (inr led-to) = inr (led-join all m x z (leaves m z last) led-to (led-step all m z last))

module _ {X : Type 0} (cmp : X → X → Ordering) (total : IsTotalOrder cmp) where
  all-put : (P : X → Type 0) (x : X) (xs : List X) → P x → AllByRecursion P xs → AllByRecursion P (insert_key cmp xs x)
  all-put P x [] here all = (here, tt)
  all-put P x (y ∷ ys) here (first, rest) = by_order (all-put P x ys here rest) (cmp x y) refl
    where
      by_order : AllByRecursion P (insert_key cmp ys x) → (o : Ordering) → cmp x y ≡ o → AllByRecursion P (insert_key cmp (y ∷ ys) x)
      by_order later Less is = rw is (here, (first, rest))
      by_order later Equal is = rw is (first, rest)
      by_order later Greater is = rw is (first, later)

  above : (x y : X) (ys : List X) → cmp x y ≡ Less → AllByRecursion (λ z. cmp y z ≡ Less) ys → AllByRecursion (λ z. cmp x z ≡ Less) ys
  above x y [] below all = tt
  above x y (z ∷ zs) below (first, rest) = (total.trans x y z below first, above x y zs below rest)

  pub put-rises : (x : X) (xs : List X) → IsStrictlySortedBy cmp xs → IsStrictlySortedBy cmp (insert_key cmp xs x)
  unfolding IsStrictlySortedBy
  put-rises x [] rising = (tt, tt)
  put-rises x (y ∷ ys) (first, rest) = by_order (put-rises x ys rest) (cmp x y) refl
    where
      by_order : IsStrictlySortedBy cmp (insert_key cmp ys x) → (o : Ordering) → cmp x y ≡ o → IsStrictlySortedBy cmp (insert_key cmp (y ∷ ys) x)
      by_order later Less is = rw is ((is, above x y ys is first), (first, rest))
      by_order later Equal is = rw is (first, rest)
      by_order later Greater is =
          let below : cmp y x ≡ Less = total.antisymm y x ∙ ap ordering_reverse is in
          rw is (all-put (λ z. cmp y z ≡ Less) x ys below first, later)

  pub nil-rises : IsStrictlySortedBy cmp []
  unfolding IsStrictlySortedBy
  nil-rises = tt

  pub put-there : (x : X) (xs : List X) → ((y : X) → Contains xs y → cmp x y ≡ Equal → x ≡ y) → Contains (insert_key cmp xs x) x
  put-there x [] exact = Contains-here x []
  put-there x (y ∷ ys) exact = by_order (put-there x ys (λ z there. exact z (Contains-later y ys z there))) (cmp x y) refl
    where
      by_order : Contains (insert_key cmp ys x) x → (o : Ordering) → cmp x y ≡ o → Contains (insert_key cmp (y ∷ ys) x) x
      by_order later Less is = rw is (Contains-here x (y ∷ ys))
      by_order later Equal is = rw is (subst (Contains (y ∷ ys)) (sym (exact y (Contains-here y ys) is)) (Contains-here y ys))
      by_order later Greater is = rw is (Contains-later y (insert_key cmp ys x) x later)

  pub put-keeps : (x : X) (xs : List X) (z : X) → Contains xs z → Contains (insert_key cmp xs x) z
  put-keeps x [] z there = absurd (Contains-none z there)
  put-keeps x (y ∷ ys) z there = by_order (put-keeps x ys z) (cmp x y) refl
    where
      by_case : (y ≡ z) ⊎ Contains ys z → (Contains ys z → Contains (insert_key cmp ys x) z) → Contains (y ∷ insert_key cmp ys x) z
      by_case (inl same) more = subst (Contains (y ∷ insert_key cmp ys x)) same (Contains-here y (insert_key cmp ys x))
      by_case (inr later) more = Contains-later y (insert_key cmp ys x) z (more later)

      by_order : (Contains ys z → Contains (insert_key cmp ys x) z) → (o : Ordering) → cmp x y ≡ o → Contains (insert_key cmp (y ∷ ys) x) z
      by_order more Less is = rw is (Contains-later x (y ∷ ys) z there)
      by_order more Equal is = rw is there
      by_order more Greater is = rw is (by_case (Contains-cases y ys z there) more)

  pub put-only : (x : X) (xs : List X) (z : X) → Contains (insert_key cmp xs x) z → (x ≡ z) ⊎ Contains xs z
  put-only x [] z there = Contains-cases x [] z there
  put-only x (y ∷ ys) z there = by_order (put-only x ys z) (cmp x y) refl
    where
      by_case : (y ≡ z) ⊎ Contains (insert_key cmp ys x) z → (Contains (insert_key cmp ys x) z → (x ≡ z) ⊎ Contains ys z) → (x ≡ z) ⊎ Contains (y ∷ ys) z
      by_case (inl same) more = inr (subst (Contains (y ∷ ys)) same (Contains-here y ys))
      by_case (inr later) more = by_old (more later)
        where
          by_old : (x ≡ z) ⊎ Contains ys z → (x ≡ z) ⊎ Contains (y ∷ ys) z
          by_old (inl same) = inl same
          by_old (inr old) = inr (Contains-later y ys z old)

      by_order : (Contains (insert_key cmp ys x) z → (x ≡ z) ⊎ Contains ys z) → (o : Ordering) → cmp x y ≡ o → (x ≡ z) ⊎ Contains (y ∷ ys) z
      by_order more Less is = let at : Contains (x ∷ y ∷ ys) z = rw is at there in Contains-cases x (y ∷ ys) z at
      by_order more Equal is = let at : Contains (y ∷ ys) z = rw is at there in inr at
      by_order more Greater is = let at : Contains (y ∷ insert_key cmp ys x) z = rw is at there in by_case (Contains-cases y (insert_key cmp ys x) z at) more
