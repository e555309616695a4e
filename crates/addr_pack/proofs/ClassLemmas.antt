-- The classes of the entries so far, with one more entry.
use Rattle.std.proofs.Common.{◌≡◌, ℕ, ◌+◌, ◌<◌, ◌≤◌, ◌⊎◌, Bool, true, false, cond, List, [], ◌∷◌, ◌++◌, length, get_or, Option, Some, None, BTreeMap, String, refl, sym, ap, subst, ◌∙◌, inl, inr, arith, nat_cmp}
use Rattle.std.proofs.lemmas.Bool.{false≢true, cases_lt}
use Rattle.std.proofs.lemmas.List.{length_push, get_or_append_left, get_or_push}
use Rattle.std.proofs.lemmas.List.Elements.{Contains-get_or, Contains-push, Contains-push_cases, Contains-append_left}
use Rattle.std.proofs.lemmas.Map.Keys.{sorted_from_strictly_increasing, IsStrictlyIncreasing-from_sorted}
use Rattle.std.specs.BTreeMap.{get_by_text}
use Rattle.std.specs.Cmp.Lexicographic.{bytes_decides}
use Rattle.std.specs.Global.{Global}
use Rattle.std.specs.List.{Contains}
use Rattle.std.specs.List.Sorted.{IsStrictlySortedBy, IsStrictlyIncreasing}
use Rattle.std.specs.Map.{update}
use Rattle.std.specs.Str.{bytes_eq}
use Rattle.addr_project.specs.Kept.{IsKept}
use Rattle.addr_project.specs.Model.{Project}
use Rattle.addr_pack.specs.declared.class.Class.{Class}
use Rattle.addr_pack.specs.Classes.{IsAdded, IsClassBelow, AreClasses, with_entry}
use Rattle.addr_pack.specs.Naming.{IsNamed}
use Rattle.addr_pack.proofs.SameLemmas.{one_name, groups_apart}

pub added : (name : List ℕ) (group x : ℕ) (old new : BTreeMap (String Global) Class) (found : Option Class) (next : Class) → get_by_text old name ≡ found → next ≡ with_entry group x found
    → ((other : List ℕ) → get_by_text new other ≡ update bytes_eq (get_by_text old) name (Some next) other) → IsAdded name group x old new
added name group x old new found next is more updates other =
    updates other ∙ ap (λ (class : Class). update bytes_eq (get_by_text old) name (Some class) other) (more ∙ ap (with_entry group x) (sym is))

-- a number below the next one is below this one, or is it
pub below_or_at : (k n : ℕ) → k < n + 1 → (k < n) ⊎ (k ≡ n)
below_or_at k n small = by_order (cases_lt k n)
  where
    by_order : (k < n) ⊎ (n ≤ k) → (k < n) ⊎ (k ≡ n)
    by_order (inl less) = inl less
    by_order (inr more) = inr (omega arith)

-- an ascending list with a greater number at its end
sorted_push : (xs : List ℕ) (n : ℕ) → IsStrictlySortedBy nat_cmp xs → ((x : ℕ) → Contains xs x → x < n) → IsStrictlySortedBy nat_cmp (xs ++ n ∷ [])
sorted_push xs n rising below = sorted_from_strictly_increasing (xs ++ n ∷ []) steps
  where
    rises : IsStrictlyIncreasing xs
    rises = IsStrictlyIncreasing-from_sorted xs rising

    by_place : (k : ℕ) → (k + 1 < length xs) ⊎ (k + 1 ≡ length xs) → get_or (xs ++ n ∷ []) k 0 < get_or (xs ++ n ∷ []) (k + 1) 0
    by_place k (inl small) =
        let less : k < length xs = omega arith in
        rw (get_or_append_left xs (n ∷ []) 0 k less, get_or_append_left xs (n ∷ []) 0 (k + 1) small) (rises k small)
    by_place k (inr last) =
        let small : k < length xs = omega arith in
        rw (get_or_append_left xs (n ∷ []) 0 k small, get_or_push xs n 0 (k + 1) (sym last)) (below (get_or xs k 0) (Contains-get_or xs k 0 small))

    steps : IsStrictlyIncreasing (xs ++ n ∷ [])
    steps k small = by_place k (below_or_at (k + 1) (length xs) (omega (arith, length_push xs n)))

sorted_none : IsStrictlySortedBy nat_cmp []
unfolding IsStrictlySortedBy
sorted_none = tt

some_same : {X : Type 0} (x y : X) → Some x ≡ Some y → x ≡ y
some_same x y is = cc

-- what one class of a name has to be
just : (p : Project) (n : ℕ) (name : List ℕ) (class : Class) → (x : ℕ) × Contains class.entries x → IsStrictlySortedBy nat_cmp class.entries
    → ((x : ℕ) → Contains class.entries x → (x < n) × IsNamed p x class.group name) → ((x g : ℕ) → x < n → IsNamed p x g name → Contains class.entries x) → IsClassBelow p n name (Some class)
just p n name class filled ascending within all = record {
  filled = λ other is. subst (λ (k : Class). (x : ℕ) × Contains k.entries x) (some_same class other is) filled;
  ascending = λ other is. subst (λ (k : Class). IsStrictlySortedBy nat_cmp k.entries) (some_same class other is) ascending;
  within = λ other is. subst (λ (k : Class). (x : ℕ) → Contains k.entries x → (x < n) × IsNamed p x k.group name) (some_same class other is) within;
  all = λ x g small named. (class, refl, all x g small named);
}

module _ (p : Project) (kept : IsKept p) where
  -- the class of the entry's name
  class_more : (n g : ℕ) (name : List ℕ) (found : Option Class) → IsClassBelow p n name found → IsNamed p n g name → IsClassBelow p (n + 1) name (Some (with_entry g n found))
  class_more n g name None was named = just p (n + 1) name (record { group = g; entries = n ∷ [] }) (n, (0, omega arith, refl)) (sorted_push [] n sorted_none (λ x in'. absurd (none_in x in'))) within all
    where
      none_in : (x : ℕ) → Contains [] x → ⊥
      none_in x (k, small, is) = absurd (omega arith)

      only : (x : ℕ) → Contains (n ∷ []) x → n ≡ x
      only x in' = elim (Contains-push_cases [] n x in') [ inl none ↦ absurd (none_in x none) | inr same ↦ same ]

      within : (x : ℕ) → Contains (n ∷ []) x → (x < n + 1) × IsNamed p x g name
      within x in' = let same = only x in' in (omega arith, subst (λ (y : ℕ). IsNamed p y g name) same named)

      by_place : (x h : ℕ) → IsNamed p x h name → (x < n) ⊎ (x ≡ n) → Contains (n ∷ []) x
      by_place x h other (inl small) = let none = (was.all x h small other).1 in absurd (cc)
      by_place x h other (inr at) = (0, omega arith, sym at)

      all : (x h : ℕ) → x < n + 1 → IsNamed p x h name → Contains (n ∷ []) x
      all x h small other = by_place x h other (below_or_at x n small)
  class_more n g name (Some class) was named = just p (n + 1) name (record { group = class.group; entries = class.entries ++ n ∷ [] }) (n, Contains-push class.entries n) (sorted_push class.entries n (was.ascending class refl) (λ x in'. (was.within class refl x in').0)) within all
    where
      group : g ≡ class.group
      group = let x = was.filled class refl in groups_apart p kept n x.0 g class.group name named (was.within class refl x.0 x.1).1

      by_case : (x : ℕ) → Contains class.entries x ⊎ (n ≡ x) → (x < n + 1) × IsNamed p x class.group name
      by_case x (inl in') = let old = was.within class refl x in' in (omega (arith, old.0), old.1)
      by_case x (inr same) = (omega arith, subst (λ (y : ℕ). IsNamed p y class.group name) same (subst (λ (h : ℕ). IsNamed p n h name) group named))

      within : (x : ℕ) → Contains (class.entries ++ n ∷ []) x → (x < n + 1) × IsNamed p x class.group name
      within x in' = by_case x (Contains-push_cases class.entries n x in')

      by_place : (x h : ℕ) → IsNamed p x h name → (x < n) ⊎ (x ≡ n) → Contains (class.entries ++ n ∷ []) x
      by_place x h other (inl small) =
          let old = was.all x h small other in
          Contains-append_left class.entries (n ∷ []) x (subst (λ (k : Class). Contains k.entries x) (some_same old.0 class (sym old.1)) old.2)
      by_place x h other (inr at) = subst (Contains (class.entries ++ n ∷ [])) (sym at) (Contains-push class.entries n)

      all : (x h : ℕ) → x < n + 1 → IsNamed p x h name → Contains (class.entries ++ n ∷ []) x
      all x h small other = by_place x h other (below_or_at x n small)

  -- the class of another name
  class_kept : (n : ℕ) (name : List ℕ) (found : Option Class) → IsClassBelow p n name found → ((h : ℕ) → IsNamed p n h name → ⊥) → IsClassBelow p (n + 1) name found
  class_kept n name found was other = record {
    filled = was.filled;
    ascending = was.ascending;
    within = λ class is x in'. (let old = was.within class is x in' in (omega (arith, old.0), old.1));
    all = λ x h small named. by_place x h named (below_or_at x n small);
  }
    where
      by_place : (x h : ℕ) → IsNamed p x h name → (x < n) ⊎ (x ≡ n) → (class : Class) × (found ≡ Some class) × Contains class.entries x
      by_place x h named (inl small) = was.all x h small named
      by_place x h named (inr at) = absurd (other h (subst (λ (y : ℕ). IsNamed p y h name) at named))

  pub classes_more : (n g : ℕ) (name : List ℕ) (old new : BTreeMap (String Global) Class) → AreClasses p n old → IsNamed p n g name → IsAdded name g n old new → AreClasses p (n + 1) new
  classes_more n g name old new was named added other = by_test (bytes_eq name other) refl
    where
      by_test : (t : Bool) → bytes_eq name other ≡ t → IsClassBelow p (n + 1) other (get_by_text new other)
      by_test true equal =
          let same : name ≡ other = (bytes_decides name other).0 equal in
          let is : get_by_text new other ≡ Some (with_entry g n (get_by_text old name)) = added other ∙ ap (λ (t : Bool). cond t (Some (with_entry g n (get_by_text old name))) (get_by_text old other)) equal in
          subst (IsClassBelow p (n + 1) other) (sym is) (subst (λ (q : List ℕ). IsClassBelow p (n + 1) q (Some (with_entry g n (get_by_text old name)))) same (class_more n g name (get_by_text old name) (was name) named))
      by_test false differs =
          let is : get_by_text new other ≡ get_by_text old other = added other ∙ ap (λ (t : Bool). cond t (Some (with_entry g n (get_by_text old name))) (get_by_text old other)) differs in
          subst (IsClassBelow p (n + 1) other) (sym is) (class_kept n other (get_by_text old other) (was other) (λ h is_other.
          let same : name ≡ other = (one_name p n g h name other named is_other).1 in
          false≢true (sym differs ∙ (bytes_decides name other).1 same)))
