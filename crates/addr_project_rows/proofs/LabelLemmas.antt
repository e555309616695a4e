-- A set of texts is the ascending list of their bytes, and that list ascends.
use Rattle.std.proofs.Common.{◌≡◌, ℕ, List, [], ◌∷◌, map, Bor, refl, ap, ◌∙◌, nat_cmp, Ordering, Less, Equal, Greater}
use Rattle.std.proofs.lemmas.Cmp.{nat_list_cmp_total}
use Rattle.std.specs.BTreeSet.{insert_key}
use Rattle.std.specs.Cmp.Lexicographic.{slice_cmp}
use Rattle.std.specs.List.{AllByRecursion, fold}
use Rattle.std.specs.List.Sorted.{IsStrictlySortedBy}
use Rattle.std.specs.Ordering.{ordering_reverse}
use Rattle.addr_project_rows.specs.Fields.{with_text, ascending}

-- the order of texts behind references
abbrev pub text_cmp : Bor (List ℕ) → Bor (List ℕ) → Ordering
text_cmp x y = slice_cmp nat_cmp x.now y.now

pub keys-more : (keys : List (Bor (List ℕ))) (key : Bor (List ℕ)) → map (λ k. k.now) (insert_key text_cmp keys key) ≡ with_text key.now (map (λ k. k.now) keys)
keys-more [] key = refl
keys-more (k ∷ keys) key = by_order (keys-more keys key) (text_cmp key k) refl
  where
    by_order : map (λ t. t.now) (insert_key text_cmp keys key) ≡ with_text key.now (map (λ t. t.now) keys) → (o : Ordering) → text_cmp key k ≡ o → map (λ t. t.now) (insert_key text_cmp (k ∷ keys) key) ≡ with_text key.now (map (λ t. t.now) (k ∷ keys))
    by_order rest Less is = rw is
    by_order rest Equal is = rw is
    by_order rest Greater is = rw is (ap (λ (l : List (List ℕ)). k.now ∷ l) rest)

-- one more text leaves what holds of each
all-more : (P : List ℕ → Type 0) (text : List ℕ) (ts : List (List ℕ)) → P text → AllByRecursion P ts → AllByRecursion P (with_text text ts)
all-more P text [] here all = (here, tt)
all-more P text (t ∷ ts) here (first, rest) = by_order (all-more P text ts here rest) (slice_cmp nat_cmp text t) refl
  where
    by_order : AllByRecursion P (with_text text ts) → (o : Ordering) → slice_cmp nat_cmp text t ≡ o → AllByRecursion P (with_text text (t ∷ ts))
    by_order later Less is = rw is (here, (first, rest))
    by_order later Equal is = rw is (first, rest)
    by_order later Greater is = rw is (first, later)

-- what is below a text is below what stands after it
below-all : (text t : List ℕ) (ts : List (List ℕ)) → slice_cmp nat_cmp text t ≡ Less → AllByRecursion (λ y. slice_cmp nat_cmp t y ≡ Less) ts → AllByRecursion (λ y. slice_cmp nat_cmp text y ≡ Less) ts
below-all text t [] below all = tt
below-all text t (y ∷ ts) below (first, rest) = (nat_list_cmp_total.trans text t y below first, below-all text t ts below rest)

sorted-more : (text : List ℕ) (ts : List (List ℕ)) → IsStrictlySortedBy (slice_cmp nat_cmp) ts → IsStrictlySortedBy (slice_cmp nat_cmp) (with_text text ts)
unfolding IsStrictlySortedBy
sorted-more text [] rising = (tt, tt)
sorted-more text (t ∷ ts) (first, rest) = by_order (sorted-more text ts rest) (slice_cmp nat_cmp text t) refl
  where
    by_order : IsStrictlySortedBy (slice_cmp nat_cmp) (with_text text ts) → (o : Ordering) → slice_cmp nat_cmp text t ≡ o → IsStrictlySortedBy (slice_cmp nat_cmp) (with_text text (t ∷ ts))
    by_order later Less is = rw is ((is, below-all text t ts is first), (first, rest))
    by_order later Equal is = rw is (first, rest)
    by_order later Greater is =
        let below : slice_cmp nat_cmp t text ≡ Less = nat_list_cmp_total.antisymm t text ∙ ap ordering_reverse is in
        rw is (all-more (λ y. slice_cmp nat_cmp t y ≡ Less) text ts below first, later)

fold-sorted : (texts sorted : List (List ℕ)) → IsStrictlySortedBy (slice_cmp nat_cmp) sorted → IsStrictlySortedBy (slice_cmp nat_cmp) (fold (λ found text. with_text text found) sorted texts)
fold-sorted [] sorted rising = rising
fold-sorted (text ∷ texts) sorted rising = fold-sorted texts (with_text text sorted) (sorted-more text sorted rising)

pub nil-sorted : IsStrictlySortedBy (slice_cmp nat_cmp) []
unfolding IsStrictlySortedBy
nil-sorted = tt

pub ascending-sorted : (texts : List (List ℕ)) → IsStrictlySortedBy (slice_cmp nat_cmp) (ascending texts)
ascending-sorted texts = fold-sorted texts [] nil-sorted

fold-all : (P : List ℕ → Type 0) (texts sorted : List (List ℕ)) → AllByRecursion P sorted → AllByRecursion P texts → AllByRecursion P (fold (λ found text. with_text text found) sorted texts)
fold-all P [] sorted old all = old
fold-all P (text ∷ texts) sorted old (first, rest) = fold-all P texts (with_text text sorted) (all-more P text sorted first old) rest

-- what holds of each text holds of each when they are in order
pub ascending-all : (P : List ℕ → Type 0) (texts : List (List ℕ)) → AllByRecursion P texts → AllByRecursion P (ascending texts)
ascending-all P texts all = fold-all P texts [] tt all
