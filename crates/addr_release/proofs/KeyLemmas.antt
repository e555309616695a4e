-- Keys: a text is a key of an entry exactly where it is one of its row; and what holds of partners in two lists.
use Rattle.std.proofs.Common.{◌≡◌, ◌↔◌, ℕ, Bool, true, false, ◌||◌, List, [], ◌∷◌, map, refl, ap, sym, ◌∙◌}
use Rattle.std.specs.List.{AllZip, Contains, filter, list_any}
use Rattle.std.specs.Str.{bytes_eq}
use Rattle.addr_base.specs.declared.ids.KeyNo.{KeyNo}
use Rattle.addr_locate.specs.Rows.{Rows, has_key_text, text_at, written}
use Rattle.addr_locate.specs.declared.rows.AssetRow.{AssetRow}
use Rattle.addr_project.proofs.KeyLemmas.{among-there, there-among}
use Rattle.addr_project_rows.specs.Firsts.{is_among}

-- partners that pass together are partners after the filter
pub zip-filter : {A B : Type 0} (R : A → B → Type 0) (f : A → Bool) (g : B → Bool) → ((x : A) (y : B) → R x y → f x ≡ g y) → (xs : List A) (ys : List B) → AllZip R xs ys → AllZip R (filter f xs) (filter g ys)
zip-filter R f g same [] [] zipped = tt
zip-filter R f g same [] (y ∷ ys) zipped = absurd zipped
zip-filter R f g same (x ∷ xs) [] zipped = absurd zipped
zip-filter R f g same (x ∷ xs) (y ∷ ys) zipped = by_test (f x) refl (same x y zipped.0) (zip-filter R f g same xs ys zipped.1)
  where
    by_test : (t : Bool) → f x ≡ t → f x ≡ g y → AllZip R (filter f xs) (filter g ys) → AllZip R (filter f (x ∷ xs)) (filter g (y ∷ ys))
    by_test true is one rest = rw (is, sym one ∙ is) (zipped.0, rest)
    by_test false is one rest = rw (is, sym one ∙ is) rest

-- what holds of partners carries over along a list
pub zip-along : {A B C : Type 0} (R : A → B → Type 0) (S : A → C → Type 0) (T : B → C → Type 0) → ((x : A) (y : B) (z : C) → R x y → S x z → T y z) → (xs : List A) (ys : List B) (zs : List C) → AllZip R xs ys → AllZip S xs zs → AllZip T ys zs
zip-along R S T each [] [] [] r s = tt
zip-along R S T each [] [] (z ∷ zs) r s = absurd s
zip-along R S T each [] (y ∷ ys) zs r s = absurd r
zip-along R S T each (x ∷ xs) [] zs r s = absurd r
zip-along R S T each (x ∷ xs) (y ∷ ys) [] r s = absurd s
zip-along R S T each (x ∷ xs) (y ∷ ys) (z ∷ zs) r s = (each x y z r.0 s.0, zip-along R S T each xs ys zs r.1 s.1)

pub zip-turn : {A B : Type 0} (R : A → B → Type 0) (xs : List A) (ys : List B) → AllZip R xs ys → AllZip (λ y x. R x y) ys xs
zip-turn R [] [] r = tt
zip-turn R [] (y ∷ ys) r = absurd r
zip-turn R (x ∷ xs) [] r = absurd r
zip-turn R (x ∷ xs) (y ∷ ys) r = (r.0, zip-turn R xs ys r.1)

-- partners of partners, with the one between them
abbrev pub Through : {A B C : Type 0} → (A → B → Type 0) → (B → C → Type 0) → A → C → Type 0
Through {A} {B} R S x z = (y : B) × R x y × S y z

pub zip-through : {A B C : Type 0} (R : A → B → Type 0) (S : B → C → Type 0) (xs : List A) (ys : List B) (zs : List C) → AllZip R xs ys → AllZip S ys zs → AllZip (Through R S) xs zs
zip-through R S [] [] [] r s = tt
zip-through R S [] [] (z ∷ zs) r s = absurd s
zip-through R S [] (y ∷ ys) zs r s = absurd r
zip-through R S (x ∷ xs) [] zs r s = absurd r
zip-through R S (x ∷ xs) (y ∷ ys) [] r s = absurd s
zip-through R S (x ∷ xs) (y ∷ ys) (z ∷ zs) r s = ((y, r.0, s.0), zip-through R S xs ys zs r.1 s.1)

-- two tests that hold together are one
pub same-test : (a b : Bool) → (a ≡ true → b ≡ true) → (b ≡ true → a ≡ true) → a ≡ b
same-test true b to from = sym (to refl)
same-test false true to from = from refl
same-test false false to from = refl

any-map : {A B : Type 0} (f : A → B) (test : B → Bool) (xs : List A) → list_any test (map f xs) ≡ list_any (λ x. test (f x)) xs
any-map f test [] = refl
any-map f test (x ∷ xs) = ap (λ t. test (f x) || t) (any-map f test xs)

pub row-has : (r : Rows) (key : List ℕ) (a : AssetRow) → has_key_text r key a ≡ is_among (written r a).keys key
row-has r key a = sym (any-map (λ (k : KeyNo). text_at r.keys k.0) (λ t. bytes_eq t key) a.keys)

-- the texts of two lists are the same
pub same-any : (key : List ℕ) (ts us : List (List ℕ)) → (Contains ts key ↔ Contains us key) → is_among ts key ≡ is_among us key
same-any key ts us same = same-test _ _ (λ any. there-among key us (same.0 (among-there key ts any))) (λ any. there-among key ts (same.1 (among-there key us any)))

-- partners of what is made of a list are partners of the list
pub zip-unmap : {A B C : Type 0} (R : A → C → Type 0) (f : B → C) (xs : List A) (ys : List B) → AllZip R xs (map f ys) → AllZip (λ x y. R x (f y)) xs ys
zip-unmap R f [] [] r = tt
zip-unmap R f [] (y ∷ ys) r = absurd r
zip-unmap R f (x ∷ xs) [] r = absurd r
zip-unmap R f (x ∷ xs) (y ∷ ys) r = (r.0, zip-unmap R f xs ys r.1)
