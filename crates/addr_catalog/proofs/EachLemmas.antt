-- Entries read one after the other, as loops do: what was read before, and what the rest is read as, is what all are read as.
use Rattle.std.proofs.Common.{◌≡◌, ℕ, ◌+◌, ◌≤◌, ◌<◌, List, [], ◌∷◌, ◌++◌, length, get_or, drop, Option, Some, None, Result, Ok, Err, refl, sym, ap, ◌∙◌, append_assoc, append-nil}
use Rattle.std.proofs.lemmas.List.{drop_more, drop_all}
use Rattle.std.proofs.lemmas.List.Elements.{filter_map-append}
use Rattle.addr_catalog.specs.Catalogue.{somes}
use Rattle.addr_catalog.specs.declared.error.CatErr.{CatErr}
use Rattle.addr_reading.specs.Steps.{◌>>=◌}
use Rattle.addr_catalog.specs.Steps.{read_each}

-- what was read, and what the rest is read as
abbrev pub behind : {B : Type 0} → List B → Result (List B) CatErr → Result (List B) CatErr
behind before (Ok rest) = Ok (before ++ rest)
behind before (Err e) = Err e

pub behind_none : {B : Type 0} (all : Result (List B) CatErr) → behind [] all ≡ all
behind_none (Ok rest) = refl
behind_none (Err e) = refl

behind_one : {B : Type 0} (before : List B) (x : B) (rest : Result (List B) CatErr) → behind before (rest >>= λ ys. Ok (x ∷ ys)) ≡ behind (before ++ x ∷ []) rest
behind_one before x (Ok rest) = ap Ok (sym (append_assoc before (x ∷ []) rest))
behind_one before x (Err e) = refl

each-drop : {A B : Type 0} (read : ℕ → A → Result B CatErr) (xs : List A) (i : ℕ) (d : A) → i < length xs
    → read_each read i (drop i xs) ≡ (read i (get_or xs i d) >>= λ y. read_each read (i + 1) (drop (i + 1) xs) >>= λ ys. Ok (y ∷ ys))
unfolding read_each
each-drop read xs i d small = ap (read_each read i) (drop_more xs i d small)

pub each_read : {A B : Type 0} (read : ℕ → A → Result B CatErr) (xs : List A) (i : ℕ) (d : A) (before : List B) (y : B) (all : Result (List B) CatErr) → i < length xs → read i (get_or xs i d) ≡ Ok y
    → behind before (read_each read i (drop i xs)) ≡ all → behind (before ++ y ∷ []) (read_each read (i + 1) (drop (i + 1) xs)) ≡ all
each_read {A} {B} read xs i d before y all small is so_far =
    let rest = read_each read (i + 1) (drop (i + 1) xs) in
    let one = each-drop read xs i d small ∙ ap (λ (r : Result B CatErr). r >>= λ z. rest >>= λ ys. Ok (z ∷ ys)) is in
    sym (ap (behind before) one ∙ behind_one before y rest) ∙ so_far

pub each_fails : {A B : Type 0} (read : ℕ → A → Result B CatErr) (xs : List A) (i : ℕ) (d : A) (before : List B) (e : CatErr) (all : Result (List B) CatErr) → i < length xs → read i (get_or xs i d) ≡ Err e
    → behind before (read_each read i (drop i xs)) ≡ all → all ≡ Err e
each_fails {A} {B} read xs i d before e all small is so_far =
    let rest = read_each read (i + 1) (drop (i + 1) xs) in
    let one = each-drop read xs i d small ∙ ap (λ (r : Result B CatErr). r >>= λ z. rest >>= λ ys. Ok (z ∷ ys)) is in
    sym so_far ∙ ap (behind before) one

pub each_done : {A B : Type 0} (read : ℕ → A → Result B CatErr) (xs : List A) (i : ℕ) (before : List B) (all : Result (List B) CatErr) → length xs ≤ i
    → behind before (read_each read i (drop i xs)) ≡ all → all ≡ Ok before
unfolding read_each
each_done read xs i before all past so_far = sym so_far ∙ ap (λ ys. behind before (read_each read i ys)) (drop_all i xs past) ∙ ap Ok (append-nil before)

-- ---- those that are there

pub some_more : {B : Type 0} (xs : List (Option B)) (item : Option B) (x : B) (found : List B) → found ≡ somes xs → item ≡ Some x → found ++ x ∷ [] ≡ somes (xs ++ item ∷ [])
some_more {B} xs item x found are is =
    sym (ap (λ (y : Option B). somes (xs ++ y ∷ [])) is ∙ filter_map-append (λ (y : Option B). y) xs (Some x ∷ []) ∙ ap (λ (ys : List B). ys ++ x ∷ []) (sym are))

pub none_more : {B : Type 0} (xs : List (Option B)) (item : Option B) (found : List B) → found ≡ somes xs → item ≡ None → found ≡ somes (xs ++ item ∷ [])
none_more {B} xs item found are is =
    sym (ap (λ (y : Option B). somes (xs ++ y ∷ [])) is ∙ filter_map-append (λ (y : Option B). y) xs (None ∷ []) ∙ append-nil (somes xs) ∙ sym are)
