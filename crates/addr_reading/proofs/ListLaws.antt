-- Reading one after the other, as loops do: where the part read so far and the rest give a total, so do they one step further.
use Rattle.std.proofs.Common.{◌≡◌, ℕ, zero, suc, ◌+◌, ◌-◌, ◌≤◌, ◌<◌, List, [], ◌∷◌, ◌++◌, length, get_or, drop, Result, Ok, Err, refl, sym, ap, ◌∙◌, arith}
use Rattle.std.proofs.lemmas.List.{drop_more, drop_all}
use Rattle.addr_reading.specs.Steps.{◌>>=◌}
use Rattle.addr_reading.specs.Gives.{IsNamed}
use Rattle.addr_reading.specs.Lists.{read_all, read_times}
use Rattle.addr_reading.proofs.StepLaws.{then_same, ok_named, then_named}

-- the first of the rest, and what is behind it
one-more : {A B E : Type 0} (read : List B → A → Result B E) (before : List B) (xs : List A) (i : ℕ) (d : A) → i < length xs
    → read_all read before (drop i xs) ≡ (read before (get_or xs i d) >>= λ y. read_all read (before ++ y ∷ []) (drop (i + 1) xs))
unfolding read_all
one-more read before xs i d within = ap (read_all read before) (drop_more xs i d within)

pub all_more : {A B E : Type 0} (read : List B → A → Result B E) (before : List B) (xs : List A) (i : ℕ) (d : A) (y : B) (total : Result (List B) E) → i < length xs
    → read before (get_or xs i d) ≡ Ok y → read_all read before (drop i xs) ≡ total → read_all read (before ++ y ∷ []) (drop (i + 1) xs) ≡ total
all_more {A} {B} {E} read before xs i d y total within is so_far =
    sym (one-more read before xs i d within ∙ ap (λ (r : Result B E). r >>= λ z. read_all read (before ++ z ∷ []) (drop (i + 1) xs)) is) ∙ so_far

pub all_ends : {A B E : Type 0} (read : List B → A → Result B E) (before : List B) (xs : List A) (i : ℕ) (d : A) (fault : E) (total : Result (List B) E) → i < length xs
    → read before (get_or xs i d) ≡ Err fault → read_all read before (drop i xs) ≡ total → total ≡ Err fault
all_ends {A} {B} {E} read before xs i d fault total within is so_far =
    sym so_far ∙ (one-more read before xs i d within ∙ ap (λ (r : Result B E). r >>= λ z. read_all read (before ++ z ∷ []) (drop (i + 1) xs)) is)

pub all_done : {A B E : Type 0} (read : List B → A → Result B E) (before : List B) (xs : List A) (i : ℕ) (total : Result (List B) E) → length xs ≤ i
    → read_all read before (drop i xs) ≡ total → total ≡ Ok before
unfolding read_all
all_done read before xs i total past so_far = sym so_far ∙ ap (read_all read before) (drop_all i xs past)

-- no fault is want of memory, where none of one is
pub all_named : {A B E : Type 0} (no_memory : E) (read : List B → A → Result B E) → ((before : List B) (x : A) → IsNamed no_memory (read before x)) → (before : List B) (xs : List A) → IsNamed no_memory (read_all read before xs)
unfolding read_all
all_named no_memory read each before [] = ok_named no_memory before
all_named no_memory read each before (x ∷ xs) = then_named no_memory _ _ (each before x) (λ y. all_named no_memory read each (before ++ y ∷ []) xs)

-- the reader of one may be another that gives the same
pub all_same : {A B E : Type 0} (read other : List B → A → Result B E) → ((before : List B) (x : A) → read before x ≡ other before x) → (before : List B) (xs : List A) → read_all read before xs ≡ read_all other before xs
unfolding read_all
all_same read other same before [] = refl
all_same {A} {B} {E} read other same before (x ∷ xs) =
    ap (λ (r : Result B E). r >>= λ y. read_all read (before ++ y ∷ []) xs) (same before x) ∙ then_same (other before x) (λ y. all_same read other same (before ++ y ∷ []) xs)

-- ---- so many

pub times_more : {B T E : Type 0} (read : List B → T → Result (B × T) E) (count i : ℕ) (before : List B) (rest : T) (first : B) (after : T) (total : Result (List B × T) E) → i < count → read before rest ≡ Ok (first, after)
    → read_times read (count - i) before rest ≡ total → read_times read (count - (i + 1)) (before ++ first ∷ []) after ≡ total
unfolding read_times
times_more read count i before rest first after total within is so_far =
    let k : count - i ≡ suc (count - (i + 1)) = omega arith in
    let one : read_times read (count - i) before rest ≡ read_times read (count - (i + 1)) (before ++ first ∷ []) after = rw (k, is) refl in
    sym one ∙ so_far

pub times_end : {B T E : Type 0} (read : List B → T → Result (B × T) E) (count i : ℕ) (before : List B) (rest : T) (fault : E) (total : Result (List B × T) E) → i < count → read before rest ≡ Err fault
    → read_times read (count - i) before rest ≡ total → total ≡ Err fault
unfolding read_times
times_end read count i before rest fault total within is so_far =
    let k : count - i ≡ suc (count - (i + 1)) = omega arith in
    let one : read_times read (count - i) before rest ≡ Err fault = rw (k, is) refl in
    sym so_far ∙ one

pub times_done : {B T E : Type 0} (read : List B → T → Result (B × T) E) (count i : ℕ) (before : List B) (rest : T) (total : Result (List B × T) E) → count ≤ i
    → read_times read (count - i) before rest ≡ total → total ≡ Ok (before, rest)
unfolding read_times
times_done read count i before rest total past so_far =
    let k : count - i ≡ 0 = omega arith in
    let one : read_times read (count - i) before rest ≡ Ok (before, rest) = rw k refl in
    sym so_far ∙ one

pub times_named : {B T E : Type 0} (no_memory : E) (read : List B → T → Result (B × T) E) → ((before : List B) (rest : T) → IsNamed no_memory (read before rest)) → (n : ℕ) (before : List B) (rest : T) → IsNamed no_memory (read_times read n before rest)
unfolding read_times
times_named no_memory read each zero before rest = ok_named no_memory (before, rest)
times_named no_memory read each (suc n) before rest = then_named no_memory _ _ (each before rest) (λ first. times_named no_memory read each n (before ++ first.0 ∷ []) first.1)
