-- Lists of numbers turned round: what one more list, and one more number of it, does.
use Rattle.std.proofs.Common.{◌≡◌, ℕ, zero, suc, ◌==◌, ◌+◌, ◌≤◌, ◌<◌, Bool, true, false, cond, nat_lt, List, [], ◌∷◌, ◌++◌, length, map, filter, get_or, set, take, replicate, inl, inr, refl, sym, ap, ◌∙◌, subst, arith, append-nil}
use Rattle.std.specs.List.{list_all, range_with_len, AllByRecursion}
use Rattle.std.proofs.lemmas.Bool.{cases_eq, eq-eqb, ne_eqb, or_right, ltb-true, and_parts, and_from}
use Rattle.std.proofs.lemmas.Bool.Decides.{nat_tests}
use Rattle.std.proofs.lemmas.Option.{unwrap_or-slice_get}
use Rattle.std.proofs.lemmas.List.{get_or-set_same, get_or-set_other, length-set, map-id, length-replicate, get_or-replicate, get_or_read}
use Rattle.std.proofs.lemmas.List.Elements.{All-from_recursion}
use Rattle.std.proofs.lemmas.List.Folds.{list_any_more}
use Rattle.std.proofs.lemmas.List.FromFn.{length-map-range_with_len, get_or-map-range_with_len, fill_by_all, filter_of_map_range_with_len_more}
use Rattle.addr_catalog.specs.Inverted.{is_among, list_at, first_with, lists_with, AreNumbersBelow, with_list}

-- ---- one more number of a list

-- a write at one place of a list that is made place by place
set_made : {X : Type 0} (F G : ℕ → X) (n e : ℕ) (x : X) → e < n → ((k : ℕ) → (k ≡ e → ⊥) → G k ≡ F k) → G e ≡ x → set (map F (range_with_len 0 n)) e x ≡ map G (range_with_len 0 n)
set_made {X} F G n e x small others here =
    let made = map F (range_with_len 0 n) in
    let long : length made ≡ n = length-map-range_with_len F 0 n in
    fill_by_all G (set made e x) n x (length-set made e x ∙ long)
    (λ k below. elim (cases_eq k e) [
      | inl same ↦ subst (λ (m : ℕ). get_or (set made e x) m x ≡ G m) (sym same) (get_or-set_same made e x x (omega arith) ∙ sym here)
      | inr other ↦ get_or-set_other made e k x x other ∙ get_or-map-range_with_len F 0 n k k x below (omega arith) ∙ sym (others k other)
    ])

among_other : (list : List ℕ) (i k : ℕ) → i < length list → (k ≡ get_or list i 0 → ⊥) → is_among (take (i + 1) list) k ≡ is_among (take i list) k
among_other list i k small other =
    let more = list_any_more (λ m. m == k) list i 0 small in
    let differs : (get_or list i 0 == k) ≡ false = ne_eqb (get_or list i 0) k (λ e. other (sym e)) in
    more ∙ grind (arith, nat_tests, differs)

among_here : (list : List ℕ) (i : ℕ) → i < length list → is_among (take (i + 1) list) (get_or list i 0) ≡ true
among_here list i small =
    let more = list_any_more (λ m. m == get_or list i 0) list i 0 small in
    more ∙ or_right (is_among (take i list) (get_or list i 0)) _ (eq-eqb (get_or list i 0) (get_or list i 0) refl)

pub number_added : (k : ℕ) (list : List ℕ) (i n : ℕ) (numbers : ℕ → List ℕ) (lists : List (List ℕ)) (old new : List ℕ) → i < length list → get_or list i 0 < n
    → ((m : ℕ) → AreNumbersBelow k (numbers m)) → lists ≡ map (with_list k (take i list) numbers) (range_with_len 0 n)
    → old ≡ get_or lists (get_or list i 0) old → (AreNumbersBelow k old → new ≡ old ++ k ∷ []) → ((before : List ℕ) → old ≡ before ++ k ∷ [] → new ≡ old)
    → set lists (get_or list i 0) new ≡ map (with_list k (take (i + 1) list) numbers) (range_with_len 0 n)
number_added k list i n numbers lists old new small within below are was fresh again =
    let e = get_or list i 0 in
    let F = with_list k (take i list) numbers in
    let G = with_list k (take (i + 1) list) numbers in
    let was_made : old ≡ F e = was ∙ ap (λ (ls : List (List ℕ)). get_or ls e old) are ∙ get_or-map-range_with_len F 0 n e e old within (omega arith) in
    let now_made : G e ≡ numbers e ++ k ∷ [] = ap (λ (b : Bool). numbers e ++ cond b (k ∷ []) []) (among_here list i small) in
    let here : G e ≡ new = by_known (is_among (take i list) e) refl was_made now_made in
    ap (λ (ls : List (List ℕ)). set ls e new) are ∙ set_made F G n e new within (λ m other. ap (λ (b : Bool). numbers m ++ cond b (k ∷ []) []) (among_other list i m small other)) here
  where
    by_known : (known : Bool) → is_among (take i list) (get_or list i 0) ≡ known → old ≡ with_list k (take i list) numbers (get_or list i 0) → with_list k (take (i + 1) list) numbers (get_or list i 0) ≡ numbers (get_or list i 0) ++ k ∷ [] → with_list k (take (i + 1) list) numbers (get_or list i 0) ≡ new
    by_known true is was_made now_made =
        let same : old ≡ numbers (get_or list i 0) ++ k ∷ [] = was_made ∙ ap (λ (b : Bool). numbers (get_or list i 0) ++ cond b (k ∷ []) []) is in
        now_made ∙ sym same ∙ sym (again (numbers (get_or list i 0)) same)
    by_known false is was_made now_made =
        let same : old ≡ numbers (get_or list i 0) = was_made ∙ ap (λ (b : Bool). numbers (get_or list i 0) ++ cond b (k ∷ []) []) is ∙ append-nil (numbers (get_or list i 0)) in
        let fits : AreNumbersBelow k old = subst (λ (ns : List ℕ). AreNumbersBelow k ns) (sym same) (below (get_or list i 0)) in
        now_made ∙ ap (λ (ns : List ℕ). ns ++ k ∷ []) (sym same) ∙ sym (fresh fits)

-- ---- one more list

-- whether the list with a number has another number
abbrev pub has : List (List ℕ) → ℕ → ℕ → Bool
has lists n k = is_among (list_at lists k) n

first_more : (lists : List (List ℕ)) (k n : ℕ) → first_with lists (k + 1) n ≡ first_with lists k n ++ cond (has lists n k) (k ∷ []) []
unfolding first_with
first_more lists k n =
    let ids = λ (m : ℕ). map-id (range_with_len 0 m) in
    ap (filter (has lists n)) (sym (ids (k + 1))) ∙ filter_of_map_range_with_len_more (has lists n) (λ (m : ℕ). m) 0 k k (omega arith)
    ∙ ap (λ (ns : List ℕ). filter (has lists n) ns ++ cond (has lists n k) (k ∷ []) []) (ids k)

pub none_with : (lists : List (List ℕ)) (count : ℕ) → replicate count [] ≡ map (first_with lists 0) (range_with_len 0 count)
unfolding first_with
none_with lists count = fill_by_all (first_with lists 0) (replicate count []) count [] (length-replicate count []) (λ k below. get_or-replicate count k [] [] below)

range_fits : (bound from count : ℕ) → from + count ≤ bound → list_all (λ k. nat_lt k bound) (range_with_len from count) ≡ true
range_fits bound from zero fits = refl
range_fits bound from (suc count) fits =
    let low : from < bound = omega arith in
    let rest = range_fits bound (from + 1) count (omega arith) in grind (arith, nat_tests, low, rest)

all-filter : (q p : ℕ → Bool) (ns : List ℕ) → list_all q ns ≡ true → list_all q (filter p ns) ≡ true
all-filter q p [] all = refl
all-filter q p (n ∷ ns) all = let both = and_parts (q n) (list_all q ns) all in by_test (p n) refl (all-filter q p ns both.1)
  where
    by_test : (kept : Bool) → p n ≡ kept → list_all q (filter p ns) ≡ true → list_all q (filter p (n ∷ ns)) ≡ true
    by_test true is rest = rw is (and_from (q n) (list_all q (filter p ns)) (and_parts (q n) (list_all q ns) all).0 rest)
    by_test false is rest = rw is rest

pub first_fit : (lists : List (List ℕ)) (k n : ℕ) → AreNumbersBelow k (first_with lists k n)
unfolding first_with
first_fit lists k n = all-filter (λ m. nat_lt m k) (has lists n) (range_with_len 0 k) (range_fits k 0 k (omega arith))

map_alike : {X Y : Type 0} (F G : X → Y) (xs : List X) → ((x : X) → F x ≡ G x) → map F xs ≡ map G xs
map_alike F G [] alike = refl
map_alike F G (x ∷ xs) alike = let rest = map_alike F G xs alike in let here = alike x in cc

-- a list was added
pub list_added : (lists : List (List ℕ)) (k count : ℕ) (list : List ℕ) (found : List (List ℕ)) → list ≡ list_at lists k
    → found ≡ map (with_list k list (first_with lists k)) (range_with_len 0 count) → found ≡ map (first_with lists (k + 1)) (range_with_len 0 count)
list_added lists k count list found same are =
    are ∙ map_alike (with_list k list (first_with lists k)) (first_with lists (k + 1)) (range_with_len 0 count) (λ n.
    sym (first_more lists k n ∙ ap (λ (ns : List ℕ). first_with lists k n ++ cond (is_among ns n) (k ∷ []) []) (sym same)))

-- all lists
pub all_added : (lists : List (List ℕ)) (k count : ℕ) (found : List (List ℕ)) → k ≡ length lists → found ≡ map (first_with lists k) (range_with_len 0 count) → found ≡ map (lists_with lists) (range_with_len 0 count)
all_added lists k count found all are = are ∙ ap (λ (m : ℕ). map (first_with lists m) (range_with_len 0 count)) all

-- each number of a list is below the bound of all
pub number_within : (ns : List ℕ) (bound i : ℕ) → i < length ns → AreNumbersBelow bound ns → get_or ns i 0 < bound
number_within [] bound i small all = absurd (omega arith)
number_within (n ∷ ns) bound zero small all = ltb-true n bound (and_parts (nat_lt n bound) (list_all (λ m. nat_lt m bound) ns) all).0
number_within (n ∷ ns) bound (suc i) small all = number_within ns bound i (omega arith) (and_parts (nat_lt n bound) (list_all (λ m. nat_lt m bound) ns) all).1

-- a list that is made place by place has as many places
pub long_as : {X : Type 0} (F : ℕ → X) (n : ℕ) (xs : List X) → xs ≡ map F (range_with_len 0 n) → length xs ≡ n
long_as F n xs are = ap length are ∙ length-map-range_with_len F 0 n

pub list_within : (lists : List (List ℕ)) (bound k : ℕ) (list : List ℕ) → AllByRecursion (AreNumbersBelow bound) lists → k < length lists → list ≡ get_or lists k list → AreNumbersBelow bound list
list_within lists bound k list all small is = subst (λ (ns : List ℕ). AreNumbersBelow bound ns) (sym is) (All-from_recursion (AreNumbersBelow bound) lists all k list small)

pub list_is : (lists : List (List ℕ)) (k : ℕ) (list : List ℕ) → k < length lists → list ≡ get_or lists k list → list ≡ list_at lists k
list_is lists k list small is = get_or_read lists k list small is [] ∙ sym (unwrap_or-slice_get lists k [])

pub below_same : {ns ms : List ℕ} {bound other : ℕ} → ns ≡ ms → bound ≡ other → AreNumbersBelow bound ns → AreNumbersBelow other ms
below_same {ns} {ms} {bound} {other} same equal all = subst (λ (b : ℕ). AreNumbersBelow b ms) equal (subst (λ (xs : List ℕ). AreNumbersBelow bound xs) same all)

-- what stands at a place of a list that is made place by place
pub made_at : {X : Type 0} (F : ℕ → X) (n i : ℕ) (xs : List X) (x : X) → xs ≡ map F (range_with_len 0 n) → i < n → x ≡ get_or xs i x → x ≡ F i
made_at {X} F n i xs x are small is = is ∙ ap (λ (ys : List X). get_or ys i x) are ∙ get_or-map-range_with_len F 0 n i i x small (omega arith)
