-- Lists kept once and the places that a map has for them, with one key more: for `Numbered::of`.
use Rattle.std.proofs.Common.{ℕ, ◌≡◌, ◌+◌, Bool, true, false, cond, List, [], ◌∷◌, ◌++◌, length, map, position, take, drop, get_or, ◌<◌, ◌≤◌, length-append, Option, Some, None, is_some, BTreeMap, Ordering, nat_cmp, refl, sym, ap, ◌∙◌, arith}
use Rattle.std.specs.BTreeMap.{get, is_at}
use Rattle.std.specs.Cmp.Lexicographic.{slice_cmp}
use Rattle.std.specs.List.{position_from, list_any}
use Rattle.std.specs.Option.{option_or}
use Rattle.std.specs.Ordering.{is_eq}
use Rattle.std.specs.Str.{bytes_eq}
use Rattle.std.proofs.lemmas.Iterator.Adapters.{position_from-zero}
use Rattle.std.proofs.lemmas.List.{map-append, length-map, take_more, take-append-drop, append-nil, append_assoc}
use Rattle.std.proofs.lemmas.Map.Text.{is_eq-slice_cmp}
use Rattle.addr_locate.specs.Rows.{texts_once}
use Rattle.addr_locate.proofs.TextLemmas.{same_texts, any-texts_once}
use Rattle.addr_locate.proofs.NumberLemmas.{text_put, text_pass}
use Rattle.addr_catalog.specs.Listed.{HasPlaces}

place_after : {X : Type 0} (p : X → Bool) (xs : List X) (x : X) (i : ℕ) → position_from p i (xs ++ x ∷ []) ≡ option_or (position_from p i xs) (cond (p x) (Some (i + length xs)) None)
place_after p [] x i = let same : i + 0 ≡ i = omega arith in rw same refl
place_after p (y ∷ ys) x i = by_test (p y) refl (place_after p ys x (i + 1))
  where
    by_test : (here : Bool) → p y ≡ here → position_from p (i + 1) (ys ++ x ∷ []) ≡ option_or (position_from p (i + 1) ys) (cond (p x) (Some ((i + 1) + length ys)) None) → position_from p i (y ∷ ys ++ x ∷ []) ≡ option_or (position_from p i (y ∷ ys)) (cond (p x) (Some (i + length (y ∷ ys))) None)
    by_test true e rest = rw e refl
    by_test false e rest = let next : (i + 1) + length ys ≡ i + length (y ∷ ys) = omega arith in rw e (rest ∙ rw next refl)

position_push : {X : Type 0} (p : X → Bool) (xs : List X) (x : X) → position p (xs ++ x ∷ []) ≡ option_or (position p xs) (cond (p x) (Some (length xs)) None)
position_push p xs x =
    let start : 0 + length xs ≡ length xs = omega arith in
    position_from-zero p (xs ++ x ∷ []) ∙ (place_after p xs x 0 ∙ rw start (ap (λ o. option_or o (cond (p x) (Some (length xs)) None)) (sym (position_from-zero p xs))))

found_from : {X : Type 0} (p : X → Bool) (xs : List X) (i : ℕ) → is_some (position_from p i xs) ≡ list_any p xs
found_from p [] i = refl
found_from p (x ∷ xs) i = by_test (p x) refl (found_from p xs (i + 1))
  where
    by_test : (here : Bool) → p x ≡ here → is_some (position_from p (i + 1) xs) ≡ list_any p xs → is_some (position_from p i (x ∷ xs)) ≡ list_any p (x ∷ xs)
    by_test true e rest = rw e refl
    by_test false e rest = rw e rest

pub is_some-position : {X : Type 0} (p : X → Bool) (xs : List X) → is_some (position p xs) ≡ list_any p xs
is_some-position p xs = ap is_some (position_from-zero p xs) ∙ found_from p xs 0

option_or-none : {X : Type 0} (o : Option X) → option_or o None ≡ o
option_or-none None = refl
option_or-none (Some x) = refl

-- a key is put at the next place where its list isn't there yet
pub HasPlaces-put : {K : Type 0} (cmp : K → K → Ordering) (list : K → List ℕ) (keys : List K) (key : K) (m n : BTreeMap K ℕ) (place : ℕ)
    → ((a b : K) → cmp a b ≡ slice_cmp nat_cmp (list a) (list b)) → HasPlaces cmp list keys m → get cmp m key ≡ None → place ≡ length keys
    → ((q : K) → get cmp n q ≡ cond (is_at (cmp key) q) (Some place) (get cmp m q))
    → HasPlaces cmp list (keys ++ key ∷ []) n
HasPlaces-put cmp list keys key m n place compares holds absent at updates q =
    updates q ∙ (ap (λ b. cond b (Some place) (get cmp m q)) tests ∙ (by_test (bytes_eq (list key) (list q)) refl ∙ sym whole))
  where
    tests : is_eq (cmp key q) ≡ bytes_eq (list key) (list q)
    tests = ap is_eq (compares key q) ∙ is_eq-slice_cmp (list key) (list q)

    whole : position (λ t. bytes_eq t (list q)) (map list (keys ++ key ∷ [])) ≡ option_or (position (λ t. bytes_eq t (list q)) (map list keys)) (cond (bytes_eq (list key) (list q)) (Some (length (map list keys))) None)
    whole = ap (position (λ t. bytes_eq t (list q))) (map-append list keys (key ∷ [])) ∙ position_push (λ t. bytes_eq t (list q)) (map list keys) (list key)

    long : length (map list keys) ≡ place
    long = length-map keys list ∙ sym at

    by_test : (same : Bool) → bytes_eq (list key) (list q) ≡ same → cond (bytes_eq (list key) (list q)) (Some place) (get cmp m q) ≡ option_or (position (λ t. bytes_eq t (list q)) (map list keys)) (cond (bytes_eq (list key) (list q)) (Some (length (map list keys))) None)
    by_test true e =
        let none : position (λ t. bytes_eq t (list q)) (map list keys) ≡ None = ap (λ l. position (λ t. bytes_eq t l) (map list keys)) (sym (same_texts (list key) (list q) e)) ∙ (sym (holds key) ∙ absent) in
        rw (e, none, long) refl
    by_test false e = rw e (holds q ∙ sym (option_or-none (position (λ t. bytes_eq t (list q)) (map list keys))))

-- the list of a key that the map lacks, or has
pub lacks : {K : Type 0} (cmp : K → K → Ordering) (list : K → List ℕ) (keys : List K) (key : K) (m : BTreeMap K ℕ) (seen : List (List ℕ)) → HasPlaces cmp list keys m → map list keys ≡ texts_once seen → list_any (λ t. bytes_eq t (list key)) seen ≡ is_some (get cmp m key)
lacks cmp list keys key m seen holds once = sym (any-texts_once (list key) seen) ∙ (ap (list_any (λ t. bytes_eq t (list key))) (sym once) ∙ (sym (is_some-position (λ t. bytes_eq t (list key)) (map list keys)) ∙ ap is_some (sym (holds key))))

next_list : {K : Type 0} (list : K → List ℕ) (keys : List K) (i : ℕ) (key : K) → key ≡ get_or keys i key → i < length keys → map list (take (i + 1) keys) ≡ map list (take i keys) ++ list key ∷ []
next_list list keys i key is within = ap (map list) (take_more keys i key within ∙ ap (λ k. take i keys ++ k ∷ []) (sym is)) ∙ map-append list (take i keys) (key ∷ [])

-- what was listed of the keys up to one, with that one
pub once-put : {K : Type 0} (list : K → List ℕ) (keys once : List K) (i : ℕ) (key : K) → key ≡ get_or keys i key → i < length keys → map list once ≡ texts_once (map list (take i keys)) → list_any (λ t. bytes_eq t (list key)) (map list (take i keys)) ≡ false → map list (once ++ key ∷ []) ≡ texts_once (map list (take (i + 1) keys))
once-put list keys once i key is within so_far new =
    map-append list once (key ∷ []) ∙ (text_put (map list (take i keys)) (map list once) (list key) so_far new ∙ ap texts_once (sym (next_list list keys i key is within)))

pub once-pass : {K : Type 0} (list : K → List ℕ) (keys once : List K) (i : ℕ) (key : K) → key ≡ get_or keys i key → i < length keys → map list once ≡ texts_once (map list (take i keys)) → list_any (λ t. bytes_eq t (list key)) (map list (take i keys)) ≡ true → map list once ≡ texts_once (map list (take (i + 1) keys))
once-pass list keys once i key is within so_far old =
    text_pass (map list (take i keys)) (map list once) (list key) so_far old ∙ ap texts_once (sym (next_list list keys i key is within))

-- there are no more among the first keys than among all
longer : (seen : List (List ℕ)) (t : List ℕ) → length (texts_once seen) ≤ length (texts_once (seen ++ t ∷ []))
longer seen t = by_test (list_any (λ u. bytes_eq u t) seen) refl
  where
    by_test : (there : Bool) → list_any (λ u. bytes_eq u t) seen ≡ there → length (texts_once seen) ≤ length (texts_once (seen ++ t ∷ []))
    by_test true e = let same = ap length (text_pass seen (texts_once seen) t refl e) in omega (arith, same)
    by_test false e =
        let more = ap length (text_put seen (texts_once seen) t refl e) in
        let long : length (texts_once seen ++ t ∷ []) ≡ length (texts_once seen) + 1 = length-append (texts_once seen) (t ∷ []) in
        omega (arith, more, long)

few_first : (front back : List (List ℕ)) → length (texts_once front) ≤ length (texts_once (front ++ back))
few_first front [] = rw (append-nil front) (omega arith)
few_first front (t ∷ back) =
    let next = few_first (front ++ t ∷ []) back in
    let joined : length (texts_once ((front ++ t ∷ []) ++ back)) ≡ length (texts_once (front ++ t ∷ back)) = ap (λ ts. length (texts_once ts)) (append_assoc front (t ∷ []) back) in
    let step = longer front t in
    omega (arith, next, joined, step)

pub few_once : {K : Type 0} (list : K → List ℕ) (keys once : List K) (i : ℕ) → map list once ≡ texts_once (map list (take i keys)) → length once ≤ length (texts_once (map list keys))
few_once list keys once i so_far =
    let parts : map list (take i keys) ++ map list (drop i keys) ≡ map list keys = sym (map-append list (take i keys) (drop i keys)) ∙ ap (map list) (take-append-drop i keys) in
    let few = few_first (map list (take i keys)) (map list (drop i keys)) in
    let whole = ap (λ ts. length (texts_once ts)) parts in
    let long = sym (length-map once list) ∙ ap length so_far in
    omega (arith, few, whole, long)
