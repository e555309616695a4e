-- The keys of an entry: what is among them, and that none stands twice.
use Rattle.std.proofs.Common.{◌≡◌, ℕ, zero, suc, Bool, true, false, not, ◌||◌, List, [], ◌∷◌, refl, ap, sym, ◌∙◌, ◌⊎◌, inl, inr}
use Rattle.std.proofs.lemmas.Bool.{false≢true}
use Rattle.std.specs.Cmp.Lexicographic.{bytes_decides}
use Rattle.std.specs.List.{Contains, filter}
use Rattle.std.specs.Str.{bytes_eq}
use Rattle.addr_base.specs.Ids.{hex_of}
use Rattle.addr_project.specs.declared.model.Asset.{Asset}
use Rattle.addr_project.specs.declared.model.Entry.{Entry}
use Rattle.addr_project.specs.Laws.{HasKeys}
use Rattle.addr_project.specs.Reach.{each_once}
use Rattle.addr_project_rows.specs.Firsts.{is_among}
use Rattle.addr_walks.specs.Once.{AreOnce}
use Rattle.addr_walks.proofs.Lists.{Contains-here, Contains-later, Contains-cases, Contains-none, Contains-filter, filter-Contains, Contains-slice_get, slice_get-Contains}

-- ---- texts among texts

or-right : (a b : Bool) → b ≡ true → (a || b) ≡ true
or-right true b is = refl
or-right false b is = is

or-left : (a b : Bool) → a ≡ true → (a || b) ≡ true
or-left a b is = rw is refl

pub there-among : (text : List ℕ) (ts : List (List ℕ)) → Contains ts text → is_among ts text ≡ true
there-among text [] here = absurd (Contains-none text here)
there-among text (t ∷ ts) here = by_case (Contains-cases t ts text here) (λ later. there-among text ts later)
  where
    by_case : (t ≡ text) ⊎ Contains ts text → (Contains ts text → is_among ts text ≡ true) → is_among (t ∷ ts) text ≡ true
    by_case (inl same) more = or-left (bytes_eq t text) (is_among ts text) ((bytes_decides t text).1 same)
    by_case (inr later) more = or-right (bytes_eq t text) (is_among ts text) (more later)

pub among-there : (text : List ℕ) (ts : List (List ℕ)) → is_among ts text ≡ true → Contains ts text
among-there text [] any = absurd (false≢true any)
among-there text (t ∷ ts) any = by_test (bytes_eq t text) refl any (λ more. among-there text ts more)
  where
    by_test : (v : Bool) → bytes_eq t text ≡ v → (v || is_among ts text) ≡ true → (is_among ts text ≡ true → Contains ts text) → Contains (t ∷ ts) text
    by_test true is any more = rw (← (bytes_decides t text).0 is) (Contains-here t ts)
    by_test false is any more = Contains-later t ts text (more any)

-- ---- each once

is-other : (t k : List ℕ) → bytes_eq k t ≡ false → not (bytes_eq k t) ≡ true
is-other t k is = ap not is

stays : (ts : List (List ℕ)) (k : List ℕ) → Contains (each_once ts) k → Contains ts k
stays [] k here = here
stays (t ∷ ts) k here = by_case (Contains-cases t (filter (λ other. not (bytes_eq other t)) (each_once ts)) k here) (stays ts k)
  where
    by_case : (t ≡ k) ⊎ Contains (filter (λ other. not (bytes_eq other t)) (each_once ts)) k → (Contains (each_once ts) k → Contains ts k) → Contains (t ∷ ts) k
    by_case (inl same) more = rw (← same) (Contains-here t ts)
    by_case (inr later) more = Contains-later t ts k (more (filter-Contains (λ other. not (bytes_eq other t)) (each_once ts) k later).0)

comes : (ts : List (List ℕ)) (k : List ℕ) → Contains ts k → Contains (each_once ts) k
comes [] k here = here
comes (t ∷ ts) k here = by_case (Contains-cases t ts k here) (comes ts k)
  where
    by_test : (v : Bool) → bytes_eq k t ≡ v → Contains (each_once ts) k → Contains (t ∷ filter (λ other. not (bytes_eq other t)) (each_once ts)) k
    by_test true is later = rw ((bytes_decides k t).0 is) (Contains-here t (filter (λ other. not (bytes_eq other t)) (each_once ts)))
    by_test false is later = Contains-later t (filter (λ other. not (bytes_eq other t)) (each_once ts)) k (Contains-filter (λ other. not (bytes_eq other t)) (each_once ts) k later (is-other t k is))

    by_case : (t ≡ k) ⊎ Contains ts k → (Contains ts k → Contains (each_once ts) k) → Contains (t ∷ filter (λ other. not (bytes_eq other t)) (each_once ts)) k
    by_case (inl same) more = rw (← same) (Contains-here t (filter (λ other. not (bytes_eq other t)) (each_once ts)))
    by_case (inr later) more = by_test (bytes_eq k t) refl (more later)

-- one more element that is new
once-more : {X : Type 0} (x : X) (xs : List X) → AreOnce xs → (Contains xs x → ⊥) → AreOnce (x ∷ xs)
once-more x xs once new zero zero y at other = refl
once-more x xs once new zero (suc j) y at other = let same : x ≡ y = cc in absurd (new (rw same (Contains-slice_get xs j y other)))
once-more x xs once new (suc i) zero y at other = let same : x ≡ y = cc in absurd (new (rw same (Contains-slice_get xs i y at)))
once-more x xs once new (suc i) (suc j) y at other = ap suc (once i j y at other)

once-less : {X : Type 0} (x : X) (xs : List X) → AreOnce (x ∷ xs) → AreOnce xs
once-less x xs once i j y at other = let same : suc i ≡ suc j = once (suc i) (suc j) y at other in cc

once-head : {X : Type 0} (x : X) (xs : List X) → AreOnce (x ∷ xs) → Contains xs x → ⊥
once-head x xs once there = let (k, at) = slice_get-Contains xs x there in let same : zero ≡ suc k = once zero (suc k) x refl at in cc

once-filter : {X : Type 0} (p : X → Bool) (xs : List X) → AreOnce xs → AreOnce (filter p xs)
once-filter p [] once = once
once-filter p (x ∷ xs) once = by_test (p x) refl (once-filter p xs (once-less x xs once))
  where
    by_test : (t : Bool) → p x ≡ t → AreOnce (filter p xs) → AreOnce (filter p (x ∷ xs))
    by_test true is rest = rw is (once-more x (filter p xs) rest (λ there. once-head x xs once (filter-Contains p xs x there).0))
    by_test false is rest = rw is rest

each-once : (ts : List (List ℕ)) → AreOnce (each_once ts)
each-once [] = λ i j x at other. absurd (cc)
each-once (t ∷ ts) =
    once-more t (filter (λ other. not (bytes_eq other t)) (each_once ts)) (once-filter (λ other. not (bytes_eq other t)) (each_once ts) (each-once ts))
    (λ there. false≢true (sym (ap not ((bytes_decides t t).1 refl)) ∙ (filter-Contains (λ other. not (bytes_eq other t)) (each_once ts) t there).1))

-- ---- the keys of an entry

abbrev all_keys : Entry → Asset → List (List ℕ)
all_keys e asset = e.address ∷ hex_of asset.guid.0 ∷ e.labels

pub keys : (e : Entry) (asset : Asset) → HasKeys e asset
keys e asset = record {
  all = λ key. (λ there. by_place key (stays (all_keys e asset) key there), λ is. comes (all_keys e asset) key (at_place key is));
  once = each-once (all_keys e asset);
  leads = λ key. (among-there key (each_once (all_keys e asset)), there-among key (each_once (all_keys e asset)));
}
  where
    digits : (key : List ℕ) → (hex_of asset.guid.0 ≡ key) ⊎ Contains e.labels key → (key ≡ hex_of asset.guid.0) ⊎ Contains e.labels key
    digits key (inl same) = inl (sym same)
    digits key (inr later) = inr later

    address : (key : List ℕ) → (e.address ≡ key) ⊎ Contains (hex_of asset.guid.0 ∷ e.labels) key → (key ≡ e.address) ⊎ ((key ≡ hex_of asset.guid.0) ⊎ Contains e.labels key)
    address key (inl same) = inl (sym same)
    address key (inr later) = inr (digits key (Contains-cases (hex_of asset.guid.0) e.labels key later))

    by_place : (key : List ℕ) → Contains (all_keys e asset) key → (key ≡ e.address) ⊎ ((key ≡ hex_of asset.guid.0) ⊎ Contains e.labels key)
    by_place key there = address key (Contains-cases e.address (hex_of asset.guid.0 ∷ e.labels) key there)

    at_place : (key : List ℕ) → (key ≡ e.address) ⊎ ((key ≡ hex_of asset.guid.0) ⊎ Contains e.labels key) → Contains (all_keys e asset) key
    at_place key (inl same) = rw same (Contains-here e.address (hex_of asset.guid.0 ∷ e.labels))
    at_place key (inr (inl same)) = rw same (Contains-later e.address (hex_of asset.guid.0 ∷ e.labels) (hex_of asset.guid.0) (Contains-here (hex_of asset.guid.0) e.labels))
    at_place key (inr (inr label)) = Contains-later e.address (hex_of asset.guid.0 ∷ e.labels) key (Contains-later (hex_of asset.guid.0) e.labels key label)
