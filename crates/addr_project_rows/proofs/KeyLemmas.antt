-- An index in a loop: a key is among others where it has a place, and one more key.
use Rattle.std.proofs.Common.{◌≡◌, ℕ, ◌+◌, ◌<◌, Bool, true, false, ◌||◌, cond, List, [], ◌∷◌, ◌++◌, length, get_or, take, Option, Some, None, Bor, BTreeMap, refl, sym, ap, ◌∙◌, nat_cmp, arith}
use Rattle.std.proofs.lemmas.Bool.{false≢true}
use Rattle.std.proofs.lemmas.List.{length-take-le}
use Rattle.std.proofs.lemmas.Map.Text.{btree_map_updates_str}
use Rattle.std.specs.BTreeMap.{get_by, UpdatesBy}
use Rattle.std.specs.Cmp.Lexicographic.{slice_cmp, bytes_decides}
use Rattle.std.specs.List.{list_any}
use Rattle.std.specs.Option.{is_some, option_or}
use Rattle.std.specs.Str.{bytes_eq}
use Rattle.addr_project_rows.specs.Firsts.{first_from, number_if, is_among, place_of}
use Rattle.addr_project_rows.specs.Lookups.{HoldsPlaces}
use Rattle.addr_project_rows.proofs.FirstLemmas.{first_from-more, option_or-none}

some_number : (t : Bool) (n : ℕ) (rest : Option ℕ) → is_some (option_or (cond t (Some n) None) rest) ≡ (t || is_some rest)
some_number true n rest = refl
some_number false n rest = refl

any_place : (test : List ℕ → Bool) (before keys : List (List ℕ)) → list_any test keys ≡ is_some (first_from (number_if (λ b k. test k)) before keys)
unfolding first_from
any_place test before [] = refl
any_place test before (k ∷ keys) = ap (λ b. test k || b) (any_place test (before ++ k ∷ []) keys) ∙ sym (some_number (test k) (length before) (first_from (number_if (λ b k. test k)) (before ++ k ∷ []) keys))

-- a key is among the keys where it has a place
pub among_place : (keys : List (List ℕ)) (key : List ℕ) → is_among keys key ≡ is_some (place_of keys key)
among_place keys key = any_place (λ k. bytes_eq k key) [] keys

-- the map with one more key, which it didn't have
pub places-more : (keys : List (List ℕ)) (i row : ℕ) (key : List ℕ) (m n : BTreeMap (Bor (List ℕ)) ℕ) → i < length keys → row ≡ i → get_or keys i key ≡ key
    → HoldsPlaces (take i keys) m
    → get_by (λ k. slice_cmp nat_cmp key k.now) m ≡ None
    → UpdatesBy (λ x y. slice_cmp nat_cmp x.now y.now) (λ k. slice_cmp nat_cmp key k.now) m n (Some row)
    → HoldsPlaces (take (i + 1) keys) n
places-more keys i row key m n small number at holds absent updates other =
    btree_map_updates_str key m n (Some row) updates other
    ∙ by_test (bytes_eq key other) refl
    ∙ sym (first_from-more (number_if (λ b k. bytes_eq k other)) keys i key small ∙ ap (λ k. option_or (place_of (take i keys) other) (number_if (λ b x. bytes_eq x other) (take i keys) k)) at)
  where
    found : ℕ → Option ℕ
    found len = option_or (place_of (take i keys) other) (cond (bytes_eq key other) (Some len) None)

    by_test : (t : Bool) → bytes_eq key other ≡ t → cond (bytes_eq key other) (Some row) (get_by (λ k. slice_cmp nat_cmp other k.now) m) ≡ found (length (take i keys))
    by_test true same =
        let equal : key ≡ other = (bytes_decides key other).0 same in
        let none : place_of (take i keys) other ≡ None = sym (holds other) ∙ ap (λ bytes. get_by (λ k. slice_cmp nat_cmp bytes k.now) m) (sym equal) ∙ absent in
        rw (same, none, length-take-le i keys (omega arith), number)
    by_test false differs = rw (differs, option_or-none (place_of (take i keys) other)) (holds other)

pub none_from : {A : Type 0} (o : Option A) → is_some o ≡ false → o ≡ None
none_from None is = refl
none_from (Some x) is = absurd (false≢true (sym is))
