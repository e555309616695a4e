-- The asset rows that are read are sound: each has dependencies in range, none twice, and no key twice; and their keys are
-- few, since each is a key of the table.
use Rattle.std.proofs.Common.{◌≡◌, ◌≢◌, ℕ, zero, suc, ◌==◌, ◌+◌, ◌≤◌, ◌<◌, Bool, true, false, not, ◌&&◌, cond, nat_lt, List, [], ◌∷◌, ◌++◌, length, map, filter, Option, Some, None, unwrap_or, refl, sym, ap, ◌∙◌, subst, arith}
use Rattle.std.specs.List.{list_any, filter_map, range_with_len, slice_get, AllByRecursion}
use Rattle.std.specs.Option.{option_and_then, IfSome}
use Rattle.std.specs.Str.{bytes_eq}
use Rattle.std.proofs.lemmas.Bool.{false≢true, and_parts, and_from, or_parts, eq-eqb, ne_eqb, lt-ltb, not_from_false}
use Rattle.std.proofs.lemmas.Bool.Decides.{nat_tests}
use Rattle.std.proofs.lemmas.Option.{none-some, same_Some}
use Rattle.std.proofs.lemmas.Slice.Eq.{bytes_eq-Decides}
use Rattle.addr_base.specs.declared.ids.BundleNo.{BundleNo}
use Rattle.addr_keys.specs.declared.key.Key.{Key}
use Rattle.addr_keys.specs.declared.key.Key.TheVariants as keys
use Rattle.addr_locate.specs.Rows.{are_bundles, no_repeats, no_text_twice}
use Rattle.addr_locate.specs.declared.rows.BundleRow.{BundleRow}
use Rattle.addr_locate.proofs.FoundLemmas.{all-distinct, no_repeats-distinct}
use Rattle.addr_tables.specs.Rows.{AreDistinct}
use Rattle.addr_tables.specs.declared.rows.Rows.{Rows}
use Rattle.addr_catalog.specs.Catalogue.{somes}
use Rattle.addr_catalog.specs.Inverted.{is_among, first_with}
use Rattle.addr_catalog.proofs.InvertedLemmas.{has}
use Rattle.addr_catalog.specs.Entries.{text_of, key_text_at, keys_holding, with_first, asset_keys, numbers_from, number_at, bundles_among, dependencies}

-- ---- dependencies

-- the entry's number is one of so many bundles
abbrev pub IsBelow : ℕ → Option BundleNo → Type 0
IsBelow count o = IfSome o (λ b. b.0 < count)

pub numbers_below : (n count : ℕ) (bundles : List (Option BundleRow)) → n + length (somes bundles) ≤ count → AllByRecursion (IsBelow count) (numbers_from n bundles)
unfolding numbers_from
numbers_below n count [] fits = tt
numbers_below n count (Some b ∷ bundles) fits = (omega arith, numbers_below (n + 1) count bundles (omega arith))
numbers_below n count (None ∷ bundles) fits = (tt, numbers_below n count bundles fits)

number_below : (count : ℕ) (numbers : List (Option BundleNo)) (entry : ℕ) → AllByRecursion (IsBelow count) numbers → IsBelow count (number_at numbers entry)
number_below count [] entry all = tt
number_below count (n ∷ numbers) zero all = here n all.0
  where
    here : (o : Option BundleNo) → IsBelow count o → IsBelow count (option_and_then (λ x. x) (Some o))
    here None is = tt
    here (Some b) is = is
number_below count (n ∷ numbers) (suc entry) all = number_below count numbers entry all.1

found_below : (count : ℕ) (numbers : List (Option BundleNo)) (entries : List ℕ) → AllByRecursion (IsBelow count) numbers → are_bundles count (filter_map (number_at numbers) entries) ≡ true
found_below count numbers [] all = refl
found_below count numbers (e ∷ entries) all = by_number (number_at numbers e) refl (number_below count numbers e all) (found_below count numbers entries all)
  where
    by_number : (o : Option BundleNo) → number_at numbers e ≡ o → IsBelow count (number_at numbers e) → are_bundles count (filter_map (number_at numbers) entries) ≡ true → are_bundles count (filter_map (number_at numbers) (e ∷ entries)) ≡ true
    by_number None is below rest = rw is rest
    by_number (Some b) is below rest =
        let small : b.0 < count = subst (λ (x : Option BundleNo). IsBelow count x) is below in
        rw is (and_from (nat_lt b.0 count) (are_bundles count (filter_map (number_at numbers) entries)) (lt-ltb b.0 count small) rest)

-- a list of bundles in range, none twice
abbrev pub AreSound : ℕ → List BundleNo → Type 0
AreSound count bs = (are_bundles count bs ≡ true) × (no_repeats bs ≡ true)

among_sound : (count : ℕ) (numbers : List (Option BundleNo)) (entries : List ℕ) → AllByRecursion (IsBelow count) numbers → AreSound count (bundles_among numbers entries)
unfolding bundles_among
among_sound count numbers entries all =
    let found : List BundleNo = filter_map (number_at numbers) entries in
    (all-distinct (λ b. nat_lt b.0 count) found (found_below count numbers entries all), no_repeats-distinct found)

list_sound : (count : ℕ) (numbers : List (Option BundleNo)) (buckets : List (List ℕ)) (k : ℕ) → AllByRecursion (IsBelow count) numbers → AreSound count (unwrap_or (slice_get (map (bundles_among numbers) buckets) k) [])
list_sound count numbers [] k all = (refl, refl)
list_sound count numbers (b ∷ buckets) zero all = among_sound count numbers b all
list_sound count numbers (b ∷ buckets) (suc k) all = list_sound count numbers buckets k all

pub dependencies_sound : (count : ℕ) (numbers : List (Option BundleNo)) (buckets : List (List ℕ)) (dep : Option ℕ) → AllByRecursion (IsBelow count) numbers → AreSound count (dependencies (map (bundles_among numbers) buckets) dep)
dependencies_sound count numbers buckets None all = (refl, refl)
dependencies_sound count numbers buckets (Some k) all = list_sound count numbers buckets k all

-- ---- keys

-- no number stands twice
abbrev pub are_apart : List ℕ → Bool
are_apart [] = true
are_apart (n ∷ ns) = not (is_among ns n) && are_apart ns

among-filter : (p : ℕ → Bool) (ns : List ℕ) (n : ℕ) → is_among ns n ≡ false → is_among (filter p ns) n ≡ false
among-filter p [] n out = refl
among-filter p (m ∷ ns) n out =
    let parts = or_parts (m == n) (is_among ns n) out in
    by_test (p m) refl parts.0 (among-filter p ns n parts.1)
  where
    by_test : (t : Bool) → p m ≡ t → (m == n) ≡ false → is_among (filter p ns) n ≡ false → is_among (filter p (m ∷ ns)) n ≡ false
    by_test true is other rest = rw is (grind (arith, nat_tests, other, rest))
    by_test false is other rest = rw is rest

not_out : (b : Bool) → not b ≡ true → b ≡ false
not_out true e = absurd (false≢true e)
not_out false e = refl

apart-filter : (p : ℕ → Bool) (ns : List ℕ) → are_apart ns ≡ true → are_apart (filter p ns) ≡ true
apart-filter p [] apart = refl
apart-filter p (n ∷ ns) apart =
    let both = and_parts (not (is_among ns n)) (are_apart ns) apart in
    by_test (p n) refl (among-filter p ns n (not_out (is_among ns n) both.0)) (apart-filter p ns both.1)
  where
    by_test : (t : Bool) → p n ≡ t → is_among (filter p ns) n ≡ false → are_apart (filter p ns) ≡ true → are_apart (filter p (n ∷ ns)) ≡ true
    by_test true is out rest = rw is (and_from (not (is_among (filter p ns) n)) (are_apart (filter p ns)) (not_from_false (is_among (filter p ns) n) out) rest)
    by_test false is out rest = rw is rest

range_above : (n from count : ℕ) → n < from → is_among (range_with_len from count) n ≡ false
range_above n from zero low = refl
range_above n from (suc count) low = let rest = range_above n (from + 1) count (omega arith) in let other : (from == n) ≡ false = ne_eqb from n (λ e. omega arith) in grind (arith, nat_tests, other, rest)

range_apart : (from count : ℕ) → are_apart (range_with_len from count) ≡ true
range_apart from zero = refl
range_apart from (suc count) = and_from (not (is_among (range_with_len (from + 1) count) from)) (are_apart (range_with_len (from + 1) count)) (not_from_false _ (range_above from (from + 1) count (omega arith))) (range_apart (from + 1) count)

without_itself : (ns : List ℕ) (n : ℕ) → is_among (filter (λ m. not (m == n)) ns) n ≡ false
without_itself [] n = refl
without_itself (m ∷ ns) n = by_test (m == n) refl (without_itself ns n)
  where
    by_test : (t : Bool) → (m == n) ≡ t → is_among (filter (λ k. not (k == n)) ns) n ≡ false → is_among (filter (λ k. not (k == n)) (m ∷ ns)) n ≡ false
    by_test true is rest = rw is rest
    by_test false is rest = rw is (grind (arith, nat_tests, is, rest))

with_first_apart : (n : ℕ) (ns : List ℕ) → are_apart ns ≡ true → are_apart (with_first n ns) ≡ true
unfolding with_first
with_first_apart n ns apart = by_test (is_among ns n) refl (apart-filter (λ m. not (m == n)) ns apart)
  where
    by_test : (t : Bool) → is_among ns n ≡ t → are_apart (filter (λ m. not (m == n)) ns) ≡ true → are_apart (cond (is_among ns n) (n ∷ []) [] ++ filter (λ m. not (m == n)) ns) ≡ true
    by_test true is rest = rw is (and_from _ (are_apart (filter (λ m. not (m == n)) ns)) (not_from_false _ (without_itself ns n)) rest)
    by_test false is rest = rw is rest

holding_apart : (rows : Rows) (place : ℕ) → are_apart (keys_holding rows place) ≡ true
unfolding first_with
holding_apart rows place = apart-filter (has rows.buckets place) (range_with_len 0 (length rows.buckets)) (range_apart 0 (length rows.buckets))

-- a key that stands at two places stands at one
lone_place : (k : Key) (ks : List Key) (m : ℕ) → AllByRecursion (λ other. k ≢ other) ks → slice_get ks m ≡ Some k → ⊥
lone_place k [] m all is = none-some k is
lone_place k (other ∷ ks) zero all is = all.0 (sym (same_Some other k is))
lone_place k (other ∷ ks) (suc m) all is = lone_place k ks m all.1 is

same_place : (ks : List Key) (m n : ℕ) (k : Key) → AreDistinct ks → slice_get ks m ≡ Some k → slice_get ks n ≡ Some k → m ≡ n
same_place [] m n k all at_m at_n = absurd (none-some k at_m)
same_place (key ∷ ks) zero zero k all at_m at_n = refl
same_place (key ∷ ks) zero (suc n) k all at_m at_n = absurd (lone_place key ks n all.0 (at_n ∙ sym at_m))
same_place (key ∷ ks) (suc m) zero k all at_m at_n = absurd (lone_place key ks m all.0 (at_m ∙ sym at_n))
same_place (key ∷ ks) (suc m) (suc n) k all at_m at_n = ap suc (same_place ks m n k all.1 at_m at_n)

text_is : (key : Key) (t : List ℕ) → text_of key ≡ Some t → key ≡ keys.Text t
text_is (keys.Text u) t is = ap keys.Text (same_Some u t is)
text_is (keys.U16 n) t is = absurd (none-some t is)
text_is (keys.U32 n) t is = absurd (none-some t is)
text_is (keys.I32 n) t is = absurd (none-some t is)
text_is (keys.Hash u) t is = absurd (none-some t is)
text_is (keys.TypeId u) t is = absurd (none-some t is)
text_is (keys.Json a b u) t is = absurd (none-some t is)

key_there : (ks : List Key) (n : ℕ) (t : List ℕ) → key_text_at ks n ≡ Some t → slice_get ks n ≡ Some (keys.Text t)
key_there ks n t is = by_key (slice_get ks n) is
  where
    by_key : (o : Option Key) → option_and_then text_of o ≡ Some t → o ≡ Some (keys.Text t)
    by_key None none = absurd (none-some t none)
    by_key (Some key) found = ap Some (text_is key t found)

-- a text that is the key of no number among some is not among their texts
text_out : (ks : List Key) (n : ℕ) (t : List ℕ) (ns : List ℕ) → AreDistinct ks → key_text_at ks n ≡ Some t → is_among ns n ≡ false → list_any (λ u. bytes_eq u t) (filter_map (key_text_at ks) ns) ≡ false
text_out ks n t [] all is out = refl
text_out ks n t (m ∷ ns) all is out =
    let parts = or_parts (m == n) (is_among ns n) out in
    by_text (key_text_at ks m) refl parts.0 (text_out ks n t ns all is parts.1)
  where
    by_equal : (u : List ℕ) (b : Bool) → bytes_eq u t ≡ b → key_text_at ks m ≡ Some u → (m == n) ≡ false → b ≡ false
    by_equal u true equal found other =
        let same : u ≡ t = (bytes_eq-Decides u t).0 equal in
        let place : m ≡ n = same_place ks m n (keys.Text t) all (key_there ks m t (found ∙ ap Some same)) (key_there ks n t is) in
        absurd (false≢true (sym other ∙ eq-eqb m n place))
    by_equal u false equal found other = refl

    by_text : (o : Option (List ℕ)) → key_text_at ks m ≡ o → (m == n) ≡ false → list_any (λ u. bytes_eq u t) (filter_map (key_text_at ks) ns) ≡ false → list_any (λ u. bytes_eq u t) (filter_map (key_text_at ks) (m ∷ ns)) ≡ false
    by_text None found other rest = rw found rest
    by_text (Some u) found other rest = let differs : bytes_eq u t ≡ false = by_equal u (bytes_eq u t) refl found other in rw found (grind (arith, nat_tests, differs, rest))

texts_apart : (ks : List Key) (ns : List ℕ) → AreDistinct ks → are_apart ns ≡ true → no_text_twice (filter_map (key_text_at ks) ns) ≡ true
texts_apart ks [] all apart = refl
texts_apart ks (n ∷ ns) all apart =
    let both = and_parts (not (is_among ns n)) (are_apart ns) apart in
    by_text (key_text_at ks n) refl (not_out (is_among ns n) both.0) (texts_apart ks ns all both.1)
  where
    by_text : (o : Option (List ℕ)) → key_text_at ks n ≡ o → is_among ns n ≡ false → no_text_twice (filter_map (key_text_at ks) ns) ≡ true → no_text_twice (filter_map (key_text_at ks) (n ∷ ns)) ≡ true
    by_text None found out rest = rw found rest
    by_text (Some t) found out rest = rw found (and_from _ (no_text_twice (filter_map (key_text_at ks) ns)) (not_from_false _ (text_out ks n t ns all found out)) rest)

pub keys_apart : (rows : Rows) (place primary : ℕ) → AreDistinct rows.keys → no_text_twice (asset_keys rows.keys primary (keys_holding rows place)) ≡ true
unfolding asset_keys
keys_apart rows place primary all = texts_apart rows.keys (with_first primary (keys_holding rows place)) all (with_first_apart primary (keys_holding rows place) (holding_apart rows place))
