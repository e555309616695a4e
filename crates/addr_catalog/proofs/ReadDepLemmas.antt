-- The dependencies that are read of an asset's entry are those of its row, where no two bundles have the same key.
use Rattle.std.proofs.Common.{◌≡◌, ℕ, zero, suc, ◌==◌, ◌+◌, Bool, true, false, not, nat_lt, List, [], ◌∷◌, length, map, filter, Option, Some, None, unwrap_or, inl, inr, refl, sym, ap, ◌∙◌, subst, arith}
use Rattle.std.specs.List.{list_any, list_all, filter_map, slice_get}
use Rattle.std.specs.Str.{bytes_eq}
use Rattle.std.proofs.lemmas.Bool.{false≢true, and_parts, or_parts, or_cases, or_left, cases_lt, eq-eqb, eqb-true, lt-ltb, ltb-true, not-true}
use Rattle.std.proofs.lemmas.Option.{none-some, same_Some, slice_get_within}
use Rattle.addr_base.specs.declared.ids.BundleNo.{BundleNo}
use Rattle.addr_locate.specs.Merge.{distinct}
use Rattle.addr_locate.specs.Rows.{Rows, AreRows, place_of, has_dep, are_bundles, no_repeats, has_sound_deps, no_text_twice}
use Rattle.addr_locate.specs.declared.rows.AssetRow.{AssetRow}
use Rattle.addr_locate.specs.declared.rows.BundleRow.{BundleRow}
use Rattle.addr_locate.proofs.TextLemmas.{same_texts, any-texts_once}
use Rattle.addr_catalog.specs.Entries.{number_at, bundles_among, bundle_lists, dependencies}
use Rattle.addr_catalog.specs.Inverted.{is_among, list_at, first_with, lists_with}
use Rattle.addr_catalog.specs.ReadsAlike.{HasDistinctKeys}
use Rattle.addr_catalog.specs.Written.{table_texts, row_key_numbers, dep_numbers, is_several, dep_lists, dep_key, table_buckets, table_rows}
use Rattle.addr_catalog.proofs.AmongLemmas.{lone_in_range}
use Rattle.addr_catalog.proofs.InvertedLemmas.{has}
use Rattle.addr_catalog.proofs.RowLemmas.{place_within, count_rows}
use Rattle.addr_catalog.proofs.ReadKeyLemmas.{there_is, mapped, mapped_there, text_found, bundle_key_there, bundle_row_key_numbers, bundle_primary, text_bucket, list_bucket}
use Rattle.addr_catalog.proofs.ReadBundleLemmas.{bundle_nos, number_below, number_behind}

-- ---- a bucket of dependencies

-- the bundles of the bucket with that number
from_bucket : (numbers : List (Option BundleNo)) (buckets : List (List ℕ)) (k : ℕ) (ns : List ℕ) → slice_get buckets k ≡ Some ns → dependencies (map (bundles_among numbers) buckets) (Some k) ≡ bundles_among numbers ns
from_bucket numbers buckets k ns is = ap (λ o. unwrap_or o []) (mapped (bundles_among numbers) buckets k ns is)

-- ---- one dependency

key_out : (t : List ℕ) (bs : List BundleRow) (n : ℕ) (c : BundleRow) → list_any (λ u. bytes_eq u t) (map (λ (b : BundleRow). b.key) bs) ≡ false → slice_get bs n ≡ Some c → c.key ≡ t → ⊥
key_out t bs n c out is same =
    let there = mapped_there (λ (b : BundleRow). b.key) bs n c is in
    let found : list_any (λ u. bytes_eq u t) (map (λ (b : BundleRow). b.key) bs) ≡ true = subst (λ (x : List ℕ). list_any (λ u. bytes_eq u x) (map (λ (b : BundleRow). b.key) bs) ≡ true) same there in
    false≢true (sym out ∙ found)

-- bundles with one key stand at one place
one_place : (bs : List BundleRow) (m n : ℕ) (b c : BundleRow) → no_text_twice (map (λ (b : BundleRow). b.key) bs) ≡ true → slice_get bs m ≡ Some b → slice_get bs n ≡ Some c → b.key ≡ c.key → m ≡ n
one_place [] m n b c once at_m at_n same = absurd (none-some b at_m)
one_place (x ∷ bs) zero zero b c once at_m at_n same = refl
one_place (x ∷ bs) zero (suc n) b c once at_m at_n same =
    let both = and_parts (not (list_any (λ u. bytes_eq u x.key) (map (λ (b : BundleRow). b.key) bs))) (no_text_twice (map (λ (b : BundleRow). b.key) bs)) once in
    absurd (key_out x.key bs n c (not-true _ both.0) at_n (sym same ∙ ap (λ (y : BundleRow). y.key) (sym (same_Some x b at_m))))
one_place (x ∷ bs) (suc m) zero b c once at_m at_n same =
    let both = and_parts (not (list_any (λ u. bytes_eq u x.key) (map (λ (b : BundleRow). b.key) bs))) (no_text_twice (map (λ (b : BundleRow). b.key) bs)) once in
    absurd (key_out x.key bs m b (not-true _ both.0) at_m (same ∙ ap (λ (y : BundleRow). y.key) (sym (same_Some x c at_n))))
one_place (x ∷ bs) (suc m) (suc n) b c once at_m at_n same =
    let both = and_parts (not (list_any (λ u. bytes_eq u x.key) (map (λ (b : BundleRow). b.key) bs))) (no_text_twice (map (λ (b : BundleRow). b.key) bs)) once in
    ap suc (one_place bs m n b c both.1 at_m at_n same)

-- a number alone
alone : (m k : ℕ) → is_among (m ∷ []) k ≡ true → m ≡ k
alone m k there = elim (or_cases (m == k) false there) [
  | inl here ↦ eqb-true m k here
  | inr none ↦ absurd (false≢true none)
]

-- of the rows with a bundle's key no other one is a bundle
no_other : (r : Rows) (d m : ℕ) (b : BundleRow) → HasDistinctKeys r → slice_get r.bundles d ≡ Some b → (m ≡ d → ⊥) → is_among (list_at (row_key_numbers r) m) (place_of (table_texts r) b.key) ≡ true → number_at (bundle_nos r) m ≡ None
no_other r d m b apart is other among = elim (cases_lt m (length r.bundles)) [
  | inr past ↦ number_behind r m past
  | inl below ↦
      let found = there_is r.bundles m below in
      let c = found.0 in
      let texts = table_texts r in
      let same : place_of texts c.key ≡ place_of texts b.key = alone (place_of texts c.key) (place_of texts b.key) (ap (λ ns. is_among ns (place_of texts b.key)) (sym (bundle_row_key_numbers r m c found.1)) ∙ among) in
      let keys : c.key ≡ b.key = same_Some c.key b.key (sym (text_found texts c.key (bundle_key_there r m c found.1)) ∙ ap (slice_get texts) same ∙ text_found texts b.key (bundle_key_there r d b is)) in
      absurd (other (one_place r.bundles m d c b apart found.1 is keys))
]

one_found : (r : Rows) (d : ℕ) (b : BundleRow) → HasDistinctKeys r → slice_get r.bundles d ≡ Some b → bundles_among (bundle_nos r) (lists_with (row_key_numbers r) (place_of (table_texts r) b.key)) ≡ record { 0 = d } ∷ []
unfolding bundles_among first_with
one_found r d b apart is =
    let k = place_of (table_texts r) b.key in
    let within = slice_get_within r.bundles d b is in
    let own : is_among (list_at (row_key_numbers r) d) k ≡ true = ap (λ ns. is_among ns k) (bundle_row_key_numbers r d b is) ∙ or_left (k == k) false (eq-eqb k k refl) in
    ap distinct (lone_in_range (number_at (bundle_nos r)) (has (row_key_numbers r) k) d (record { 0 = d }) 0 (length (row_key_numbers r)) (λ m other among. no_other r d m b apart is other among) own (number_below r d within) (omega arith) (omega (arith, within, count_rows r)))

-- ---- several dependencies

kept_all : (b : BundleNo) (bs : List BundleNo) → list_any (λ c. c.0 == b.0) bs ≡ false → filter (λ c. not (c.0 == b.0)) bs ≡ bs
kept_all b [] out = refl
kept_all b (c ∷ bs) out =
    let parts = or_parts (c.0 == b.0) (list_any (λ c. c.0 == b.0) bs) out in
    let rest = kept_all b bs parts.1 in
    rw (parts.0, rest) refl

distinct_once : (bs : List BundleNo) → no_repeats bs ≡ true → distinct bs ≡ bs
distinct_once [] once = refl
distinct_once (b ∷ bs) once =
    let both = and_parts (not (list_any (λ c. c.0 == b.0) bs)) (no_repeats bs) once in
    let rest = distinct_once bs both.1 in
    rw rest (ap (λ cs. b ∷ cs) (kept_all b bs (not-true _ both.0)))

all_found : (r : Rows) (bs : List BundleNo) → are_bundles (length r.bundles) bs ≡ true → filter_map (number_at (bundle_nos r)) (map (λ (b : BundleNo). b.0) bs) ≡ bs
all_found r [] within = refl
all_found r (b ∷ bs) within =
    let both = and_parts (nat_lt b.0 (length r.bundles)) (are_bundles (length r.bundles) bs) within in
    let first = number_below r b.0 (ltb-true b.0 (length r.bundles) both.0) in
    let rest = all_found r bs both.1 in
    rw (first, rest) refl

several_found : (r : Rows) (bs : List BundleNo) → are_bundles (length r.bundles) bs ≡ true → no_repeats bs ≡ true → bundles_among (bundle_nos r) (map (λ (b : BundleNo). b.0) bs) ≡ bs
unfolding bundles_among
several_found r bs within once = ap distinct (all_found r bs within) ∙ distinct_once bs once

-- the list of several dependencies is one of the lists
kept_there : (p : List ℕ → Bool) (ts : List (List ℕ)) (t : List ℕ) → list_any (λ u. bytes_eq u t) ts ≡ true → p t ≡ true → list_any (λ u. bytes_eq u t) (filter p ts) ≡ true
kept_there p [] t there passes = there
kept_there p (u ∷ ts) t there passes = by_tests (p u) (bytes_eq u t) refl refl (kept_there p ts t)
  where
    by_tests : (kept here : Bool) → p u ≡ kept → bytes_eq u t ≡ here → (list_any (λ u. bytes_eq u t) ts ≡ true → p t ≡ true → list_any (λ u. bytes_eq u t) (filter p ts) ≡ true) → list_any (λ u. bytes_eq u t) (filter p (u ∷ ts)) ≡ true
    by_tests true true is same rest = rw (is, same) refl
    by_tests true false is other rest = let later = rest (rw other at there) passes in rw (is, other) later
    by_tests false true is same rest = absurd (false≢true (sym is ∙ ap p (same_texts u t same) ∙ passes))
    by_tests false false is other rest = let later = rest (rw other at there) passes in rw is later

list_there : (r : Rows) (i : ℕ) (a : AssetRow) → slice_get r.assets i ≡ Some a → is_several (dep_numbers a) ≡ true → list_any (λ u. bytes_eq u (dep_numbers a)) (dep_lists r) ≡ true
unfolding dep_lists
list_there r i a is several =
    any-texts_once (dep_numbers a) (filter is_several (map dep_numbers r.assets)) ∙ kept_there is_several (map dep_numbers r.assets) (dep_numbers a) (mapped_there dep_numbers r.assets i a is) several

-- ---- the dependencies of a row

deps_by : (r : Rows) (bs : List BundleNo) → HasDistinctKeys r → has_dep bs ≡ true → are_bundles (length r.bundles) bs ≡ true → no_repeats bs ≡ true
    → (is_several (map (λ (b : BundleNo). b.0) bs) ≡ true → list_any (λ u. bytes_eq u (map (λ (b : BundleNo). b.0) bs)) (dep_lists r) ≡ true)
    → dependencies (bundle_lists (table_rows r) (bundle_nos r)) (Some (dep_key r (map (λ (b : BundleNo). b.0) bs))) ≡ bs
unfolding dep_key
deps_by r [] apart some within once listed = absurd (false≢true some)
deps_by r (d ∷ []) apart some within once listed =
    let below = ltb-true d.0 (length r.bundles) (and_parts (nat_lt d.0 (length r.bundles)) true within).0 in
    let found = there_is r.bundles d.0 below in
    let b = found.0 in
    let k = place_of (table_texts r) b.key in
    let low = place_within (table_texts r) b.key (bundle_key_there r d.0 b found.1) in
    ap (λ n. dependencies (bundle_lists (table_rows r) (bundle_nos r)) (Some n)) (bundle_primary r d.0 b found.1)
    ∙ (from_bucket (bundle_nos r) (table_buckets r) k (lists_with (row_key_numbers r) k) (text_bucket r k low) ∙ one_found r d.0 b apart found.1)
deps_by r (d ∷ e ∷ ds) apart some within once listed =
    let ns = map (λ (b : BundleNo). b.0) (d ∷ e ∷ ds) in
    let at = list_bucket r (place_of (dep_lists r) ns) ns (text_found (dep_lists r) ns (listed (lt-ltb 1 (length ns) (omega arith)))) in
    from_bucket (bundle_nos r) (table_buckets r) (length (table_texts r) + place_of (dep_lists r) ns) ns at ∙ several_found r (d ∷ e ∷ ds) within once

pub all_pass : {X : Type 0} (p : X → Bool) (xs : List X) (n : ℕ) (x : X) → list_all p xs ≡ true → slice_get xs n ≡ Some x → p x ≡ true
all_pass p [] n x all is = absurd (none-some x is)
all_pass p (y ∷ ys) zero x all is = ap p (sym (same_Some y x is)) ∙ (and_parts (p y) (list_all p ys) all).0
all_pass p (y ∷ ys) (suc n) x all is = all_pass p ys n x (and_parts (p y) (list_all p ys) all).1 is

pub sound_deps : (r : Rows) (i : ℕ) (a : AssetRow) → AreRows r → slice_get r.assets i ≡ Some a → has_sound_deps (length r.bundles) a.deps ≡ true
sound_deps r i a are is = all_pass (λ (a : AssetRow). has_sound_deps (length r.bundles) a.deps) r.assets i a are.deps is

pub deps_back : (r : Rows) (i : ℕ) (a : AssetRow) → AreRows r → HasDistinctKeys r → slice_get r.assets i ≡ Some a → dependencies (bundle_lists (table_rows r) (bundle_nos r)) (Some (dep_key r (dep_numbers a))) ≡ a.deps
deps_back r i a are apart is =
    let sound = sound_deps r i a are is in
    let parts = and_parts _ (no_repeats a.deps) sound in
    let front = and_parts (has_dep a.deps) (are_bundles (length r.bundles) a.deps) parts.0 in
    deps_by r a.deps apart front.0 front.1 parts.1 (list_there r i a is)
