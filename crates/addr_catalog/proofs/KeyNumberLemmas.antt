-- How many keys there are and how they are listed, for `KeyNumbers::of`, `table_keys` and `table_buckets`.
use Rattle.std.proofs.Common.{ℕ, ◌≡◌, ◌+◌, ◌≤◌, ◌<◌, List, [], ◌∷◌, ◌++◌, length, map, Bor, refl, sym, ap, ◌∙◌, not, append_assoc, filter, ◌^◌, arith, length-append, ℤ, pos, to_z}
use Rattle.std.specs.List.{range_with_len}
use Rattle.std.proofs.lemmas.List.{length-map}
use Rattle.std.proofs.lemmas.List.Filters.{length-filter_both}
use Rattle.std.proofs.lemmas.List.FromFn.{length-map-range_with_len, map-range_with_len_more}
use Rattle.std.proofs.lemmas.Simd.{map-map}
use Rattle.std.proofs.lemmas.Int.{to_z_pos}
use mir.Syntax.{w32}
use Rattle.addr_catalog.specs.Inverted.{lists_with}
use Rattle.addr_keys.specs.declared.key.Key.{Key}
use Rattle.addr_keys.specs.declared.key.Key.TheVariants.{Text, I32}
use Rattle.addr_catalog.specs.Written.{table_texts, dep_lists, dep_numbers, is_several, row_key_numbers, table_keys, table_buckets}
use Rattle.addr_catalog.specs.Few.{AreFew}
use Rattle.addr_locate.specs.Rows.{Rows, texts_once}
use Rattle.addr_locate.specs.declared.rows.BundleRow.{BundleRow}
use Rattle.addr_locate.proofs.TextLemmas.{length-texts_once-le}

-- a bucket stands beside each key, and there are few
pub count_keys : (r : Rows) → length (table_keys r) ≡ length (table_texts r) + length (dep_lists r)
unfolding table_keys
count_keys r =
    let lists = length (dep_lists r) in
    let texts = length-map (table_texts r) Text in
    let numbers = length-map-range_with_len (λ n. I32 (pos (n + 1))) 0 lists in
    length-append (map Text (table_texts r)) (map (λ n. I32 (pos (n + 1))) (range_with_len 0 lists)) ∙ rw (texts, numbers) refl

pub paired : (r : Rows) → length (table_buckets r) ≡ length (table_keys r)
unfolding table_buckets table_keys
paired r =
    let texts = length (table_texts r) in
    let lists = length (dep_lists r) in
    let buckets = length-append (map (lists_with (row_key_numbers r)) (range_with_len 0 texts)) (dep_lists r) ∙ ap (λ n. n + lists) (length-map-range_with_len (lists_with (row_key_numbers r)) 0 texts) in
    buckets ∙ sym (count_keys r)

pub few_keys : (r : Rows) → AreFew r → length (table_texts r) + length (dep_lists r) < 2 ^ 30
unfolding table_texts dep_lists
few_keys r few =
    let front = map (λ (b : BundleRow). b.key) r.bundles in
    let lists = map dep_numbers r.assets in
    let texts = length-texts_once-le (front ++ r.keys) in
    let kept = length-texts_once-le (filter is_several lists) in
    omega (arith, few, texts, length-append front r.keys, length-map r.bundles (λ (b : BundleRow). b.key), kept, length-filter_both is_several (λ (ns : List ℕ). not (is_several ns)) (λ ns. refl) lists, length-map r.assets dep_numbers)

pub few_texts : (r : Rows) (texts : List (Bor (List ℕ))) → AreFew r → map (λ t. t.now) texts ≡ map (λ b. b.key) r.bundles ++ r.keys → length (texts_once (map (λ t. t.now) texts)) < 2 ^ 32
unfolding table_texts
few_texts r texts small are = let few = few_keys r small in let same = ap (λ ts. length (texts_once ts)) are in omega (arith, few, same)

pub few_lists : (r : Rows) (lists : List (Bor (List ℕ))) (deps : List (List ℕ)) → AreFew r → deps ≡ map dep_numbers r.assets → map (λ l. l.now) lists ≡ filter is_several deps → length (texts_once (map (λ l. l.now) lists)) < 2 ^ 32
unfolding dep_lists
few_lists r lists deps small listed are =
    let few = few_keys r small in
    let same = ap (λ ts. length (texts_once ts)) (are ∙ ap (filter is_several) listed) in
    omega (arith, few, same)

-- one more number for a list, and then all keys
pub number_put : (front keys new : List Key) (n : ℕ) (z : ℤ) → n + 1 < 2 ^ 31 → keys ≡ front ++ map (λ n. I32 (pos (n + 1))) (range_with_len 0 n) → z ≡ to_z w32 (n + 1) → new ≡ keys ++ I32 z ∷ [] → new ≡ front ++ map (λ n. I32 (pos (n + 1))) (range_with_len 0 (n + 1))
number_put front keys new n z small so_far is put =
    let last : z ≡ pos (n + 1) = is ∙ to_z_pos w32 (n + 1) small in
    let more = map-range_with_len_more (λ n. I32 (pos (n + 1))) 0 n n (omega arith) in
    put ∙ (rw (so_far, last) refl ∙ (append_assoc front (map (λ n. I32 (pos (n + 1))) (range_with_len 0 n)) (I32 (pos (n + 1)) ∷ []) ∙ ap (λ ks. front ++ ks) (sym more)))

pub all_keys : (r : Rows) (texts : List (Bor (List ℕ))) (keys : List Key) (count n : ℕ) → map (λ t. t.now) texts ≡ table_texts r → count ≡ length (dep_lists r) → n ≤ count → count ≤ n → keys ≡ map (λ t. Text t.now) texts ++ map (λ n. I32 (pos (n + 1))) (range_with_len 0 n) → keys ≡ table_keys r
unfolding table_keys
all_keys r texts keys count n are lists low high so_far =
    let same : n ≡ length (dep_lists r) = omega (arith, lists) in
    let front : map (λ (t : Bor (List ℕ)). Text t.now) texts ≡ map Text (table_texts r) = sym (map-map Text (λ (t : Bor (List ℕ)). t.now) texts) ∙ ap (map Text) are in
    so_far ∙ rw (same, front) refl
