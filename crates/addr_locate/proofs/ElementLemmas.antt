-- The elements of the lists in a row: bundle numbers and keys, each spelled in one way and without a comma.
use Rattle.std.proofs.Common.{not, ℕ, ◌≡◌, ◌==◌, ◌<◌, ◌^◌, true, false, List, [], ◌∷◌, refl, ap, arith, decimal, codes, map}
use Rattle.std.specs.List.{AllByRecursion, list_all}
use Rattle.std.specs.Str.{IsUtf8}
use Rattle.std.proofs.lemmas.Bool.Decides.{nat_tests}
use Rattle.std.proofs.lemmas.Fmt.{decimal_injective}
use Rattle.addr_base.specs.Tokens.{token_of, is_token_byte}
use Rattle.addr_base.specs.declared.ids.BundleNo.{BundleNo}
use Rattle.addr_fields.specs.Fields.{has_byte}
use Rattle.addr_locate.specs.PlainFields.{IsSmall, AreNumbers, AreTokens}
use Rattle.addr_locate.specs.PlainRows.{deps_field, keys_field}
use Rattle.addr_locate.specs.Rows.{are_bundles, has_sound_deps}
use Rattle.addr_fields.proofs.NumberLemmas.{decimal_is_free}
use Rattle.addr_locate.proofs.FieldLemmas.{join_free, token_free}

pub number_free : (b : BundleNo) → IsSmall b → has_byte 44 (decimal b.0) ≡ false
number_free b small = decimal_is_free 44 b.0 (omega arith) (omega (arith, small))

pub number_own : (a b : BundleNo) → IsSmall a → IsSmall b → decimal a.0 ≡ decimal b.0 → a ≡ b
number_own a b small_a small_b e = ap {B = BundleNo} (λ (n : ℕ). record { 0 = n }) (decimal_injective a.0 b.0 (omega (arith, small_a)) (omega (arith, small_b)) e)

bundles_small : (count : ℕ) → count < 2 ^ 32 → (deps : List BundleNo) → are_bundles count deps ≡ true → AllByRecursion IsSmall deps
bundles_small count few [] all = tt
bundles_small count few (b ∷ deps) all =
    let here : b.0 < count = grind (arith, nat_tests) in
    let rest : are_bundles count deps ≡ true = grind (arith, nat_tests) in
    (omega (arith, here, few), bundles_small count few deps rest)

pub sound_numbers : (count : ℕ) → count < 2 ^ 32 → (field : List ℕ) (deps : List BundleNo) → has_sound_deps count deps ≡ true → field ≡ deps_field deps → AreNumbers field deps
sound_numbers count few field [] sound e = cc
sound_numbers count few field (b ∷ deps) sound e =
    let all : are_bundles count (b ∷ deps) ≡ true = grind (arith, nat_tests) in
    ((λ empty. cc), bundles_small count few (b ∷ deps) all, e)

pub keys_tokens : (field : List ℕ) (keys : List (List ℕ)) → (field ≡ codes "%-" → ⊥) → AllByRecursion IsUtf8 keys → field ≡ keys_field keys → AreTokens field keys
keys_tokens field [] other all e = absurd (other e)
keys_tokens field (key ∷ keys) other all e = ((λ empty. cc), all, e)

pub tokens_keys : (field : List ℕ) (keys : List (List ℕ)) → AreTokens field keys → field ≡ keys_field keys
tokens_keys field [] are = absurd (are.0 refl)
tokens_keys field (key ∷ keys) are = are.2

numbers_free : (mark : ℕ) → mark < 48 → (deps : List BundleNo) → AllByRecursion IsSmall deps → list_all (λ p. not (has_byte mark p)) (map (λ (b : BundleNo). decimal b.0) deps) ≡ true
numbers_free mark low [] small = refl
numbers_free mark low (b ∷ deps) small = rw (decimal_is_free mark b.0 low (omega (arith, small.0)), numbers_free mark low deps small.1)

pub deps_free_of : (mark : ℕ) → mark < 48 → (44 == mark) ≡ false → (count : ℕ) → count < 2 ^ 32 → (deps : List BundleNo) → has_sound_deps count deps ≡ true → has_byte mark (deps_field deps) ≡ false
deps_free_of mark low other count few deps sound = join_free mark (map (λ (b : BundleNo). decimal b.0) deps) other (numbers_free mark low deps (sound_numbers count few (deps_field deps) deps sound refl).1)

pub deps_free : (count : ℕ) → count < 2 ^ 32 → (deps : List BundleNo) → has_sound_deps count deps ≡ true → has_byte 32 (deps_field deps) ≡ false
deps_free = deps_free_of 32 (omega arith) refl

tokens_free : (mark : ℕ) → is_token_byte mark ≡ false → (keys : List (List ℕ)) → AllByRecursion IsUtf8 keys → list_all (λ p. not (has_byte mark p)) (map token_of keys) ≡ true
tokens_free mark no_byte [] all = refl
tokens_free mark no_byte (key ∷ keys) all = rw (token_free mark no_byte key all.0, tokens_free mark no_byte keys all.1)

pub keys_free_of_end : (keys : List (List ℕ)) → AllByRecursion IsUtf8 keys → has_byte 10 (keys_field keys) ≡ false
keys_free_of_end [] all = refl
keys_free_of_end (key ∷ keys) all = join_free 10 (map token_of (key ∷ keys)) refl (tokens_free 10 refl (key ∷ keys) all)
