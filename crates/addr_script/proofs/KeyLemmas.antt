-- A field of keys is cut at its commas into the tokens of the keys.
use Rattle.std.proofs.Common.{◌≡◌, ◌≢◌, ◌==◌, ℕ, List, [], length, ◌∷◌, ◌++◌, true, false, refl, arith, ap, sym, subst, append_assoc, ◌∙◌, map, None}
use Rattle.std.proofs.lemmas.Bool.Decides.{nat_tests}
use Rattle.std.proofs.lemmas.List.Sums.{list_all-from_AllPass}
use Rattle.std.proofs.lemmas.List.Splits.{join_with_byte-slice_split}
use Rattle.std.proofs.lemmas.List.{map-append, length-map}
use Rattle.std.specs.List.{onto_first, slice_split, list_all, AllByRecursion, join_with_byte}
use Rattle.std.specs.Str.{IsUtf8}
use Rattle.addr_base.specs.Tokens.{token_of, is_token_byte, ReadsToken}
use Rattle.addr_base.proofs.TokenLemmas.{token_bytes_stand}
use Rattle.addr_script.specs.Commands.{asked_keys_field, AreTexts}
use Rattle.addr_fields.specs.Fields.{has_byte, IsCut}

abbrev pub pieces : List ℕ → List (List ℕ)
pieces field = slice_split (λ b. b == 44) field

pieces_first : (before after : List ℕ) → has_byte 44 before ≡ false → pieces (before ++ 44 ∷ after) ≡ before ∷ pieces after
pieces_first [] after free = refl
pieces_first (b ∷ before) after free =
    let here : (b == 44) ≡ false = grind (arith, nat_tests) in
    let rest : has_byte 44 before ≡ false = grind (arith, nat_tests) in
    rw here (ap (onto_first b) (pieces_first before after rest))

pub pieces_of_cut : (field before after : List ℕ) → IsCut 44 field before after → pieces field ≡ before ∷ pieces after
pieces_of_cut field before after cut = ap pieces cut.whole ∙ pieces_first before after cut.first

pub one_piece : (field : List ℕ) → has_byte 44 field ≡ false → pieces field ≡ field ∷ []
one_piece [] free = refl
one_piece (b ∷ field) free =
    let here : (b == 44) ≡ false = grind (arith, nat_tests) in
    let rest : has_byte 44 field ≡ false = grind (arith, nat_tests) in
    rw here (ap (onto_first b) (one_piece field rest))

free_of_comma : (bytes : List ℕ) → list_all is_token_byte bytes ≡ true → has_byte 44 bytes ≡ false
free_of_comma [] all = refl
free_of_comma (b ∷ bytes) all =
    let rest : list_all is_token_byte bytes ≡ true = grind (arith, nat_tests) in
    let more = free_of_comma bytes rest in grind (arith, nat_tests, more)

token_is_free : (text : List ℕ) → IsUtf8 text → has_byte 44 (token_of text) ≡ false
token_is_free text utf8 = free_of_comma (token_of text) (list_all-from_AllPass is_token_byte (token_of text) (token_bytes_stand text utf8))

keys_pieces : (key : List ℕ) (keys : List (List ℕ)) → AllByRecursion IsUtf8 (key ∷ keys) → pieces (asked_keys_field (key ∷ keys)) ≡ map token_of (key ∷ keys)
keys_pieces key [] all = one_piece (token_of key) (token_is_free key all.0)
keys_pieces key (next ∷ keys) all = pieces_first (token_of key) (asked_keys_field (next ∷ keys)) (token_is_free key all.0) ∙ ap (λ rest. token_of key ∷ rest) (keys_pieces next keys all.1)

pub pieces_of_keys : (field : List ℕ) (keys : List (List ℕ)) → AreTexts keys → field ≡ asked_keys_field keys → pieces field ≡ map token_of keys
pieces_of_keys field [] are e = absurd (are.0 refl)
pieces_of_keys field (key ∷ keys) are e = ap pieces e ∙ keys_pieces key keys are.1

pub field_of_pieces : (field : List ℕ) (keys : List (List ℕ)) → pieces field ≡ map token_of keys → field ≡ asked_keys_field keys
field_of_pieces field keys e = sym (join_with_byte-slice_split 44 field) ∙ ap (join_with_byte 44) e

-- of an image that has a piece, that piece is the image of an element
pub image_at : {A : Type 0} (f : A → List ℕ) (P : A → Type 0) (xs : List A) → AllByRecursion P xs → (before : List (List ℕ)) (piece : List ℕ) (after : List (List ℕ)) → map f xs ≡ before ++ piece ∷ after → (x : A) × P x × (piece ≡ f x)
image_at f P [] all [] piece after e = cc
image_at f P [] all (b ∷ before) piece after e = cc
image_at f P (x ∷ xs) all [] piece after e = (x, all.0, cc)
image_at f P (x ∷ xs) all (b ∷ before) piece after e = image_at f P xs all.1 before piece after (cc)

pub each_push : {A : Type 0} (P : A → Type 0) (xs : List A) (x : A) → AllByRecursion P xs → P x → AllByRecursion P (xs ++ x ∷ [])
each_push P [] x all here = (here, tt)
each_push P (y ∷ xs) x all here = (all.0, each_push P xs x all.1 here)

pub push_filled : {A : Type 0} (xs : List A) (x : A) → xs ++ x ∷ [] ≢ []
push_filled [] x e = cc
push_filled (y ∷ xs) x e = cc

-- a piece that is no token is in no list of keys
pub no_keys : (field : List ℕ) (before : List (List ℕ)) (piece : List ℕ) (after : List (List ℕ)) → pieces field ≡ before ++ piece ∷ after → ReadsToken piece None → (keys : List (List ℕ)) → AreTexts keys → field ≡ asked_keys_field keys → ⊥
no_keys field before piece after split wrong keys are e =
    let found = image_at token_of IsUtf8 keys are.1 before piece after (sym (pieces_of_keys field keys are e) ∙ split) in
    wrong found.0 found.1 found.2

-- one more key
pub key_step : (field : List ℕ) (keys : List (List ℕ)) (rest token after key : List ℕ) (now : List (List ℕ)) → pieces field ≡ map token_of keys ++ pieces rest → AllByRecursion IsUtf8 keys → IsCut 44 rest token after → IsUtf8 key × (token ≡ token_of key) → now ≡ keys ++ key ∷ [] → (pieces field ≡ map token_of now ++ pieces after) × AllByRecursion IsUtf8 now
key_step field keys rest token after key now cut each at key_is pushed =
    let first : pieces rest ≡ token_of key ∷ pieces after = pieces_of_cut rest token after at ∙ ap (λ t. t ∷ pieces after) key_is.1 in
    let more : map token_of now ≡ map token_of keys ++ token_of key ∷ [] = ap (map token_of) pushed ∙ map-append token_of keys (key ∷ []) in
    let whole : pieces field ≡ map token_of keys ++ token_of key ∷ pieces after = cut ∙ ap (λ r. map token_of keys ++ r) first in
    let P : List (List ℕ) → Type 0 = λ ks. AllByRecursion IsUtf8 ks in
    (whole ∙ sym (append_assoc (map token_of keys) (token_of key ∷ []) (pieces after)) ∙ ap (λ m. m ++ pieces after) (sym more), subst P (sym pushed) (each_push IsUtf8 keys key each key_is.0))

-- the last key
pub key_end : (field : List ℕ) (keys : List (List ℕ)) (rest key : List ℕ) (now : List (List ℕ)) → pieces field ≡ map token_of keys ++ pieces rest → AllByRecursion IsUtf8 keys → has_byte 44 rest ≡ false → IsUtf8 key × (rest ≡ token_of key) → now ≡ keys ++ key ∷ [] → AreTexts now × (field ≡ asked_keys_field now)
key_end field keys rest key now cut each free key_is pushed =
    let first : pieces rest ≡ token_of key ∷ [] = one_piece rest free ∙ ap (λ t. t ∷ []) key_is.1 in
    let more : map token_of now ≡ map token_of keys ++ token_of key ∷ [] = ap (map token_of) pushed ∙ map-append token_of keys (key ∷ []) in
    let whole : pieces field ≡ map token_of now = cut ∙ ap (λ r. map token_of keys ++ r) first ∙ sym more in
    let P : List (List ℕ) → Type 0 = λ ks. AreTexts ks in
    (subst P (sym pushed) (push_filled keys key, each_push IsUtf8 keys key each key_is.0), field_of_pieces field now whole)

-- two lists of keys that spell one field are equally long
pub same_count : (field : List ℕ) (keys other : List (List ℕ)) → AreTexts keys → field ≡ asked_keys_field keys → AreTexts other → field ≡ asked_keys_field other → length keys ≡ length other
same_count field keys other are e are_other e_other =
    let same : map token_of keys ≡ map token_of other = sym (pieces_of_keys field keys are e) ∙ pieces_of_keys field other are_other e_other in
    sym (length-map keys token_of) ∙ ap length same ∙ length-map other token_of
