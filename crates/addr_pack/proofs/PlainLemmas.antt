-- Names are of letters, digits, `-`, `~` and `_`, where what they are made of is bytes.
use Rattle.std.proofs.Common.{◌≡◌, ℕ, zero, suc, ◌+◌, ◌<◌, ◌/◌, ◌%◌, ◌||◌, ◌&&◌, ◌==◌, Bool, true, false, List, [], ◌∷◌, ◌++◌, codes, length, get_or, take, refl, sym, ap, subst, ◌∙◌, arith}
use Rattle.std.proofs.lemmas.Bool.Decides.{nat_tests}
use Rattle.std.proofs.lemmas.Bool.{and_parts}
use Rattle.std.proofs.lemmas.List.{take_more}
use Rattle.std.proofs.lemmas.Str.{IsUtf8-from_ascii}
use Rattle.std.proofs.lemmas.Str.Ascii.{IsAscii-nil, IsAscii-cons}
use Rattle.std.specs.Prelude.{slice_index}
use Rattle.std.specs.Str.{IsAscii}
use Rattle.hex.specs.Hex.{IsBytes, encode_with, lower_digits}
use Rattle.addr_base.specs.Escapes.{escaped, escaped_byte, hex_digit, is_name_byte}
use Rattle.addr_base.specs.Ids.{Are16Bytes, hex_of}
use Rattle.addr_base.specs.declared.ids.Guid.{Guid}
use Rattle.addr_project.specs.Kept.{IsKept}
use Rattle.addr_project.specs.Model.{Project}
use Rattle.addr_project.specs.declared.model.Asset.{Asset}
use Rattle.addr_project.specs.declared.model.Group.{Group}
use Rattle.addr_project.specs.declared.model.Mode.{Mode}
use Rattle.addr_project.specs.declared.model.Mode.TheVariants.{Together, Separate, Label}
use Rattle.addr_walks.specs.Places.{EachAt}
use Rattle.addr_walks.proofs.Lists.{EachAt-push}
use Rattle.addr_pack.specs.BundleNames.{ArePlain, is_plain}
use Rattle.addr_pack.specs.Laws.{PlainNames}
use Rattle.addr_pack.specs.Naming.{ending, name_of, spelled}
use Rattle.addr_pack.proofs.BundleLemmas.{bundle_named}
use Rattle.addr_pack.proofs.ListLemmas.{holds_at}

-- what holds of each of the first elements, and of one more
pub more-at : {X : Type 0} (fits : ℕ → X → Type 0) (xs : List X) (i : ℕ) (x : X) → i < length xs → get_or xs i x ≡ x → ((k : ℕ) → fits k x) → EachAt fits (take i xs) → EachAt fits (take (i + 1) xs)
more-at fits xs i x small at here before =
    let grown : take (i + 1) xs ≡ take i xs ++ x ∷ [] = take_more xs i x small ∙ ap (λ y. take i xs ++ y ∷ []) at in
    subst (EachAt fits) (sym grown) (EachAt-push fits (take i xs) x before (here (length (take i xs))))

plain-append : (xs ys : List ℕ) → ArePlain xs → ArePlain ys → ArePlain (xs ++ ys)
plain-append [] ys left right = right
plain-append (x ∷ xs) ys (first, rest) right = (first, plain-append xs ys rest right)

-- the test of a text's bytes, which computes
abbrev all_plain : List ℕ → Bool
all_plain [] = true
all_plain (b ∷ bs) = is_plain b && all_plain bs

plain-test : (bs : List ℕ) → all_plain bs ≡ true → ArePlain bs
plain-test [] passed = tt
plain-test (b ∷ bs) passed = let parts = and_parts (is_plain b) (all_plain bs) passed in (parts.0, plain-test bs parts.1)

escape-digit : (n : ℕ) → n < 16 → is_plain (hex_digit n) ≡ true
escape-digit zero small = refl
escape-digit (suc zero) small = refl
escape-digit (suc (suc zero)) small = refl
escape-digit (suc (suc (suc zero))) small = refl
escape-digit (suc (suc (suc (suc zero)))) small = refl
escape-digit (suc (suc (suc (suc (suc zero))))) small = refl
escape-digit (suc (suc (suc (suc (suc (suc zero)))))) small = refl
escape-digit (suc (suc (suc (suc (suc (suc (suc zero))))))) small = refl
escape-digit (suc (suc (suc (suc (suc (suc (suc (suc zero)))))))) small = refl
escape-digit (suc (suc (suc (suc (suc (suc (suc (suc (suc zero))))))))) small = refl
escape-digit (suc (suc (suc (suc (suc (suc (suc (suc (suc (suc zero)))))))))) small = refl
escape-digit (suc (suc (suc (suc (suc (suc (suc (suc (suc (suc (suc zero))))))))))) small = refl
escape-digit (suc (suc (suc (suc (suc (suc (suc (suc (suc (suc (suc (suc zero)))))))))))) small = refl
escape-digit (suc (suc (suc (suc (suc (suc (suc (suc (suc (suc (suc (suc (suc zero))))))))))))) small = refl
escape-digit (suc (suc (suc (suc (suc (suc (suc (suc (suc (suc (suc (suc (suc (suc zero)))))))))))))) small = refl
escape-digit (suc (suc (suc (suc (suc (suc (suc (suc (suc (suc (suc (suc (suc (suc (suc zero))))))))))))))) small = refl
escape-digit (suc (suc (suc (suc (suc (suc (suc (suc (suc (suc (suc (suc (suc (suc (suc (suc n)))))))))))))))) small = absurd (omega arith)

guid-digit : (n : ℕ) → n < 16 → is_plain (slice_index lower_digits n) ≡ true
guid-digit zero small = refl
guid-digit (suc zero) small = refl
guid-digit (suc (suc zero)) small = refl
guid-digit (suc (suc (suc zero))) small = refl
guid-digit (suc (suc (suc (suc zero)))) small = refl
guid-digit (suc (suc (suc (suc (suc zero))))) small = refl
guid-digit (suc (suc (suc (suc (suc (suc zero)))))) small = refl
guid-digit (suc (suc (suc (suc (suc (suc (suc zero))))))) small = refl
guid-digit (suc (suc (suc (suc (suc (suc (suc (suc zero)))))))) small = refl
guid-digit (suc (suc (suc (suc (suc (suc (suc (suc (suc zero))))))))) small = refl
guid-digit (suc (suc (suc (suc (suc (suc (suc (suc (suc (suc zero)))))))))) small = refl
guid-digit (suc (suc (suc (suc (suc (suc (suc (suc (suc (suc (suc zero))))))))))) small = refl
guid-digit (suc (suc (suc (suc (suc (suc (suc (suc (suc (suc (suc (suc zero)))))))))))) small = refl
guid-digit (suc (suc (suc (suc (suc (suc (suc (suc (suc (suc (suc (suc (suc zero))))))))))))) small = refl
guid-digit (suc (suc (suc (suc (suc (suc (suc (suc (suc (suc (suc (suc (suc (suc zero)))))))))))))) small = refl
guid-digit (suc (suc (suc (suc (suc (suc (suc (suc (suc (suc (suc (suc (suc (suc (suc zero))))))))))))))) small = refl
guid-digit (suc (suc (suc (suc (suc (suc (suc (suc (suc (suc (suc (suc (suc (suc (suc (suc n)))))))))))))))) small = absurd (omega arith)

or-plain : (a b : Bool) → a ≡ true → (a || b) ≡ true
or-plain a b is = rw is refl

byte-plain : (b : ℕ) → b < 256 → ArePlain (escaped_byte b)
unfolding escaped_byte
byte-plain b small = by_test (is_name_byte b) refl
  where
    by_test : (t : Bool) → is_name_byte b ≡ t → ArePlain (escaped_byte b)
    by_test true is = rw is (or-plain (is_name_byte b) (b == 126 || b == 95) is, tt)
    by_test false is = rw is (refl, (escape-digit (b / 16) (omega arith), (escape-digit (b % 16) (omega arith), tt)))

escaped-plain : (text : List ℕ) → IsBytes text → ArePlain (escaped text)
escaped-plain [] are = tt
escaped-plain (b ∷ text) are = plain-append (escaped_byte b) (escaped text) (byte-plain b (are 0)) (escaped-plain text (λ i. are (suc i)))

hex-plain : (bytes : List ℕ) → IsBytes bytes → ArePlain (hex_of bytes)
unfolding encode_with
hex-plain [] are = tt
hex-plain (b ∷ bytes) are =
    let small : b < 256 = are 0 in
    (guid-digit (b / 16) (omega arith), (guid-digit (b % 16) (omega arith), hex-plain bytes (λ i. are (suc i))))

labels-plain : (labels : List (List ℕ)) → EachAt (λ k label. IsBytes label) labels → ArePlain (spelled labels)
labels-plain [] are = tt
labels-plain (label ∷ labels) are = (refl, plain-append (escaped label) (spelled labels) (escaped-plain label (are 0 label refl)) (labels-plain labels (λ k x at. are (suc k) x at)))

ending-plain : (mode : Mode) (guid : Guid) (labels : List (List ℕ)) → IsBytes guid.0 → EachAt (λ k label. IsBytes label) labels → ArePlain (ending mode guid labels)
ending-plain Together guid labels digits are = plain-test (codes "_assets_all") refl
ending-plain Separate guid labels digits are = plain-append (codes "_assets_") (hex_of guid.0) (plain-test (codes "_assets_") refl) (hex-plain guid.0 digits)
ending-plain Label guid labels digits are = plain-append (codes "_labels") (spelled labels) (plain-test (codes "_labels") refl) (labels-plain labels are)

name-plain : (g : Group) (guid : Guid) (labels : List (List ℕ)) → IsBytes g.name → IsBytes guid.0 → EachAt (λ k label. IsBytes label) labels → ArePlain (name_of g guid labels)
unfolding name_of
name-plain g guid labels name digits are = plain-append (escaped g.name) (ending g.mode guid labels) (escaped-plain g.name name) (ending-plain g.mode guid labels digits are)

below : (b : ℕ) → is_plain b ≡ true → b < 128
below b is = grind (arith, nat_tests)

plain-ascii : (bs : List ℕ) → ArePlain bs → IsAscii bs
plain-ascii [] all = IsAscii-nil
plain-ascii (b ∷ bs) (first, rest) = IsAscii-cons b bs (below b first) (plain-ascii bs rest)

pub plain_names : (p : Project) → IsKept p → EachAt (λ i group. IsBytes group.name) p.groups → EachAt (λ i entry. EachAt (λ k label. IsBytes label) entry.labels) p.entries → PlainNames p
plain_names p kept groups entries plan placed b bundle at =
    let (x, (e, is, number, (a, g, asset, group, name))) = bundle_named p plan placed b bundle at in
    let guid = holds_at (λ (a : Asset). Are16Bytes a.guid.0) p.assets e.asset a kept.guids asset in
    let plain = subst ArePlain (sym name) (name-plain g a.guid e.labels (groups e.group g group) guid.small (entries x e is)) in
    record { plain = plain; utf8 = IsUtf8-from_ascii bundle.name (plain-ascii bundle.name plain) }
