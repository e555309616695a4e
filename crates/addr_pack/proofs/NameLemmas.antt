-- Names are equal only where the group's names and the endings are, and endings only where what they spell is.
use Rattle.std.proofs.Common.{◌≡◌, ℕ, suc, ◌⊎◌, List, [], ◌∷◌, ◌++◌, refl, inl, inr, arith}
use Rattle.std.specs.List.{Contains}
use Rattle.addr_base.specs.Escapes.{escaped}
use Rattle.addr_base.specs.Ids.{Are16Bytes, hex_of}
use Rattle.addr_base.specs.declared.ids.Guid.{Guid}
use Rattle.addr_project.specs.declared.model.Group.{Group}
use Rattle.addr_project.specs.declared.model.Mode.{Mode}
use Rattle.addr_project.specs.declared.model.Mode.TheVariants.{Together, Separate, Label}
use Rattle.addr_base.proofs.EscapeLemmas.{escaped-injective, without_underscore}
use Rattle.addr_base.proofs.HexLemmas.{decoded_same, spelled_decodes}
use Rattle.addr_pack.specs.Naming.{spelled, ending, name_of}

-- nothing follows, or what follows begins with an underscore
abbrev Begins : List ℕ → Type 0
Begins rest = (rest ≡ []) ⊎ ((more : List ℕ) × (rest ≡ 95 ∷ more))

-- two lists that have no underscore end at the same place
cut : (a b r s : List ℕ) → (Contains a 95 → ⊥) → (Contains b 95 → ⊥) → Begins r → Begins s → a ++ r ≡ b ++ s → (a ≡ b) × (r ≡ s)
cut [] [] r s na nb br bs same = (refl, same)
cut [] (y ∷ b) r s na nb (inl none) bs same = absurd (cc)
cut [] (y ∷ b) r s na nb (inr (more, is)) bs same =
    let head : y ≡ 95 = cc in
    absurd (nb (0, omega arith, head))
cut (x ∷ a) [] r s na nb br (inl none) same = absurd (cc)
cut (x ∷ a) [] r s na nb br (inr (more, is)) same =
    let head : x ≡ 95 = cc in
    absurd (na (0, omega arith, head))
cut (x ∷ a) (y ∷ b) r s na nb br bs same =
    let head : x ≡ y = cc in
    let tail : a ++ r ≡ b ++ s = cc in
    let both = cut a b r s (λ (k, small, is). na (suc k, omega arith, is)) (λ (k, small, is). nb (suc k, omega arith, is)) br bs tail in
    ((λ i. head i ∷ both.0 i), both.1)

-- escaped texts end at the first underscore
pub texts_apart : (a b r s : List ℕ) → Begins r → Begins s → escaped a ++ r ≡ escaped b ++ s → (a ≡ b) × (r ≡ s)
texts_apart a b r s br bs same =
    let both = cut (escaped a) (escaped b) r s (without_underscore a) (without_underscore b) br bs same in
    (escaped-injective a b both.0, both.1)

begins_spelled : (labels : List (List ℕ)) → Begins (spelled labels)
begins_spelled [] = inl refl
begins_spelled (label ∷ labels) = inr (escaped label ++ spelled labels, refl)

pub labels_apart : (a b : List (List ℕ)) → spelled a ≡ spelled b → a ≡ b
labels_apart [] [] same = refl
labels_apart [] (y ∷ b) same = absurd (cc)
labels_apart (x ∷ a) [] same = absurd (cc)
labels_apart (x ∷ a) (y ∷ b) same =
    let tail : escaped x ++ spelled a ≡ escaped y ++ spelled b = cc in
    let both = texts_apart x y (spelled a) (spelled b) (begins_spelled a) (begins_spelled b) tail in
    let rest = labels_apart a b both.1 in
    λ i. both.0 i ∷ rest i

pub digits_apart : (a b : List ℕ) → Are16Bytes a → Are16Bytes b → hex_of a ≡ hex_of b → a ≡ b
digits_apart a b are other same = decoded_same (hex_of a) a b (spelled_decodes (hex_of a) a are refl) other same

begins_ending : (mode : Mode) (guid : Guid) (labels : List (List ℕ)) → Begins (ending mode guid labels)
begins_ending Together guid labels = inr (_, refl)
begins_ending Separate guid labels = inr (_, refl)
begins_ending Label guid labels = inr (_, refl)

-- equal names are of groups with one name, and have one ending
pub names_apart : (g h : Group) (guid other : Guid) (labels more : List (List ℕ)) → name_of g guid labels ≡ name_of h other more → (g.name ≡ h.name) × (ending g.mode guid labels ≡ ending h.mode other more)
unfolding name_of
names_apart g h guid other labels more same =
    texts_apart g.name h.name (ending g.mode guid labels) (ending h.mode other more) (begins_ending g.mode guid labels) (begins_ending h.mode other more) same
