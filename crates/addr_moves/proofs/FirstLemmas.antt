-- The first of each text: one more text, which is new or is there.
use Rattle.std.proofs.Common.{◌≡◌, ◌<◌, ◌+◌, ◌⊎◌, inl, inr, ℕ, Bool, true, false, cond, List, [], ◌∷◌, ◌++◌, length, get_or, map, take, Option, Some, None, Bor, BTreeMap, is_some, nat_cmp, refl, sym, ap, subst, ◌∙◌, arith}
use Rattle.std.proofs.lemmas.Bool.{false≢true}
use Rattle.std.proofs.lemmas.List.{map-append, take_more}
use Rattle.std.proofs.lemmas.List.Elements.{Contains-append_left, Contains-push, Contains-push_cases}
use Rattle.std.proofs.lemmas.Map.Text.{btree_map_updates_str}
use Rattle.std.proofs.lemmas.Option.{slice_get_within}
use Rattle.std.specs.BTreeMap.{UpdatesBy, get_by}
use Rattle.std.specs.Cmp.Lexicographic.{slice_cmp, bytes_decides}
use Rattle.std.specs.List.{Contains, slice_get}
use Rattle.std.specs.Str.{bytes_eq}
use Rattle.addr_walks.proofs.Lists.{Contains-none, Contains-slice_get, slice_get-append_left, slice_get-push_cases, slice_get-push_last}
use Rattle.addr_moves.specs.Firsts.{AreFirsts, IsFirstAt, number_under}

-- a map with one more key has its number under it, and is else as it was
abbrev pub Puts : {X : Type 0} → (List ℕ → Option X) → List ℕ → X → (List ℕ → Option X) → Type 0
Puts old key value new = ((new key ≡ Some value)) × ((text : List ℕ) → (key ≡ text → ⊥) → new text ≡ old text)

pub puts-from : {X : Type 0} (key : List ℕ) (value : X) (m n : BTreeMap (Bor (List ℕ)) X) → UpdatesBy (λ x y. slice_cmp nat_cmp x.now y.now) (λ x. slice_cmp nat_cmp key x.now) m n (Some value)
    → Puts (λ text. get_by (λ k. slice_cmp nat_cmp text k.now) m) key value (λ text. get_by (λ k. slice_cmp nat_cmp text k.now) n)
puts-from key value m n updates = (
  btree_map_updates_str key m n (Some value) updates key ∙ ap (λ t. cond t (Some value) (get_by (λ k. slice_cmp nat_cmp key k.now) m)) ((bytes_decides key key).1 refl),
  λ text other. btree_map_updates_str key m n (Some value) updates text ∙ ap (λ t. cond t (Some value) (get_by (λ k. slice_cmp nat_cmp text k.now) m)) (differs text other (bytes_eq key text) refl),
)
  where
    differs : (text : List ℕ) → (key ≡ text → ⊥) → (t : Bool) → bytes_eq key text ≡ t → bytes_eq key text ≡ false
    differs text other true same = absurd (other ((bytes_decides key text).0 same))
    differs text other false is = is

-- two texts are the same or not
pub text-cases : (a b : List ℕ) → (a ≡ b) ⊎ (a ≡ b → ⊥)
text-cases a b = by_test (bytes_eq a b) refl
  where
    by_test : (t : Bool) → bytes_eq a b ≡ t → (a ≡ b) ⊎ (a ≡ b → ⊥)
    by_test true same = inl ((bytes_decides a b).0 same)
    by_test false is = inr (λ same. false≢true (sym is ∙ (bytes_decides a b).1 same))

pub firsts-none : (find : List ℕ → Option ℕ) → ((text : List ℕ) → find text ≡ None) → AreFirsts [] find
firsts-none find none text = subst (IsFirstAt [] text) (sym (none text)) (λ here. Contains-none text here)

-- one more text that is there
stays-first : (texts : List (List ℕ)) (key text : List ℕ) (n : ℕ) → IsFirstAt texts text (Some n) → IsFirstAt (texts ++ key ∷ []) text (Some n)
stays-first texts key text n (at, least) = (slice_get-append_left texts (key ∷ []) n text at, λ k less there. by_side k less (slice_get-push_cases texts key k text there))
  where
    by_side : (k : ℕ) → k < n → (slice_get texts k ≡ Some text) ⊎ ((k ≡ length texts) × (key ≡ text)) → ⊥
    by_side k less (inl old) = least k less old
    by_side k less (inr (last, same)) = let within = slice_get_within texts n text at in omega (arith, less, last)

none-more : (texts : List (List ℕ)) (key text : List ℕ) → IsFirstAt texts text None → (key ≡ text → ⊥) → IsFirstAt (texts ++ key ∷ []) text None
none-more texts key text none other here = by_side (Contains-push_cases texts key text here)
  where
    by_side : Contains texts text ⊎ (key ≡ text) → ⊥
    by_side (inl old) = none old
    by_side (inr same) = other same

other-first : (texts : List (List ℕ)) (key text : List ℕ) → (key ≡ text → ⊥) → (o : Option ℕ) → IsFirstAt texts text o → IsFirstAt (texts ++ key ∷ []) text o
other-first texts key text other None none = none-more texts key text none other
other-first texts key text other (Some n) first = stays-first texts key text n first

pub firsts-old : (texts : List (List ℕ)) (key : List ℕ) (find : List ℕ → Option ℕ) → is_some (find key) ≡ true → AreFirsts texts find → AreFirsts (texts ++ key ∷ []) find
firsts-old texts key find there firsts text = by_side (text-cases key text)
  where
    known : (o : Option ℕ) → is_some o ≡ true → IsFirstAt texts text o → IsFirstAt (texts ++ key ∷ []) text o
    known None is first = absurd (false≢true is)
    known (Some n) is first = stays-first texts key text n first

    by_side : (key ≡ text) ⊎ (key ≡ text → ⊥) → IsFirstAt (texts ++ key ∷ []) text (find text)
    by_side (inl same) = known (find text) (ap (λ t. is_some (find t)) (sym same) ∙ there) (firsts text)
    by_side (inr other) = other-first texts key text other (find text) (firsts text)

pub firsts-new : (texts : List (List ℕ)) (key : List ℕ) (find new : List ℕ → Option ℕ) → is_some (find key) ≡ false → Puts find key (length texts) new → AreFirsts texts find → AreFirsts (texts ++ key ∷ []) new
firsts-new texts key find new absent puts firsts text = by_side (text-cases key text)
  where
    none : (o : Option ℕ) → is_some o ≡ false → IsFirstAt texts key o → Contains texts key → ⊥
    none None is first = first
    none (Some n) is first = absurd (false≢true (sym is))

    own : IsFirstAt (texts ++ key ∷ []) key (Some (length texts))
    own = (slice_get-push_last texts key, λ k less there. by_place k less (slice_get-push_cases texts key k key there))
      where
        by_place : (k : ℕ) → k < length texts → (slice_get texts k ≡ Some key) ⊎ ((k ≡ length texts) × (key ≡ key)) → ⊥
        by_place k less (inl old) = none (find key) absent (firsts key) (Contains-slice_get texts k key old)
        by_place k less (inr (last, same)) = omega (arith, less, last)

    by_side : (key ≡ text) ⊎ (key ≡ text → ⊥) → IsFirstAt (texts ++ key ∷ []) text (new text)
    by_side (inl same) = subst (λ t. IsFirstAt (texts ++ key ∷ []) t (new t)) same (subst (IsFirstAt (texts ++ key ∷ []) key) (sym puts.0) own)
    by_side (inr other) = subst (IsFirstAt (texts ++ key ∷ []) text) (sym (puts.1 text other)) (other-first texts key text other (find text) (firsts text))

-- the keys of one more thing
pub keys-more : {T : Type 0} (key_of : T → List ℕ) (things : List T) (k : ℕ) (thing : T) (key : List ℕ) → k < length things → thing ≡ get_or things k thing → key ≡ key_of thing
    → map key_of (take (k + 1) things) ≡ map key_of (take k things) ++ key ∷ []
keys-more key_of things k thing key within read own =
    ap (map key_of) (take_more things k thing within ∙ ap (λ z. take k things ++ z ∷ []) (sym read))
    ∙ (map-append key_of (take k things) (thing ∷ []) ∙ ap (λ t. map key_of (take k things) ++ t ∷ []) (sym own))
