-- Tables that keep the members of some names, name by name.
use Rattle.std.proofs.Common.{◌≡◌, ℕ, Bool, true, false, ◌||◌, cond, List, [], ◌∷◌, ◌++◌, Option, Some, None, IfSome, refl, sym, ap, subst, ◌∙◌}
use Rattle.std.proofs.lemmas.List.Folds.{list_any-append}
use Rattle.std.specs.Cmp.Lexicographic.{bytes_decides}
use Rattle.std.specs.Str.{bytes_eq}
use Rattle.toml.specs.Data.{Data, Members, no_members, get_member}
use Rattle.addr_project_rows.specs.Firsts.{is_among}
use Rattle.addr_isolate.specs.Document.{Keeps}
use Rattle.addr_isolate.specs.Shallow.{AreShallow, AreShallowAt, IsSetIf, IsShallow}

or-false : (b : Bool) → (b || false) ≡ b
or-false true = refl
or-false false = refl

or-true : (b : Bool) → (b || true) ≡ true
or-true true = refl
or-true false = refl

among-more : (names : List (List ℕ)) (name key : List ℕ) (t : Bool) → bytes_eq name key ≡ t → is_among (names ++ name ∷ []) key ≡ (is_among names key || t)
among-more names name key t is = list_any-append (λ k. bytes_eq k key) names (name ∷ []) ∙ ap (λ (b : Bool). is_among names key || b) (or-false (bytes_eq name key) ∙ is)

pub keeps-none : (old : Members) → Keeps [] old no_members
keeps-none old = λ key. refl

pub keeps-more : (names : List (List ℕ)) (name : List ℕ) (old before after : Members) → Keeps names old before → IsSetIf name (get_member name old) before after → Keeps (names ++ name ∷ []) old after
keeps-more names name old before after keeps sets key = by_value (get_member name old) refl (subst (λ o. IsSetIf name o before after) refl sets) (bytes_eq name key) refl
  where
    by_among : (b : Bool) → get_member key old ≡ None → cond b (get_member key old) None ≡ None
    by_among true none = none
    by_among false none = refl

    equal : bytes_eq name key ≡ true → name ≡ key
    equal is = (bytes_decides name key).0 is

    by_value : (o : Option Data) → get_member name old ≡ o → IsSetIf name o before after → (t : Bool) → bytes_eq name key ≡ t → get_member key after ≡ cond (is_among (names ++ name ∷ []) key) (get_member key old) None
    by_value None absent same true is =
        let none : get_member key old ≡ None = ap (λ k. get_member k old) (sym (equal is)) ∙ absent in
        ap (get_member key) same ∙ keeps key ∙ by_among (is_among names key) none ∙ sym (by_among (is_among (names ++ name ∷ []) key) none)
    by_value None absent same false is =
        ap (get_member key) same ∙ keeps key ∙ sym (ap (λ b. cond b (get_member key old) None) (among-more names name key false is ∙ or-false (is_among names key)))
    by_value (Some value) there set true is =
        let found : get_member key old ≡ Some value = ap (λ k. get_member k old) (sym (equal is)) ∙ there in
        ap (λ k. get_member k after) (sym (equal is)) ∙ set.here ∙ sym (ap (λ b. cond b (get_member key old) None) (among-more names name key true is ∙ or-true (is_among names key)) ∙ found)
    by_value (Some value) there set false is =
        set.elsewhere key is ∙ keeps key ∙ sym (ap (λ b. cond b (get_member key old) None) (among-more names name key false is ∙ or-false (is_among names key)))

-- ---- how deep they are

at-parts : (n : ℕ) (names : List (List ℕ)) (name : List ℕ) (old : Members) → AreShallowAt n (names ++ name ∷ []) old → AreShallowAt n names old × IfSome (get_member name old) (IsShallow n)
at-parts n [] name old all = (tt, all.0)
at-parts n (k ∷ names) name old all = let rest = at-parts n names name old all.1 in ((all.0, rest.0), rest.1)

pub set-shallow : (n : ℕ) (name : List ℕ) (o : Option Data) (before after : Members) → IsSetIf name o before after → IfSome o (IsShallow n) → AreShallow n before → AreShallow n after
set-shallow n name None before after same one all = subst (AreShallow n) (sym same) all
set-shallow n name (Some value) before after set one all = set.shallow n one all

pub shallow-more : (names : List (List ℕ)) (name : List ℕ) (old before after : Members) → ((n : ℕ) → AreShallowAt n names old → AreShallow n before) → IsSetIf name (get_member name old) before after
    → (n : ℕ) → AreShallowAt n (names ++ name ∷ []) old → AreShallow n after
shallow-more names name old before after shallow sets n all =
    let parts = at-parts n names name old all in
    set-shallow n name (get_member name old) before after sets parts.1 (shallow n parts.0)
