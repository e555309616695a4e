-- The texts of keys, one more key at a time.
use Rattle.std.proofs.Common.{◌≡◌, ℕ, ◌+◌, ◌<◌, Bool, true, false, cond, List, [], ◌∷◌, ◌++◌, length, filter, get_or, take, drop, Option, Some, None, refl, sym, ap, ◌∙◌, append-nil, append_assoc}
use Rattle.std.specs.List.{filter_map, slice_get}
use Rattle.std.specs.Option.{option_to_list}
use Rattle.std.proofs.lemmas.List.{take_more, take-append-drop}
use Rattle.std.proofs.lemmas.List.Elements.{filter_map-append, filter_more}

-- ---- the texts of keys

one_text : {X Y : Type 0} (f : X → Option Y) (x : X) → filter_map f (x ∷ []) ≡ option_to_list (f x)
one_text {X} {Y} f x = by_answer (f x) refl
  where
    by_answer : (y : Option Y) → f x ≡ y → filter_map f (x ∷ []) ≡ option_to_list y
    by_answer None is = rw is
    by_answer (Some y) is = rw is

pub text_kept : {Y : Type 0} (f : ℕ → Option Y) (p : ℕ → Bool) (first ns : List ℕ) (i : ℕ) (texts : List Y) → i < length ns → p (get_or ns i 0) ≡ true
    → texts ≡ filter_map f (first ++ filter p (take i ns)) → texts ++ option_to_list (f (get_or ns i 0)) ≡ filter_map f (first ++ filter p (take (i + 1) ns))
text_kept {Y} f p first ns i texts small keeps are =
    let x = get_or ns i 0 in
    let grown : filter p (take (i + 1) ns) ≡ filter p (take i ns) ++ x ∷ [] = filter_more p ns i 0 small ∙ ap (λ (b : Bool). filter p (take i ns) ++ cond b (x ∷ []) []) keeps in
    sym (ap (λ (ms : List ℕ). filter_map f (first ++ ms)) grown ∙ ap (filter_map f) (sym (append_assoc first (filter p (take i ns)) (x ∷ []))) ∙ filter_map-append f (first ++ filter p (take i ns)) (x ∷ [])
    ∙ ap (λ (ys : List Y). filter_map f (first ++ filter p (take i ns)) ++ ys) (one_text f x) ∙ ap (λ (ys : List Y). ys ++ option_to_list (f x)) (sym are))

pub text_passed : {Y : Type 0} (f : ℕ → Option Y) (p : ℕ → Bool) (first ns : List ℕ) (i : ℕ) (texts : List Y) → i < length ns → p (get_or ns i 0) ≡ false
    → texts ≡ filter_map f (first ++ filter p (take i ns)) → texts ≡ filter_map f (first ++ filter p (take (i + 1) ns))
text_passed f p first ns i texts small passes are =
    let same : filter p (take (i + 1) ns) ≡ filter p (take i ns) = filter_more p ns i 0 small ∙ ap (λ (b : Bool). filter p (take i ns) ++ cond b (get_or ns i 0 ∷ []) []) passes ∙ append-nil (filter p (take i ns)) in
    are ∙ sym (ap (λ (ms : List ℕ). filter_map f (first ++ ms)) same)

-- ---- what some numbers stand for, one more number at a time

pub some_more : {Y : Type 0} (f : ℕ → Option Y) (ns : List ℕ) (i : ℕ) (y : Option Y) → i < length ns → f (get_or ns i 0) ≡ y → filter_map f (take (i + 1) ns) ≡ filter_map f (take i ns) ++ option_to_list y
some_more {Y} f ns i y small is =
    ap (filter_map f) (take_more ns i 0 small) ∙ filter_map-append f (take i ns) (get_or ns i 0 ∷ []) ∙ ap (λ (ys : List Y). filter_map f (take i ns) ++ ys) (one_text f (get_or ns i 0) ∙ ap option_to_list is)

pub first_found : {Y : Type 0} (f : ℕ → Option Y) (ns : List ℕ) (i : ℕ) (y : Y) → i < length ns → filter_map f (take i ns) ≡ [] → f (get_or ns i 0) ≡ Some y → slice_get (filter_map f ns) 0 ≡ Some y
first_found {Y} f ns i y small none is =
    let front : filter_map f (take (i + 1) ns) ≡ y ∷ [] = some_more f ns i (Some y) small is ∙ ap (λ (ys : List Y). ys ++ y ∷ []) none in
    ap (λ (ms : List ℕ). slice_get (filter_map f ms) 0) (sym (take-append-drop (i + 1) ns)) ∙ ap (λ (ys : List Y). slice_get ys 0) (filter_map-append f (take (i + 1) ns) (drop (i + 1) ns) ∙ ap (λ (ys : List Y). ys ++ filter_map f (drop (i + 1) ns)) front)

pub none_found : {Y : Type 0} (f : ℕ → Option Y) (ns : List ℕ) (i : ℕ) → i < length ns → filter_map f (take i ns) ≡ [] → f (get_or ns i 0) ≡ None → filter_map f (take (i + 1) ns) ≡ []
none_found f ns i small none is = some_more f ns i None small is ∙ append-nil (filter_map f (take i ns)) ∙ none
