-- An ordered map of texts in a loop: one more text.
use Rattle.std.proofs.Common.{◌≡◌, ℕ, Bool, true, false, ◌||◌, cond, List, [], ◌∷◌, ◌++◌, Some, None, Option, Bor, BTreeMap, is_some, refl, sym, ap, ◌∙◌, nat_cmp}
use Rattle.std.proofs.lemmas.List.Folds.{list_any-append}
use Rattle.std.proofs.lemmas.Map.Text.{btree_map_updates_str}
use Rattle.std.proofs.lemmas.Bool.{false≢true}
use Rattle.std.specs.BTreeMap.{get_by, UpdatesBy}
use Rattle.std.specs.Cmp.Lexicographic.{slice_cmp}
use Rattle.std.specs.List.{list_any}
use Rattle.std.specs.Option.{option_copied}
use Rattle.std.specs.Str.{bytes_eq}
use Rattle.addr_locate.specs.Lookups.{HoldsTexts}

-- a map of the texts that were seen with one more text
pub HoldsTexts-put : {X : Type 0} (before : List (List ℕ)) (text : List ℕ) (x : X) (m n : BTreeMap (Bor (List ℕ)) X) → HoldsTexts before m
    → UpdatesBy (λ x y. slice_cmp nat_cmp x.now y.now) (λ k. slice_cmp nat_cmp text k.now) m n (Some x)
    → HoldsTexts (before ++ text ∷ []) n
HoldsTexts-put before text x m n holds updates other = ap is_some (btree_map_updates_str text m n (Some x) updates other) ∙ by_test (bytes_eq text other) refl ∙ sym (list_any-append (λ t. bytes_eq t other) before (text ∷ []))
  where
    or_true : (b : Bool) → true ≡ (b || true)
    or_true true = refl
    or_true false = refl

    or_false : (b : Bool) → b ≡ (b || false)
    or_false true = refl
    or_false false = refl

    by_test : (t : Bool) → bytes_eq text other ≡ t → is_some (cond (bytes_eq text other) (Some x) (get_by (λ k. slice_cmp nat_cmp other k.now) m)) ≡ (list_any (λ t. bytes_eq t other) before || (bytes_eq text other || false))
    by_test true same = rw same (or_true (list_any (λ t. bytes_eq t other) before))
    by_test false differs = rw differs (holds other ∙ or_false (list_any (λ t. bytes_eq t other) before))

-- what a look-up says
pub none_from : {X : Type 0} (found : Option (Bor X)) (o : Option X) → option_copied found ≡ o → is_some found ≡ false → o ≡ None
none_from None o is e = sym is
none_from (Some x) o is e = absurd (false≢true (sym e))

pub some_from : {X : Type 0} (found : Option (Bor X)) (o : Option X) → option_copied found ≡ o → is_some found ≡ true → is_some o ≡ true
some_from None o is e = absurd (false≢true e)
some_from (Some x) o is e = ap is_some (sym is)
