-- Texts without a fault are texts.
use Rattle.std.proofs.Common.{◌≡◌, ℕ, Bool, true, false, ◌||◌, cond, List, Option, Some, None, Result, refl, sym, ap, ◌∙◌}
use Rattle.addr_expansion.specs.declared.error.ExpandErr.{ExpandErr}
use Rattle.addr_expansion.specs.declared.extent.Extent.{Extent}
use Rattle.addr_expansion.specs.declared.extent.Extent.TheVariants.{Bad, Circular, Whole, Long}
use Rattle.std.proofs.lemmas.Bool.{false≢true}
use Rattle.std.specs.List.{position}
use Rattle.std.specs.Option.{option_map}
use Rattle.std.specs.Prelude.{IsOk}
use Rattle.addr_base.specs.declared.var.Var.{Var}
use Rattle.addr_expansion.specs.Expansion.{expanded}
use Rattle.addr_expansion.specs.Extents.{answer_of}
use Rattle.addr_expansion.specs.Replies.{is_bad, is_circular, replies}
use Rattle.addr_project.specs.Faults.{too_long, text_fault}
use Rattle.addr_project.specs.declared.error.ProjectErr.TheVariants.{VariableCycle}
use Rattle.addr_project.proofs.CircleLemmas.{never_circular}
use Rattle.addr_project.proofs.OnceLemmas.{none-parts}

neither : {A : Type 0} (a b : Bool) (x : A) → cond (a || b) (Some x) None ≡ None → (a ≡ false) × (b ≡ false)
neither true b x is = absurd (cc)
neither false true x is = absurd (cc)
neither false false x is = (refl, refl)

is_text : (e : Extent) → is_bad (answer_of e) ≡ false → is_circular (answer_of e) ≡ false → too_long (answer_of e) ≡ None → IsOk (answer_of e)
is_text Bad known ends short = absurd (false≢true (sym known))
is_text Circular known ends short = absurd (false≢true (sym ends))
is_text (Whole t) known ends short = refl
is_text (Long n) known ends short = absurd (cc)

unmapped : {A B : Type 0} (f : A → B) (o : Option A) → option_map f o ≡ None → o ≡ None
unmapped f None is = refl
unmapped f (Some x) is = absurd (cc)

pub are_texts : (vs : List Var) (local remote : List ℕ) (l r : Extent) (values : List (Result (List ℕ) ExpandErr)) → answer_of l ≡ expanded vs local → answer_of r ≡ expanded vs remote → values ≡ replies vs
    → text_fault (answer_of l) (answer_of r) values ≡ None → IsOk (answer_of l) × IsOk (answer_of r)
unfolding text_fault
are_texts vs local remote l r values l_is r_is values_are none =
    let unknown = none-parts _ _ none in
    let values_known = none-parts _ _ unknown.1 in
    let values_end = none-parts _ _ values_known.1 in
    let long_local = none-parts _ _ values_end.1 in
    let long_remote = none-parts _ _ long_local.1 in
    let known = neither (is_bad (answer_of l)) (is_bad (answer_of r)) _ unknown.0 in
    let none_circular = ap (position is_circular) (sym values_are) ∙ unmapped VariableCycle (position is_circular values) values_end.0 in
    let ends : (text : List ℕ) (e : Extent) → answer_of e ≡ expanded vs text → is_circular (answer_of e) ≡ false = λ text e is. ap is_circular is ∙ never_circular vs text none_circular in
    (is_text l known.0 (ends local l l_is) long_local.0, is_text r known.1 (ends remote r r_is) long_remote.0)
