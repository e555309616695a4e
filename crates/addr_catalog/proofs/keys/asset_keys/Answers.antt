use Rattle.std.proofs.Common.{◌==◌, ◌<◌, ◌∙◌, ap, not, arith, length, cond, [], ◌∷◌, ℕ, List}
use Rattle.std.proofs.lemmas.Bool.{eq-eqb, ne_eqb}
use Rattle.addr_catalog.specs.Entries.{key_text_at}
use Rattle.addr_catalog.specs.Inverted.{is_among}
use Rattle.addr_catalog.proofs.KeyLemmas.{text_kept, text_passed}
use Rattle.addr_catalog.proofs.keys.asset_keys.Goals as goal
use Rattle.addr_catalog.proofs.keys.asset_keys.Goals.{then-number-primary+in_ok-push_text-2, else-number-primary}

pub loop-number-preserved : goal.loop-number-preserved
loop-number-preserved c =
    let ns = c.args.numbers.now in
    let i = c.loop-number.number-index in
    let p = λ (m : ℕ). not (m == c.args.primary) in
    let first : List ℕ = cond (is_among ns c.args.primary) (c.args.primary ∷ []) [] in
    let small : i < length ns = omega arith in
    elim c.if-number-primary.branch [
      | then-number-primary+in_ok-push_text-2 w ↦ ap (λ t. t) w.texts-is ∙ (w.in_ok-push_text-2.ensures ∙ text_kept (key_text_at c.args.keys.now) p first ns i c.loop-number.texts small (ap not (ne_eqb _ _ w.if-number-primary.true)) c.loop-number.invariant)
      | else-number-primary w ↦ ap (λ t. t) w.texts-is ∙ text_passed (key_text_at c.args.keys.now) p first ns i c.loop-number.texts small (ap not (eq-eqb _ _ w.if-number-primary.false)) c.loop-number.invariant
    ]
