use Rattle.std.proofs.Common.{◌∙◌, None, sym, refl}
use Rattle.std.proofs.lemmas.Bool.{false≢true}
use Rattle.addr_locate.specs.Merge.{is_match, rows_where}
use Rattle.addr_locate.proofs.FoundLemmas.{first_filled_found, first_filled_empty}
use Rattle.addr_locate.proofs.merging.matching_first.Goals as goal

pub returns-then-not-is_empty : goal.returns-then-not-is_empty
returns-then-not-is_empty c =
    c.in_ok-found.ensures ∙ (sym (first_filled_found (λ key. rows_where (is_match c.args.kind key) c.args.rows.now) c.args.keys.now c.loop-key.key-index None c.loop-key-test.true (λ empty. false≢true (c.if-not-is_empty.ensures.1 (c.in_ok-found.ensures ∙ empty)))) ∙ c.loop-key.invariant)

pub loop-key-preserved : goal.loop-key-preserved
loop-key-preserved c =
    sym (first_filled_empty (λ key. rows_where (is_match c.args.kind key) c.args.rows.now) c.args.keys.now c.loop-key.key-index None c.loop-key-test.true (sym c.in_ok-found.ensures ∙ c.if-not-is_empty.ensures.0 refl)) ∙ c.loop-key.invariant
