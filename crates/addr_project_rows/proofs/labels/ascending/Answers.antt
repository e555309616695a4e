use Rattle.std.proofs.Common.{ℕ, List, [], map, take, sym, ap, ◌∙◌}
use Rattle.std.proofs.lemmas.List.Sums.{fold_more}
use Rattle.addr_project_rows.specs.Fields.{with_text, ascending}
use Rattle.addr_project_rows.proofs.LabelLemmas.{keys-more}
use Rattle.addr_project_rows.proofs.labels.ascending.Goals as goal

pub loop-text-preserved : goal.loop-text-preserved
loop-text-preserved c =
    let add : List ℕ → List (List ℕ) → List (List ℕ) = with_text in
    ap (map (λ text. text.now)) c.in_ok-insert.ensures.keys
    ∙ keys-more c.loop-text.found.keys c.as_str.result
    ∙ ap (with_text c.as_str.result.now) c.loop-text.invariant
    ∙ ap (λ text. with_text text (ascending (take c.loop-text.text-index c.args.texts.now))) (c.as_str.ensures ∙ c.text-item.is)
    ∙ sym (fold_more (λ sorted text. with_text text sorted) [] c.args.texts.now c.loop-text.text-index c.text-item.result c.loop-text-test.true)
