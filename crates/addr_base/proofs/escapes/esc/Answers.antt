use Rattle.std.proofs.Common.{◌++◌, string_bytes, sym, ◌∙◌, ap, subst, append_assoc}
use Rattle.std.proofs.lemmas.List.{drop_all, append-nil}
use Rattle.std.specs.List.{Contains}
use Rattle.addr_base.specs.Escapes.{escaped}
use Rattle.addr_base.proofs.EscapeLemmas.{without_underscore, escaped-drop}
use Rattle.addr_base.proofs.escapes.esc.Goals as goal

pub returns-clause-escaped : goal.returns-clause-escaped
returns-clause-escaped c =
    c.from_string.ensures ∙ sym (append-nil _) ∙ ap (λ rest. string_bytes c.loop-b.name ++ escaped rest) (sym (drop_all c.loop-b.b-index c.as_bytes-b-items.result.now c.loop-b-test.false)) ∙ c.loop-b.invariant

pub returns-clause-no_underscore : goal.returns-clause-no_underscore
returns-clause-no_underscore c = λ found. without_underscore c.args.text.now (subst (λ t. Contains t 95) (returns-clause-escaped c) found)

pub loop-b-preserved : goal.loop-b-preserved
loop-b-preserved c =
    rw (c.in_ok-push_escaped.ensures, append_assoc) (ap (λ rest. string_bytes c.loop-b.name ++ rest) (sym (escaped-drop c.as_bytes-b-items.result.now c.loop-b.b-index c.loop-b-test.true)) ∙ c.loop-b.invariant)
