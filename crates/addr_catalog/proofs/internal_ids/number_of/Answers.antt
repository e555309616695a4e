use Rattle.std.proofs.Common.{◌∙◌, sym}
use Rattle.std.proofs.lemmas.Option.{none-some}
use Rattle.addr_catalog.proofs.MarkLemmas.{no_run, parsed, past}
use Rattle.addr_catalog.proofs.internal_ids.number_of.Goals as goal

pub returns-then-not-is_run : goal.returns-then-not-is_run
returns-then-not-is_run c = λ n is. absurd (none-some n (sym (no_run c.args.text.now (sym c.is_run.ensures ∙ c.if-not-is_run.true)) ∙ is))

pub returns-in-Ok : goal.returns-in-Ok
returns-in-Ok c = parsed c.args.text.now (sym c.is_run.ensures ∙ c.if-not-is_run.false) c.parse.result c.in-Ok.number c.parse.ensures.value.0 c.in-Ok.is

pub returns-in-Err : goal.returns-in-Err
returns-in-Err c = past c.args.text.now (sym c.is_run.ensures ∙ c.if-not-is_run.false) c.parse.result c.in-Err.field-0 c.parse.ensures.value.0 c.in-Err.is
