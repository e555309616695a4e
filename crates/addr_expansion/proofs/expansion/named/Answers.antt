use Rattle.std.proofs.Common.{sym, ◌∙◌}
use Rattle.addr_expansion.proofs.ExpansionLemmas.{named_some, named_none}
use Rattle.addr_expansion.proofs.expansion.named.Goals as goal

pub returns-in-Some : goal.returns-in-Some
returns-in-Some c = λ lead holds. named_some c.args.variables.now lead c.args.name.now c.args.table.now c.in-Some.at c.value_at.result (sym c.position_of.ensures ∙ c.in-Some.is) c.value_at.ensures holds

pub returns-in-None : goal.returns-in-None
returns-in-None c = λ lead holds. named_none c.args.variables.now lead c.args.name.now (sym c.position_of.ensures ∙ c.in-None.is)
