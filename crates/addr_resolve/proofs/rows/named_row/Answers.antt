use Rattle.std.proofs.Common.{length, Err, subst}
use Rattle.addr_resolve.specs.declared.unfolding.Stop.{Stop}
use Rattle.addr_resolve.specs.within.Steps.{ResolvesOne}
use Rattle.addr_resolve.proofs.RowLemmas.{named-lost, sound-first}
use Rattle.addr_resolve.proofs.rows.named_row.Goals as goal

pub lost-requires : goal.lost-requires
lost-requires c = sound-first (length c.args.locator.now.bundles) c.args.row.now.deps c.first_dep.result c.requires.deps c.first_dep.ensures

pub returns-in-Err-Lost-clause-resolves : goal.returns-in-Err-Lost-clause-resolves
returns-in-Err-Lost-clause-resolves c = λ files is. named-lost c.args.locator.now files c.args.row.now c.first_dep.result c.in-Err-Lost.guid c.lost.result c.first_dep.ensures c.lost.ensures (subst (λ (s : Stop). ResolvesOne c.args.locator.now files c.args.row.now (Err s)) c.in-Err-Lost.field-0-is (c.in-Err-Lost.ensures.resolves files is))
