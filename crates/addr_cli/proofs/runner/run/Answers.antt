use Rattle.std.proofs.Common.{Err, inl, inr}
use Rattle.addr_cli.specs.declared.refusal.Refusal.TheVariants.{NoMemory}
use Rattle.addr_cli.proofs.OutcomeLemmas.{causes, complete}
use Rattle.addr_cli.proofs.runner.run.Goals as goal

pub returns-clause-outcome : goal.returns-clause-outcome
returns-clause-outcome g c = elim c.report.ensures.prints [ inl prints ↦ (c.command_text-ended.result, c.command_text-ended.ensures.ends, prints) | inr prints ↦ (Err NoMemory, tt, prints) ]

pub returns-clause-complete : goal.returns-clause-complete
returns-clause-complete g c = complete c.args.words.now (g.D.Depot.now c.args.depot.now) (g.D.Depot.now c.command_text-ended.new.depot) (g.K.Sink.now c.args.out.now) (g.K.Sink.now c.report.new.out) c.report.result.0 (returns-clause-outcome g c)

pub returns-clause-causes : goal.returns-clause-causes
returns-clause-causes g c = causes c.args.words.now (g.D.Depot.now c.args.depot.now) (g.D.Depot.now c.command_text-ended.new.depot) (g.K.Sink.now c.args.out.now) (g.K.Sink.now c.report.new.out) c.report.result.0 (returns-clause-outcome g c)
