use Rattle.addr_change.proofs.CompleteLemmas.{complete}
use Rattle.addr_change.proofs.resolving.run_resolve.Goals as goal

pub returns-clause-complete : goal.returns-clause-complete
returns-clause-complete g c = complete c.answer_is_one.ensures c.args.words.now (g.D.Depot.now c.args.depot.now) (g.D.Depot.now c.resolve_words.new.depot) (g.K.Sink.now c.args.out.now) (g.K.Sink.now c.resolve_words.new.out) c.resolve_words.result c.resolve_words.ensures.outcome
