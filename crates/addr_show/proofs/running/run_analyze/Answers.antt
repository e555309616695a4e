use Rattle.std.proofs.Common.{List, ℕ, IfSome, inl, subst}
use Rattle.addr_show.specs.Analyzing.{Analyzes}
use Rattle.addr_show.proofs.CompleteLemmas.{complete}
use Rattle.addr_show.proofs.running.run_analyze.Goals as goal

pub returns-clause-outcome : goal.returns-clause-outcome
returns-clause-outcome g c = inl (record {
  folder = c.in-Some.folder.now;
  asks = c.in-Some.ensures;
  ended = c.analyze-ended.result;
  told = subst (λ (folder : List ℕ). IfSome (g.D.Depot.now c.args.depot.now).files (λ files. Analyzes files folder c.analyze-ended.result)) c.as_str.ensures c.analyze-ended.ensures.told;
  cause = c.analyze-ended.ensures.cause;
  prints = c.print_end.ensures.prints;
})

pub returns-clause-complete : goal.returns-clause-complete
returns-clause-complete g c = complete _ _ _ _ _ _ (returns-clause-outcome g c)
