use Rattle.std.proofs.Common.{List, ℕ, inl, subst}
use Rattle.addr_isolate.specs.Leaving.{OfFiles}
use Rattle.addr_show.specs.Isolating.{LeavesFolder}
use Rattle.addr_show.proofs.running_isolate.run_isolate.Goals as goal

pub returns-clause-outcome : goal.returns-clause-outcome
returns-clause-outcome g c = inl (record {
  folder = c.in-Some.folder.now;
  asks = c.in-Some.ensures;
  ended = c.isolate-ended.result;
  files = subst (λ (folder : List ℕ). OfFiles (g.D.Depot.now c.args.depot.now).files (g.D.Depot.now c.isolate-ended.new.depot).files (λ before after. LeavesFolder before folder after c.isolate-ended.result)) c.as_str.ensures c.isolate-ended.ensures.files;
  cause = c.isolate-ended.ensures.cause;
  prints = c.print_end.ensures.prints;
})
