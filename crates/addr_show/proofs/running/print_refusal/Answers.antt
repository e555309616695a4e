use Rattle.std.proofs.Common.{Err, inl, sym, subst}
use Rattle.addr_show.specs.Analyzing.{PrintsEnd}
use Rattle.addr_show.specs.declared.error.AnalyzeErr.{AnalyzeErr}
use Rattle.addr_show.proofs.running.print_refusal.Goals as goal

pub returns-in-DepotFault-clause-prints : goal.returns-in-DepotFault-clause-prints
returns-in-DepotFault-clause-prints g c =
    subst (λ (refusal : AnalyzeErr). PrintsEnd (Err refusal) c.print_depot.result (g.K.Sink.now c.args.out.now) (g.K.Sink.now c.print_depot.new.out)) (sym c.in-DepotFault.is) (inl c.print_depot.ensures.prints)
