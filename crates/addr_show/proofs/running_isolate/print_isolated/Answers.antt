use Rattle.std.proofs.Common.{Ok, Option, inl, sym, subst}
use Rattle.addr_show.specs.Isolating.{PrintsIsolated}
use Rattle.addr_show.specs.declared.isolating.NewGroup.{NewGroup}
use Rattle.addr_show.proofs.running_isolate.print_isolated.Goals as goal

pub returns-in-None-clause-prints : goal.returns-in-None-clause-prints
returns-in-None-clause-prints g c =
    subst (λ (made : Option NewGroup). PrintsIsolated (Ok made) c.print_none.result (g.K.Sink.now c.args.out.now) (g.K.Sink.now c.print_none.new.out)) (sym c.in-None.is) (inl c.print_none.ensures.prints)
