use Rattle.std.proofs.Common.{◌≡◌}
use Rattle.addr_base.specs.Files.{SameStore}
use Rattle.addr_serve.specs.Loops.{IsAhead, ServesAll}
use Rattle.addr_serve.specs.declared.serving.Ended.TheVariants.{Done}
use Rattle.addr_serve.proofs.serving.serve_all.Given as goal

abbrev pub invariant-loop-turn : goal.invariant-loop-turn
invariant-loop-turn g l = record {
  ahead : IsAhead (g.L.Listen.now l.listen).conns;
  so_far : ServesAll l.folder (g.D.Depot.now l.initial.depot).files l.turn (g.D.Depot.now l.initial.depot).faults (g.D.Depot.now l.depot).faults Done (g.L.Listen.now l.initial.listen) (g.L.Listen.now l.listen) (g.K.Sink.now l.initial.out).written (g.K.Sink.now l.out).written;
  count : (g.L.Listen.now l.listen).faults ≡ (g.L.Listen.now l.initial.listen).faults;
  put : (g.K.Sink.now l.out).faults ≡ (g.K.Sink.now l.initial.out).faults;
  same : SameStore (g.D.Depot.now l.initial.depot) (g.D.Depot.now l.depot);
}
