use Rattle.std.proofs.Common.{◌≡◌, ◌∙◌, ◌+◌}
use Rattle.addr_serve.proofs.ServeLemmas.{ahead_on, all_join, all_stopped}
use Rattle.addr_serve.specs.declared.serving.Ended.TheVariants.{Done, Memory, Net, Sink}
use Rattle.addr_serve.proofs.serving.serve_all.Goals as goal

pub returns-in-Memory-clause-serves : goal.returns-in-Memory-clause-serves
returns-in-Memory-clause-serves g c =
    all_stopped c.args.folder.now (g.D.Depot.now c.args.depot.now).files (c.loop-turn.turn + 1) c.args.connections (g.D.Depot.now c.args.depot.now).faults (g.D.Depot.now c.serve_next.new.depot).faults Memory (g.L.Listen.now c.args.listen.now) (g.L.Listen.now c.serve_next.new.listen) (g.K.Sink.now c.args.out.now).written (g.K.Sink.now c.serve_next.new.out).written stopped
    (all_join c.args.folder.now (g.D.Depot.now c.args.depot.now).files (g.D.Depot.now c.loop-turn.depot).files c.loop-turn.turn 1 (g.D.Depot.now c.args.depot.now).faults (g.D.Depot.now c.loop-turn.depot).faults (g.D.Depot.now c.serve_next.new.depot).faults Memory (g.L.Listen.now c.args.listen.now) (g.L.Listen.now c.loop-turn.listen) (g.L.Listen.now c.serve_next.new.listen) (g.K.Sink.now c.args.out.now).written (g.K.Sink.now c.loop-turn.out).written (g.K.Sink.now c.serve_next.new.out).written c.loop-turn.invariant.same.files c.loop-turn.invariant.so_far c.in-Memory.ensures.serves)
  where
    stopped : Memory ≡ Done → ⊥
    stopped e = cc

pub returns-in-Net-clause-serves : goal.returns-in-Net-clause-serves
returns-in-Net-clause-serves g c =
    all_stopped c.args.folder.now (g.D.Depot.now c.args.depot.now).files (c.loop-turn.turn + 1) c.args.connections (g.D.Depot.now c.args.depot.now).faults (g.D.Depot.now c.serve_next.new.depot).faults Net (g.L.Listen.now c.args.listen.now) (g.L.Listen.now c.serve_next.new.listen) (g.K.Sink.now c.args.out.now).written (g.K.Sink.now c.serve_next.new.out).written stopped
    (all_join c.args.folder.now (g.D.Depot.now c.args.depot.now).files (g.D.Depot.now c.loop-turn.depot).files c.loop-turn.turn 1 (g.D.Depot.now c.args.depot.now).faults (g.D.Depot.now c.loop-turn.depot).faults (g.D.Depot.now c.serve_next.new.depot).faults Net (g.L.Listen.now c.args.listen.now) (g.L.Listen.now c.loop-turn.listen) (g.L.Listen.now c.serve_next.new.listen) (g.K.Sink.now c.args.out.now).written (g.K.Sink.now c.loop-turn.out).written (g.K.Sink.now c.serve_next.new.out).written c.loop-turn.invariant.same.files c.loop-turn.invariant.so_far c.in-Net.ensures.serves)
  where
    stopped : Net ≡ Done → ⊥
    stopped e = cc

pub returns-in-Sink-clause-serves : goal.returns-in-Sink-clause-serves
returns-in-Sink-clause-serves g c =
    all_stopped c.args.folder.now (g.D.Depot.now c.args.depot.now).files (c.loop-turn.turn + 1) c.args.connections (g.D.Depot.now c.args.depot.now).faults (g.D.Depot.now c.serve_next.new.depot).faults Sink (g.L.Listen.now c.args.listen.now) (g.L.Listen.now c.serve_next.new.listen) (g.K.Sink.now c.args.out.now).written (g.K.Sink.now c.serve_next.new.out).written stopped
    (all_join c.args.folder.now (g.D.Depot.now c.args.depot.now).files (g.D.Depot.now c.loop-turn.depot).files c.loop-turn.turn 1 (g.D.Depot.now c.args.depot.now).faults (g.D.Depot.now c.loop-turn.depot).faults (g.D.Depot.now c.serve_next.new.depot).faults Sink (g.L.Listen.now c.args.listen.now) (g.L.Listen.now c.loop-turn.listen) (g.L.Listen.now c.serve_next.new.listen) (g.K.Sink.now c.args.out.now).written (g.K.Sink.now c.loop-turn.out).written (g.K.Sink.now c.serve_next.new.out).written c.loop-turn.invariant.same.files c.loop-turn.invariant.so_far c.in-Sink.ensures.serves)
  where
    stopped : Sink ≡ Done → ⊥
    stopped e = cc

pub loop-turn-preserved : goal.loop-turn-preserved
loop-turn-preserved g c = record {
  ahead = ahead_on c.in-Done.ensures.serves.turns (g.L.Listen.now c.loop-turn.listen).conns (g.L.Listen.now c.serve_next.new.listen).conns c.loop-turn.invariant.ahead c.in-Done.ensures.serves.lists;
  so_far = all_join c.args.folder.now (g.D.Depot.now c.args.depot.now).files (g.D.Depot.now c.loop-turn.depot).files c.loop-turn.turn 1 (g.D.Depot.now c.args.depot.now).faults (g.D.Depot.now c.loop-turn.depot).faults (g.D.Depot.now c.serve_next.new.depot).faults Done (g.L.Listen.now c.args.listen.now) (g.L.Listen.now c.loop-turn.listen) (g.L.Listen.now c.serve_next.new.listen) (g.K.Sink.now c.args.out.now).written (g.K.Sink.now c.loop-turn.out).written (g.K.Sink.now c.serve_next.new.out).written c.loop-turn.invariant.same.files c.loop-turn.invariant.so_far c.in-Done.ensures.serves;
  count = c.in-Done.ensures.net ∙ c.loop-turn.invariant.count;
  put = c.in-Done.ensures.sink ∙ c.loop-turn.invariant.put;
  same = record {
    files = c.in-Done.ensures.same.files ∙ c.loop-turn.invariant.same.files;
    past = c.in-Done.ensures.same.past ∙ c.loop-turn.invariant.same.past;
  };
}
