use Rattle.std.proofs.Common.{arith}
use Rattle.std.proofs.lemmas.List.{get_or_default}
use Rattle.addr_walks.proofs.MarkLemmas.{grows-more}
use Rattle.addr_walks.proofs.marking.Marked.mark_all.Goals as goal

pub loop-c-preserved : goal.loop-c-preserved
loop-c-preserved c = record {
  len = omega arith;
  tracks = c.mark.ensures.tracks;
  grows = grows-more c.args.cs.now c.args.self.now.queue.items c.loop-c.self.queue.items c.mark.new.self.queue.items c.loop-c.self.marks.items c.loop-c.c-index _
      (omega arith) (get_or_default c.args.cs.now c.loop-c.c-index 0 _ (omega arith)) c.loop-c.invariant.tracks c.in_ok-mark.ensures.found c.loop-c.invariant.grows;
}
