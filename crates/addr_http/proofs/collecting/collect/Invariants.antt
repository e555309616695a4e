use Rattle.std.proofs.Common.{length, ◌≡◌, ◌<◌}
use Rattle.addr_http.proofs.CollectingLemmas.{SoFar}
use Rattle.addr_http.proofs.collecting.collect.Given as goal

abbrev pub invariant-pieces : goal.invariant-pieces
invariant-pieces g l = record {
  len : 0 < length l.buffer;
  so_far : SoFar g.P.Pour.took l.initial.left l.initial.room l.left l.room l.initial.into l.into (g.C.Connect.now l.initial.conn).talk (g.C.Connect.now l.conn).talk;
  fixed : g.P.Pour.fixed l.into ≡ g.P.Pour.fixed l.initial.into;
  count : (g.C.Connect.now l.conn).faults ≡ (g.C.Connect.now l.initial.conn).faults;
}

abbrev pub decreases-pieces : goal.decreases-pieces
decreases-pieces g l = l.left
