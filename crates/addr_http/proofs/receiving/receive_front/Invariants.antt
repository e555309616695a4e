use Rattle.std.proofs.Common.{length, ◌-◌, ◌≡◌, ◌≤◌}
use Rattle.addr_http.specs.Heads.{room}
use Rattle.addr_http.proofs.ReceivingLemmas.{Hears, Tells}
use Rattle.addr_http.proofs.receiving.receive_front.Given as goal

abbrev pub invariant-reads : goal.invariant-reads
invariant-reads g l = record {
  len : length l.buffer ≡ room;
  fields_len : length l.fields ≡ 4096;
  fits : l.at ≤ room;
  told : Tells (λ old new. Hears old.sent l.at l.buffer new) (g.C.Connect.now l.initial.conn).talk (g.C.Connect.now l.conn).talk;
  count : (g.C.Connect.now l.conn).faults ≡ (g.C.Connect.now l.initial.conn).faults;
}

abbrev pub decreases-reads : goal.decreases-reads
decreases-reads g l = room - l.at
