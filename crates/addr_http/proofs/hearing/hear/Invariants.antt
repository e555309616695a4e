use Rattle.std.proofs.Common.{length, ◌-◌, ◌≡◌, ◌<◌, ◌≤◌}
use Rattle.addr_http.specs.Heads.{room}
use Rattle.addr_http.specs.Hearing.{KeepsSink, Told}
use Rattle.addr_http.proofs.HearingLemmas.{Reads}
use Rattle.addr_http.proofs.hearing.hear.Given as goal

abbrev pub invariant-reads : goal.invariant-reads
invariant-reads g l = record {
  len : length l.buffer ≡ room;
  fits : l.at ≤ room;
  last : 0 < l.at → (g.C.Conn.now l.conn).last ≤ l.at;
  reads : Told (λ left new. Reads left new l.at l.buffer) (g.C.Conn.now l.initial.conn).left (g.C.Conn.now l.conn).left;
  sink : KeepsSink (g.C.Conn.now l.initial.conn) (g.C.Conn.now l.conn);
  count : (g.C.Conn.now l.conn).source_faults ≡ (g.C.Conn.now l.initial.conn).source_faults;
}

abbrev pub decreases-reads : goal.decreases-reads
decreases-reads g l = room - l.at
