use Rattle.std.proofs.Common.{◌∙◌}
use Rattle.addr_http.proofs.AnswerLemmas.{adds_first, adds_both, counts_on}
use Rattle.addr_http.proofs.answering.write.Goals as goal

pub returns-in-Ok : goal.returns-in-Ok
returns-in-Ok g c = record {
  bytes_are = adds_both (g.C.Conn.now c.args.conn.now).written (g.C.Conn.now c.put.new.self).written (g.C.Conn.now c.put-in-Ok.new.self).written c.args.head.now c.args.body.now c.in-Ok.field-0 c.put-in-Ok.result c.in-Ok.ensures.bytes_are c.put-in-Ok.ensures.bytes_are;
  cause = counts_on _ _ _ c.put-in-Ok.result c.in-Ok.ensures.cause.same c.put-in-Ok.ensures.cause;
  left = c.put-in-Ok.ensures.left ∙ c.in-Ok.ensures.left;
  last = c.put-in-Ok.ensures.last ∙ c.in-Ok.ensures.last;
  source_faults = c.put-in-Ok.ensures.source_faults ∙ c.in-Ok.ensures.source_faults;
}

pub returns-in-Err : goal.returns-in-Err
returns-in-Err g c = record {
  bytes_are = adds_first (g.C.Conn.now c.args.conn.now).written (g.C.Conn.now c.put.new.self).written c.args.head.now c.args.body.now c.in-Err.field-0 _ c.in-Err.ensures.bytes_are;
  cause = record { same = tt; later = c.in-Err.ensures.cause.later; failed = c.in-Err.ensures.cause.failed };
  left = c.in-Err.ensures.left;
  last = c.in-Err.ensures.last;
  source_faults = c.in-Err.ensures.source_faults;
}
