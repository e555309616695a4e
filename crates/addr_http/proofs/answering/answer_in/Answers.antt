use Rattle.std.proofs.Common.{refl}
use Rattle.addr_http.proofs.AnswerLemmas.{enough, causes, tells, tells_broken}
use Rattle.addr_http.proofs.answering.answer_in.Goals as goal

pub returns-in-Ok-clause-told : goal.returns-in-Ok-clause-told
returns-in-Ok-clause-told g c = tells c.args.folder.now c.hear.new.buffer (g.D.Depot.now c.args.depot.now).files (g.D.Depot.now c.args.depot.now).faults (g.D.Depot.now c.serve.new.depot).faults c.in-Ok.heard (g.C.Conn.now c.args.conn.now).left (g.C.Conn.now c.args.conn.now).written (g.C.Conn.now c.hear.new.conn).written (g.C.Conn.now c.serve.new.conn).written c.serve.result c.in-Ok.ensures.told c.in-Ok.ensures.sink.written c.serve.ensures.told

pub returns-in-Ok-clause-no_more : goal.returns-in-Ok-clause-no_more
returns-in-Ok-clause-no_more g c = rw c.serve.ensures.source.last (enough (g.C.Conn.now c.hear.new.conn).last (g.C.Conn.now c.args.conn.now).left (g.C.Conn.now c.hear.new.conn).left (g.C.Conn.now c.serve.new.conn).left c.serve.ensures.source.left c.in-Ok.ensures.no_more)

pub returns-in-Ok-clause-cause : goal.returns-in-Ok-clause-cause
returns-in-Ok-clause-cause g c = causes (g.C.Conn.now c.args.conn.now) (g.C.Conn.now c.hear.new.conn) (g.C.Conn.now c.serve.new.conn) c.serve.result c.in-Ok.ensures.cause.same c.in-Ok.ensures.sink.sink_faults c.serve.ensures.source.source_faults c.serve.ensures.cause

pub returns-in-Err-clause-told : goal.returns-in-Err-clause-told
returns-in-Err-clause-told g c = tells_broken c.args.folder.now (g.D.Depot.now c.args.depot.now).files (g.D.Depot.now c.args.depot.now).faults (g.D.Depot.now c.args.depot.now).faults (g.C.Conn.now c.args.conn.now).left (g.C.Conn.now c.args.conn.now).written (g.C.Conn.now c.hear.new.conn).written c.in-Err.ensures.sink.written

pub returns-in-Err-clause-no_more : goal.returns-in-Err-clause-no_more
returns-in-Err-clause-no_more g c = enough (g.C.Conn.now c.hear.new.conn).last (g.C.Conn.now c.args.conn.now).left (g.C.Conn.now c.hear.new.conn).left (g.C.Conn.now c.hear.new.conn).left refl c.in-Err.ensures.no_more
