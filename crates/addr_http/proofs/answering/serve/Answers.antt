use Rattle.addr_http.proofs.AnswerLemmas.{serves_told}
use Rattle.addr_http.proofs.answering.serve.Goals as goal

pub returns-clause-told : goal.returns-clause-told
returns-clause-told g c = serves_told c.args.folder.now c.args.buffer.now (g.D.Depot.now c.args.depot.now).files (g.D.Depot.now c.args.depot.now).faults (g.D.Depot.now c.reply.new.depot).faults c.in-Ok.asked c.in-Ok-reply.reply c.args.heard (g.C.Conn.now c.args.conn.now).written (g.C.Conn.now c.respond.new.conn).written c.respond.result c.in-Ok-reply.ensures.told c.in-Ok.ensures c.respond.ensures.told
