use Rattle.addr_serve.proofs.ServeLemmas.{all_one}
use Rattle.addr_serve.proofs.serving.serve_next.Goals as goal

pub returns-in-Ok-clause-serves : goal.returns-in-Ok-clause-serves
returns-in-Ok-clause-serves g c =
    all_one c.args.folder.now (g.D.Depot.now c.args.depot.now).files (g.D.Depot.now c.args.depot.now).faults (g.D.Depot.now c.answer-served.new.depot).faults (g.L.Peer.Conn.now c.in-Ok.conn) (g.L.Peer.Conn.now c.answer-served.new.conn) c.answer-served.result c.write_line.result
    (g.L.Listen.now c.args.listen.now) (g.L.Listen.now c.accept.new.self) (g.L.Listen.now c.finish.new.self) (g.K.Sink.now c.args.out.now).written (g.K.Sink.now c.write_line.new.out).written
    c.answer-served.ensures.later c.answer-served.ensures.told c.answer-served.ensures.cause c.answer-served.ensures.failed c.in-Ok.ensures.lists c.finish.ensures.lists c.in-Ok.ensures.port c.finish.ensures.port c.write_line.ensures.prints
