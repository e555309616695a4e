use Rattle.addr_serve.proofs.ServeLemmas.{serves_closed, serves_opened}
use Rattle.addr_serve.proofs.serving.serve.Goals as goal

pub returns-in-Err-clause-serves : goal.returns-in-Err-clause-serves
returns-in-Err-clause-serves g c = serves_closed c.args.folder.now (g.D.Depot.now c.args.depot.now).files c.args.connections (g.D.Depot.now c.args.depot.now).faults c.last_line.result (g.L.Listen.now c.args.listen.now) (g.L.Listen.now c.open.new.self) (g.K.Sink.now c.args.out.now).written (g.K.Sink.now c.last_line.new.out).written c.in-Err.ensures.conns c.last_line.ensures.prints

pub returns-in-Ok-clause-serves : goal.returns-in-Ok-clause-serves
returns-in-Ok-clause-serves g c = serves_opened c.args.folder.now (g.D.Depot.now c.args.depot.now).files c.args.connections (g.D.Depot.now c.args.depot.now).faults (g.D.Depot.now c.serve_from.new.depot).faults c.serve_from.result (g.L.Listen.now c.args.listen.now) (g.L.Listen.now c.open.new.self) (g.L.Listen.now c.serve_from.new.listen) (g.K.Sink.now c.args.out.now).written (g.K.Sink.now c.serve_from.new.out).written c.in-Ok.ensures.conns c.serve_from.ensures.serves
