use Rattle.std.proofs.Common.{rules}
use Rattle.addr_serve.proofs.ServeLemmas.{serves_broken, serves_from, serves_refused, writes_same}
use Rattle.addr_serve.specs.Lines.{port_line}
use Rattle.addr_serve.proofs.serving.serve_from.Goals as goal

pub returns-in_default-clause-serves : goal.returns-in_default-clause-serves
returns-in_default-clause-serves g c = serves_refused c.args.folder.now (g.D.Depot.now c.args.depot.now).files c.args.connections (g.D.Depot.now c.args.depot.now).faults c.last_line.result (g.L.Listen.now c.args.listen.now) (g.K.Sink.now c.args.out.now).written (g.K.Sink.now c.last_line.new.out).written c.last_line.ensures.prints

pub returns-in-Ok-put-clause-serves : goal.returns-in-Ok-put-clause-serves
returns-in-Ok-put-clause-serves g c =
    serves_from c.args.folder.now (g.D.Depot.now c.args.depot.now).files c.args.connections (g.D.Depot.now c.args.depot.now).faults (g.D.Depot.now c.serve_all-ended.new.depot).faults c.args.port c.serve_all-ended.result c.last_line-in-Ok-put.result (g.L.Listen.now c.args.listen.now) (g.L.Listen.now c.serve_all-ended.new.listen)
    (g.K.Sink.now c.args.out.now).written (g.K.Sink.now c.put.new.self).written (g.K.Sink.now c.serve_all-ended.new.out).written (g.K.Sink.now c.last_line-in-Ok-put.new.out).written c.requires.bound
    (writes_same _ (port_line c.args.port) (g.K.Sink.now c.args.out.now).written (g.K.Sink.now c.put.new.self).written (search (rules)) c.in-Ok-put.ensures.bytes) c.serve_all-ended.ensures.serves c.last_line-in-Ok-put.ensures.prints

pub returns-clause-serves : goal.returns-clause-serves
returns-clause-serves g c = serves_broken c.args.folder.now (g.D.Depot.now c.args.depot.now).files c.args.connections (g.D.Depot.now c.args.depot.now).faults (g.L.Listen.now c.args.listen.now) (g.K.Sink.now c.args.out.now).written (g.K.Sink.now c.put.new.self).written
