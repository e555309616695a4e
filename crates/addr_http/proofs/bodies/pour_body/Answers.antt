use Rattle.std.proofs.Common.{take, drop, ◌-◌}
use Rattle.addr_http.proofs.BodyLemmas.{unreadable}
use Rattle.addr_http.proofs.bodies.pour_body.Goals as goal

pub returns-in-Unreadable-clause-told : goal.returns-in-Unreadable-clause-told
returns-in-Unreadable-clause-told g c = rw c.in-Unreadable.is (unreadable g.P.Pour.took c.args.limit (g.C.Connect.now c.args.conn.now).faults (g.C.Connect.now c.args.conn.now).faults (take (c.args.at - c.args.len) (drop c.args.len c.args.buffer.now)) c.args.into.now (g.C.Connect.now c.args.conn.now).talk)
