use Rattle.std.proofs.Common.{◌≡◌, arith, length, take, drop, ◌-◌}
use Rattle.std.proofs.lemmas.List.{length-take, length-drop}
use Rattle.addr_http.proofs.BodyLemmas.{takes_both, takes_refused}
use Rattle.addr_http.proofs.bodies.pour_part.Goals as goal

pub returns-in-Ok-clause-told : goal.returns-in-Ok-clause-told
returns-in-Ok-clause-told g c =
    let there : c.args.at - c.args.len ≡ length (take (c.args.at - c.args.len) (drop c.args.len c.args.buffer.now)) = omega (arith, length-take (c.args.at - c.args.len) (drop c.args.len c.args.buffer.now), length-drop c.args.len c.args.buffer.now, c.requires.within) in
    takes_both g.P.Pour.took c.args.total c.args.room (c.args.at - c.args.len) (take (c.args.at - c.args.len) (drop c.args.len c.args.buffer.now)) c.collect.result c.args.into.now c.pour_front.new.into c.collect.new.into (g.C.Connect.now c.args.conn.now).talk (g.C.Connect.now c.collect.new.conn).talk there c.in-Ok.ensures.ok (rw (c.saturating_sub.ensures, c.saturating_sub-in-Ok.ensures) at c.collect.ensures.told)

pub returns-in-Err-clause-told : goal.returns-in-Err-clause-told
returns-in-Err-clause-told g c = takes_refused g.P.Pour.took c.args.total c.args.room (take (c.args.at - c.args.len) (drop c.args.len c.args.buffer.now)) c.args.into.now c.pour_front.new.into (g.C.Connect.now c.args.conn.now).talk c.in-Err.ensures.err
