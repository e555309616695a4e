use Rattle.std.proofs.Common.{arith, take, drop, ◌-◌}
use Rattle.addr_http.proofs.BodyLemmas.{refused, sized_failed, sized_long, sized_short, sized_whole}
use Rattle.addr_http.specs.declared.headed.Said.TheVariants.{Sized}
use Rattle.addr_http.proofs.bodies.sized.Goals as goal

pub returns-then-size-limit-clause-told : goal.returns-then-size-limit-clause-told
returns-then-size-limit-clause-told g c = sized_long g.P.Pour.took c.args.size c.args.limit (g.C.Connect.now c.args.conn.now).faults (g.C.Connect.now c.args.conn.now).faults (take (c.args.at - c.args.len) (drop c.args.len c.args.buffer.now)) c.args.into.now (g.C.Connect.now c.args.conn.now).talk (omega (arith, c.if-size-limit.true))

pub returns-in-Ok-Enough-clause-told : goal.returns-in-Ok-Enough-clause-told
returns-in-Ok-Enough-clause-told g c =
    let told = rw c.in-Ok-Enough.field-0-is at c.in-Ok-Enough.ensures.told in
    sized_whole g.P.Pour.took c.args.size c.args.limit (g.C.Connect.now c.args.conn.now).faults (g.C.Connect.now c.pour_part.new.conn).faults (take (c.args.at - c.args.len) (drop c.args.len c.args.buffer.now)) c.args.into.now c.pour_part.new.into (g.C.Connect.now c.args.conn.now).talk (g.C.Connect.now c.pour_part.new.conn).talk (omega (arith, c.if-size-limit.false)) told

pub returns-in-Ok-Ended-clause-told : goal.returns-in-Ok-Ended-clause-told
returns-in-Ok-Ended-clause-told g c =
    let told = rw c.in-Ok-Ended.field-0-is at c.in-Ok-Ended.ensures.told in
    sized_short g.P.Pour.took c.args.size c.args.limit (g.C.Connect.now c.args.conn.now).faults (g.C.Connect.now c.pour_part.new.conn).faults _ (take (c.args.at - c.args.len) (drop c.args.len c.args.buffer.now)) c.args.into.now c.pour_part.new.into (g.C.Connect.now c.args.conn.now).talk (g.C.Connect.now c.pour_part.new.conn).talk (omega (arith, c.if-size-limit.false)) told

pub returns-in-Ok-NoMemory-clause-told : goal.returns-in-Ok-NoMemory-clause-told
returns-in-Ok-NoMemory-clause-told g c =
    let told = rw c.in-Ok-NoMemory.field-0-is at c.in-Ok-NoMemory.ensures.told in
    refused g.P.Pour.took (Sized c.args.size) c.args.size c.args.size c.args.limit (g.C.Connect.now c.args.conn.now).faults (g.C.Connect.now c.pour_part.new.conn).faults (take (c.args.at - c.args.len) (drop c.args.len c.args.buffer.now)) c.args.into.now c.pour_part.new.into (g.C.Connect.now c.args.conn.now).talk (g.C.Connect.now c.pour_part.new.conn).talk (omega (arith, c.if-size-limit.false)) told

pub returns-in-Err-clause-told : goal.returns-in-Err-clause-told
returns-in-Err-clause-told g c = sized_failed g.P.Pour.took c.args.size c.args.limit (g.C.Connect.now c.args.conn.now).faults (g.C.Connect.now c.pour_part.new.conn).faults c.in-Err.field-0 (take (c.args.at - c.args.len) (drop c.args.len c.args.buffer.now)) c.args.into.now c.pour_part.new.into (g.C.Connect.now c.args.conn.now).talk (g.C.Connect.now c.pour_part.new.conn).talk (omega (arith, c.if-size-limit.false)) c.in-Err.ensures.cause.failed c.in-Err.ensures.told
