use Rattle.std.proofs.Common.{arith, take, drop, ◌-◌, ◌+◌}
use Rattle.addr_http.proofs.BodyLemmas.{open_failed, open_long, open_whole, refused}
use Rattle.addr_http.specs.declared.headed.Said.TheVariants.{Open}
use Rattle.addr_http.proofs.bodies.open_body.Goals as goal

pub returns-in-Ok-Enough-clause-told : goal.returns-in-Ok-Enough-clause-told
returns-in-Ok-Enough-clause-told g c =
    let told = rw c.in-Ok-Enough.field-0-is at c.in-Ok-Enough.ensures.told in
    open_long g.P.Pour.took c.args.limit (g.C.Connect.now c.args.conn.now).faults (g.C.Connect.now c.pour_part.new.conn).faults (take (c.args.at - c.args.len) (drop c.args.len c.args.buffer.now)) c.args.into.now c.pour_part.new.into (g.C.Connect.now c.args.conn.now).talk (g.C.Connect.now c.pour_part.new.conn).talk told

pub returns-in-Ok-Ended-clause-told : goal.returns-in-Ok-Ended-clause-told
returns-in-Ok-Ended-clause-told g c =
    let told = rw c.in-Ok-Ended.field-0-is at c.in-Ok-Ended.ensures.told in
    open_whole g.P.Pour.took c.args.limit (g.C.Connect.now c.args.conn.now).faults (g.C.Connect.now c.pour_part.new.conn).faults c.in-Ok-Ended.missing c.saturating_sub.result (take (c.args.at - c.args.len) (drop c.args.len c.args.buffer.now)) c.args.into.now c.pour_part.new.into (g.C.Connect.now c.args.conn.now).talk (g.C.Connect.now c.pour_part.new.conn).talk c.saturating_sub.ensures told

pub returns-in-Ok-NoMemory-clause-told : goal.returns-in-Ok-NoMemory-clause-told
returns-in-Ok-NoMemory-clause-told g c =
    let told = rw c.in-Ok-NoMemory.field-0-is at c.in-Ok-NoMemory.ensures.told in
    refused g.P.Pour.took Open (c.args.limit + 1) c.args.limit c.args.limit (g.C.Connect.now c.args.conn.now).faults (g.C.Connect.now c.pour_part.new.conn).faults (take (c.args.at - c.args.len) (drop c.args.len c.args.buffer.now)) c.args.into.now c.pour_part.new.into (g.C.Connect.now c.args.conn.now).talk (g.C.Connect.now c.pour_part.new.conn).talk (omega arith) told

pub returns-in-Err-clause-told : goal.returns-in-Err-clause-told
returns-in-Err-clause-told g c = open_failed g.P.Pour.took c.args.limit (g.C.Connect.now c.args.conn.now).faults (g.C.Connect.now c.pour_part.new.conn).faults c.in-Err.field-0 (take (c.args.at - c.args.len) (drop c.args.len c.args.buffer.now)) c.args.into.now c.pour_part.new.into (g.C.Connect.now c.args.conn.now).talk (g.C.Connect.now c.pour_part.new.conn).talk c.in-Err.ensures.cause.failed c.in-Err.ensures.told
