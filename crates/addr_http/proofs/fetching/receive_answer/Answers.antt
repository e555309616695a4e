use Rattle.std.proofs.Common.{ap, arith, refl}
use Rattle.addr_http.specs.Received.{received_head}
use Rattle.addr_http.specs.Received.End.{neither}
use Rattle.addr_http.specs.declared.headed.Headed.{Headed}
use Rattle.addr_http.proofs.ConversationLemmas.{serves_body, serves_failed, serves_head, serves_unreadable}
use Rattle.addr_http.proofs.fetching.receive_answer.Goals as goal

pub returns-in-Unreadable-clause-told : goal.returns-in-Unreadable-clause-told
returns-in-Unreadable-clause-told g c =
    let told = rw c.in-Ok-Whole.field-0-is at c.in-Ok-Whole.ensures.told in
    serves_head g.P.Pour.took c.args.limit (g.C.Connect.now c.args.conn.now).faults (g.C.Connect.now c.receive_front.new.conn).faults c.in-Ok-Whole.len c.in-Ok-Whole.at c.receive_front.new.buffer c.in-Ok-Whole.headed _ _ c.args.into.now (g.C.Connect.now c.args.conn.now).talk (g.C.Connect.now c.receive_front.new.conn).talk told (λ body. ap (λ (h : Headed). received_head h c.args.limit body neither) c.in-Unreadable.is) refl tt

pub returns-in-Missing-clause-told : goal.returns-in-Missing-clause-told
returns-in-Missing-clause-told g c =
    let told = rw c.in-Ok-Whole.field-0-is at c.in-Ok-Whole.ensures.told in
    serves_head g.P.Pour.took c.args.limit (g.C.Connect.now c.args.conn.now).faults (g.C.Connect.now c.receive_front.new.conn).faults c.in-Ok-Whole.len c.in-Ok-Whole.at c.receive_front.new.buffer c.in-Ok-Whole.headed _ _ c.args.into.now (g.C.Connect.now c.args.conn.now).talk (g.C.Connect.now c.receive_front.new.conn).talk told (λ body. ap (λ (h : Headed). received_head h c.args.limit body neither) c.in-Missing.is) refl tt

pub returns-in-Refused-clause-told : goal.returns-in-Refused-clause-told
returns-in-Refused-clause-told g c =
    let told = rw c.in-Ok-Whole.field-0-is at c.in-Ok-Whole.ensures.told in
    serves_head g.P.Pour.took c.args.limit (g.C.Connect.now c.args.conn.now).faults (g.C.Connect.now c.receive_front.new.conn).faults c.in-Ok-Whole.len c.in-Ok-Whole.at c.receive_front.new.buffer c.in-Ok-Whole.headed _ _ c.args.into.now (g.C.Connect.now c.args.conn.now).talk (g.C.Connect.now c.receive_front.new.conn).talk told (λ body. ap (λ (h : Headed). received_head h c.args.limit body neither) c.in-Refused.is) refl tt

pub returns-in-Body-clause-told : goal.returns-in-Body-clause-told
returns-in-Body-clause-told g c =
    let told = rw c.in-Ok-Whole.field-0-is at c.in-Ok-Whole.ensures.told in
    let inside = rw c.in-Ok-Whole.field-0-is at c.in-Ok-Whole.ensures.inside in
    serves_body g.P.Pour.took c.args.limit (g.C.Connect.now c.args.conn.now).faults (g.C.Connect.now c.receive_front.new.conn).faults (g.C.Connect.now c.pour_body.new.conn).faults c.in-Ok-Whole.len c.in-Ok-Whole.at c.receive_front.new.buffer c.in-Ok-Whole.headed c.in-Body.said c.pour_body.result c.args.into.now c.pour_body.new.into (g.C.Connect.now c.args.conn.now).talk (g.C.Connect.now c.receive_front.new.conn).talk (g.C.Connect.now c.pour_body.new.conn).talk told c.in-Body.is (omega (arith, inside.1, c.receive_front.ensures.buffer_len, c.requires.buffer)) c.in-Ok-Whole.ensures.cause.same c.pour_body.ensures.told

pub returns-in-Ok-Unreadable-clause-told : goal.returns-in-Ok-Unreadable-clause-told
returns-in-Ok-Unreadable-clause-told g c =
    let told = rw c.in-Ok-Unreadable.field-0-is at c.in-Ok-Unreadable.ensures.told in
    serves_unreadable g.P.Pour.took c.args.limit (g.C.Connect.now c.args.conn.now).faults (g.C.Connect.now c.receive_front.new.conn).faults c.receive_front.new.buffer c.args.into.now (g.C.Connect.now c.args.conn.now).talk (g.C.Connect.now c.receive_front.new.conn).talk told

pub returns-in-Err-clause-told : goal.returns-in-Err-clause-told
returns-in-Err-clause-told g c = serves_failed g.P.Pour.took c.args.limit (g.C.Connect.now c.args.conn.now).faults (g.C.Connect.now c.receive_front.new.conn).faults c.receive_front.new.buffer c.in-Err.field-0 c.args.into.now (g.C.Connect.now c.args.conn.now).talk (g.C.Connect.now c.receive_front.new.conn).talk c.in-Err.ensures.cause.failed c.in-Err.ensures.told
