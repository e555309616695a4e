use Rattle.std.proofs.Common.{arith}
use Rattle.addr_http.proofs.JudgeLemmas.{judged_answer}
use Rattle.addr_http.proofs.requests.judged.Goals as goal

pub returns-then-parts-head : goal.returns-then-parts-head
returns-then-parts-head c =
    let within = rw c.in-Ok-Complete.field-0-is at c.in-Ok-Complete.ensures.within in
    let complete = rw c.in-Ok-Complete.field-0-is at c.in-Ok-Complete.ensures.complete in
    judged_answer c.args.head.now c.parse_request.new.headers c.in-Ok-Complete.parts c.asked_of.result complete within (omega (arith, c.requires)) c.if-parts-head.true c.asked_of.ensures
