use Rattle.std.proofs.Common.{◌∙◌}
use Rattle.addr_http.proofs.ConversationLemmas.{asked_whole}
use Rattle.addr_http.proofs.fetching.ask_in.Goals as goal

pub returns-in-Ok-send-clause-told : goal.returns-in-Ok-send-clause-told
returns-in-Ok-send-clause-told g c =
    asked_whole g.P.Pour.took c.args.limit (g.C.Connect.now c.args.conn.now).faults (g.C.Connect.now c.send.new.self).faults (g.C.Connect.now c.receive_answer.new.conn).faults c.args.request.now.bytes.now c.receive_answer.result c.args.into.now c.receive_answer.new.into (g.C.Connect.now c.args.conn.now).talk (g.C.Connect.now c.open.new.self).talk (g.C.Connect.now c.send.new.self).talk (g.C.Connect.now c.receive_answer.new.conn).talk
    c.in-Ok.ensures.talk_is c.in-Ok-send.ensures.talk_is (c.in-Ok-send.ensures.cause.same ∙ c.in-Ok.ensures.cause.same) c.receive_answer.ensures.told
