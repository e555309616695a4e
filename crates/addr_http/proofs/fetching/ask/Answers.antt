use Rattle.addr_http.proofs.ConversationLemmas.{asks_of}
use Rattle.addr_http.proofs.fetching.ask.Goals as goal

pub returns-clause-told : goal.returns-clause-told
returns-clause-told g c = asks_of g.P.Pour.took c.args.limit (g.C.Connect.now c.args.conn.now).faults (g.C.Connect.now c.ask_in.new.conn).faults c.args.request.now.bytes.now c.ask_in.result c.args.into.now c.ask_in.new.into (g.C.Connect.now c.args.conn.now).talk (g.C.Connect.now c.ask_in.new.conn).talk c.ask_in.ensures.told
