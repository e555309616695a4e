use Rattle.std.proofs.Common.{refl, arith, rules}
use Rattle.std.proofs.lemmas.Slice.{take-put_mid}
use Rattle.addr_http.proofs.ReceivingLemmas.{hears_at}
use Rattle.addr_http.proofs.receiving.receive_at.Goals as goal

pub returns-clause-told : goal.returns-clause-told
returns-clause-told g c = hears_at c.args.at c.args.buffer.now c.receive.new.into _ (g.C.Connect.now c.args.conn.now).talk (g.C.Connect.now c.receive.new.self).talk c.receive.result c.requires (search (rules)) c.receive.ensures.within (take-put_mid c.args.at _ c.args.buffer.now c.receive.new.into _ refl (omega (arith, c.requires))) c.receive.ensures.receives.talk_is
