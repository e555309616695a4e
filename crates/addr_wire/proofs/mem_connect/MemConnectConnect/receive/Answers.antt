use Rattle.std.proofs.Common.{rules, arith}
use Rattle.std.proofs.lemmas.Grind.{common_steps}
use Rattle.addr_wire.proofs.FakeLemmas.{said}
use Rattle.addr_wire.proofs.mem_connect.MemConnectConnect.receive.Goals as goal

pub returns-clause-receives : goal.returns-clause-receives
returns-clause-receives c = record {
  talk_is = said c.args.self.now.sent.items _ _ c.args.self.now.at c.copy_front-count.result c.args.self.now.answer.items c.copy_front-count.new.into (grind (arith, common_steps)) c.ends-self.ensures;
  cause = search (rules);
}
