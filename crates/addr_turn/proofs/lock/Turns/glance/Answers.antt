use Rattle.std.proofs.Common.{rules}
use Rattle.addr_turn.proofs.Kept.{glances}
use Rattle.addr_turn.proofs.lock.Turns.glance.Goals as goal

pub load-found-requires : goal.load-found-requires
load-found-requires g c = (search rules, search rules, glances _ _ _ g.S.Told.entries g.S.Told.fixed g.S.Told.number _ _ c.args.pass.now.place.me (search rules))
