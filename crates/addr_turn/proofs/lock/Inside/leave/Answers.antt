use Rattle.std.proofs.Common.{rules}
use Rattle.addr_turn.proofs.Kept.{puts_home, serves}
use Rattle.addr_turn.proofs.lock.Inside.leave.Goals as goal

pub load-requires : goal.load-requires
load-requires g c = (search rules, search rules, puts_home _ _ _ g.S.Told.entries g.S.Told.fixed g.S.Told.number _ _ c.exchange.new.seat.me c.args.self.state (search rules) (search rules) (search rules) (search rules))

pub fetch_add-requires : goal.fetch_add-requires
fetch_add-requires g c = (search rules, search rules, serves _ _ _ g.S.Told.entries g.S.Told.fixed g.S.Told.number _ _ c.load.new.seat.me (search rules))
