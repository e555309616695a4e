use Rattle.std.proofs.Common.{rules}
use Rattle.addr_turn.proofs.Kept.{draws, looks}
use Rattle.addr_turn.proofs.inside.await_turn.Goals as goal

pub fetch_add-ticket-requires : goal.fetch_add-ticket-requires
fetch_add-ticket-requires g c = (search rules, search rules, draws _ _ _ g.S.Told.entries g.S.Told.fixed g.S.Told.number _ _ c.args.place.now.me (search rules))

pub load-requires : goal.load-requires
load-requires g c = (search rules, search rules, looks _ _ _ g.S.Told.entries g.S.Told.fixed g.S.Told.number _ _ c.loop.place.me (search rules))
