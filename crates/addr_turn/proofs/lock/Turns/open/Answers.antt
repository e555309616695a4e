use Rattle.std.proofs.Common.{rules, refl, ap}
use Rattle.addr_turn.proofs.Kept.{opens}
use Rattle.addr_turn.proofs.lock.Turns.open.Goals as goal

pub new-requires : goal.new-requires
new-requires g c = opens _ _ _ g.S.Told.entries g.S.Told.fixed g.S.Told.number _ _ c.args.state _ refl (search rules) (ap g.S.Told.fixed c.of-about.ensures) c.requires
