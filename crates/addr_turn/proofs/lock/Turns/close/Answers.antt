use Rattle.std.proofs.Common.{rules}
use Rattle.addr_turn.specs.OneHistory.{IsKnown}
use Rattle.addr_turn.proofs.Accounts.{accounts, ends, ends_there, is_fixed}
use Rattle.addr_turn.proofs.lock.Turns.close.Goals as goal

pub unwrap-state-requires : goal.unwrap-state-requires
unwrap-state-requires g c = ends_there _ _ _ g.S.Told.entries g.S.Told.fixed g.S.Told.number _ _ _ c.await_turn.new.place.me.0 (search rules) c.close_with-closed.ensures.values.2 _ c.take.ensures.value

pub returns-clause-knows : goal.returns-clause-knows
returns-clause-knows g c = ends _ _ _ g.S.Told.entries g.S.Told.fixed g.S.Told.number _ _ _ c.args.pass.place.me.0 c.await_turn.new.place.me.0 (search rules) (search rules) (search rules) c.close_with-closed.ensures.values.2 _ (search rules)

pub returns-clause-seen : goal.returns-clause-seen
returns-clause-seen g c = let k : IsKnown g.S.Told.number (g.S.Told.entries c.unwrap-state.result) (g.S.Told.fixed c.unwrap-state.result) c.args.pass.place.me.0 = returns-clause-knows g c in
    (k.knows.prefix, is_fixed c.args.pass.place.me.0.fixed _ (search rules) k.knows.same_part)

pub returns-clause-accounted : goal.returns-clause-accounted
returns-clause-accounted g c = accounts g.S.Told.number _ _ c.args.pass.place.me.0 (returns-clause-knows g c) (search rules)
