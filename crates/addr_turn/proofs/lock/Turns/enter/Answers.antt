use Rattle.std.proofs.Common.{rules, sym, ap, ◌∙◌, ◌∷◌, Some}
use Rattle.atomic_table.specs.Table.{rest}
use Rattle.addr_turn.proofs.Kept.{glances_in_turn, takes_out}
use Rattle.addr_turn.proofs.lock.Turns.enter.Goals as goal

pub load-pass-requires : goal.load-pass-requires
load-pass-requires g c = (search rules, search rules, glances_in_turn _ _ _ g.S.Told.entries g.S.Told.fixed g.S.Told.number _ _ c.await_turn.new.place.me (search rules))

pub load-requires : goal.load-requires
load-requires g c = (search rules, search rules, takes_out _ _ _ g.S.Told.entries g.S.Told.fixed g.S.Told.number _ _ c.load-pass.new.seat.me (search rules))

pub exchange-requires : goal.exchange-requires
exchange-requires g c = let out = c.load.ensures.2 in (search rules, (Some out.0, ap (λ m. m.1) out.2 ∙ ap (λ cs. (0, Some out.0) ∷ rest cs) (sym (ap (λ m. m.1) out.2))))
