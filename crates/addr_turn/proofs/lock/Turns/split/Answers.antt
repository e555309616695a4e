use Rattle.std.proofs.Common.{rules, ◌≡◌, ◌+◌, ap, sym, ◌∙◌}
use Rattle.addr_turn.specs.declared.board.View.{View}
use Rattle.addr_turn.specs.Numbers.{times}
use Rattle.addr_turn.specs.OneHistory.{domain}
use Rattle.addr_turn.specs.Steps.{with_share, kept_view, given_view}
use Rattle.addr_turn.proofs.Kept.{plans}
use Rattle.addr_turn.proofs.Splitting.{domain_cut, splits}
use Rattle.addr_turn.proofs.lock.Turns.split.Goals as goal

pub compare_exchange-requires : goal.compare_exchange-requires
compare_exchange-requires g c = (search rules, search rules, plans _ _ _ g.S.Told.entries g.S.Told.fixed g.S.Told.number _ _ c.args.pass.place.me _ (search rules))

pub split_seat-place-requires : goal.split_seat-place-requires
split_seat-place-requires g c = (search rules, search rules, splits _ _ _ g.S.Told.entries g.S.Told.fixed g.S.Told.number _ c.compare_exchange.new.seat.me.0 (search rules) (search rules) (search rules))

pub returns-clause-domains : goal.returns-clause-domains
returns-clause-domains g c = λ k. let v : View g.row.S-Entry.Denot g.row.S-Fixed.Denot = c.compare_exchange.new.seat.me.0 in
    let planned : v ≡ with_share c.from-taken.result c.args.pass.place.me.0 = search rules in
    let kept : c.split_seat-place.new.seat.me.0 ≡ kept_view v = search rules in let given : c.split_seat-place.result.me.0 ≡ given_view v = search rules in
    ap (λ (z : View g.row.S-Entry.Denot g.row.S-Fixed.Denot). times k (domain z)) (sym planned) ∙ (domain_cut k v (search rules) (search rules) ∙ (λ i. times k (domain (sym kept i)) + times k (domain (sym given i))))
