use Rattle.std.proofs.Common.{rules, ℕ, arith, ◌≡◌, ◌≤◌, ◌+◌, List, length, ap, sym, subst, ◌∙◌}
use Rattle.addr_turn.specs.declared.board.View.{View}
use Rattle.addr_turn.specs.Numbers.{times}
use Rattle.addr_turn.specs.OneHistory.{IsPrefix, domain}
use Rattle.addr_turn.specs.Steps.{met_view}
use Rattle.addr_turn.proofs.Prefixes.{prefix_of_longer}
use Rattle.addr_turn.proofs.Kept.{compares}
use Rattle.addr_turn.proofs.Meeting.{joins, both_prefixes, length-longer, met_domain}
use Rattle.addr_turn.proofs.lock.Turns.meet.Goals as goal

pub join_seat-requires : goal.join_seat-requires
join_seat-requires g c = (search rules, search rules, search rules, search rules, joins _ _ _ g.S.Told.entries g.S.Told.fixed g.S.Told.number _ c.args.first.place.me.0 _ c.args.second.place.me.0 (search rules) (search rules))

pub load-requires : goal.load-requires
load-requires g c = (search rules, search rules, compares _ _ _ g.S.Told.entries g.S.Told.fixed g.S.Told.number _ _ c.join_seat.new.seat.me (search rules))

pub invariant_of-both-clause-counted : goal.invariant_of-both-clause-counted
invariant_of-both-clause-counted g c = let v : View g.row.S-Entry.Denot g.row.S-Fixed.Denot = met_view c.args.first.place.me.0 c.args.second.place.me.0 in
    let same : c.load.new.seat.me.0 ≡ v = search rules in
    ap (λ (z : View g.row.S-Entry.Denot g.row.S-Fixed.Denot). length z.seen) same ∙ (length-longer c.args.first.place.me.0.seen c.args.second.place.me.0.seen ∙ (search rules))

pub returns-clause-one_history : goal.returns-clause-one_history
returns-clause-one_history g c = let xs : List g.row.S-Entry.Denot = c.args.first.place.me.0.seen in let ys : List g.row.S-Entry.Denot = c.args.second.place.me.0.seen in
    let v : View g.row.S-Entry.Denot g.row.S-Fixed.Denot = met_view c.args.first.place.me.0 c.args.second.place.me.0 in
    let joined : c.join_seat.new.seat.me.0 ≡ v = search rules in let same : c.load.new.seat.me.0 ≡ v = search rules in
    let known = c.load.ensures.2.1 in
    let prefixes = both_prefixes xs ys (subst (λ (z : View g.row.S-Entry.Denot g.row.S-Fixed.Denot). length z.shorter ≤ length z.seen → IsPrefix z.shorter z.seen) joined
    (λ l. prefix_of_longer c.join_seat.new.seat.me.0.shorter c.join_seat.new.seat.me.0.seen known.0 known.2.knows.shorter known.2.knows.prefix l)) in
    subst (λ (z : List g.row.S-Entry.Denot). IsPrefix xs z × IsPrefix ys z) (ap (λ (z : View g.row.S-Entry.Denot g.row.S-Fixed.Denot). z.seen) (sym same)) prefixes

pub returns-clause-domains : goal.returns-clause-domains
returns-clause-domains g c = let v : View g.row.S-Entry.Denot g.row.S-Fixed.Denot = met_view c.args.first.place.me.0 c.args.second.place.me.0 in
    let joined : c.join_seat.new.seat.me.0 ≡ v = search rules in let same : c.load.new.seat.me.0 ≡ v = search rules in
    let both : (k : ℕ) → times k (domain v) ≡ times k (domain c.args.first.place.me.0) + times k (domain c.args.second.place.me.0) = λ k. met_domain k c.args.first.place.me.0 c.args.second.place.me.0 in (
      (λ k. ap (λ (z : View g.row.S-Entry.Denot g.row.S-Fixed.Denot). times k (domain z)) same ∙ both k),
      λ k low. let one = subst (λ (z : View g.row.S-Entry.Denot g.row.S-Fixed.Denot). times k (domain z) ≤ 1) joined (c.load.ensures.2.1.2.apart k low) in let sum = both k in omega (arith, one, sum),
    )
