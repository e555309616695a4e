use Rattle.std.proofs.Common.{List, map, subst}
use Rattle.addr_base.specs.declared.ids.Guid.{Guid}
use Rattle.addr_moves.specs.Firsts.{AreFirsts, number_under}
use Rattle.addr_moves.specs.within.Leasts.{IsLeastIn}
use Rattle.addr_moves.proofs.ChangeLemmas.{changed-least}
use Rattle.addr_moves.proofs.changing.changed_among.Goals as goal

pub returns : goal.returns
returns c =
    let see = number_under c.in_ok-seen_at.seen_at in
    let spoil = number_under c.in_ok-spoilt_at.spoilt_at in
    changed-least c.args.project.now c.args.places.now c.args.spoils.now c.args.reached.now c.args.found.now c.in_ok-seen.seen c.in_ok-spoilt.spoilt c.in_ok-seen.ensures c.in_ok-spoilt.ensures see spoil
    (subst (λ (gs : List Guid). AreFirsts (map (λ (g : Guid). g.0) gs) see) c.as_slice.ensures c.in_ok-seen_at.ensures)
    (subst (λ (gs : List Guid). AreFirsts (map (λ (g : Guid). g.0) gs) spoil) c.as_slice-2.ensures c.in_ok-spoilt_at.ensures)
    c.in_ok-unsettled.unsettled c.least_of.result c.in_ok-unsettled.ensures
    (subst (λ (gs : List Guid). IsLeastIn gs c.least_of.result) c.as_slice-3.ensures c.least_of.ensures)
