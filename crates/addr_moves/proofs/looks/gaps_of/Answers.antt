use Rattle.std.proofs.Common.{◌+◌, List, [], get_or, take, subst, sym}
use Rattle.std.proofs.lemmas.List.{take_all, take_more}
use Rattle.addr_base.specs.declared.images.RefTo.{RefTo}
use Rattle.addr_moves.specs.within.Looks.{AreGuidsWhere, IsGapBy}
use Rattle.addr_moves.proofs.LookLemmas.{no-ref, where-more, where-none}
use Rattle.addr_moves.proofs.looks.gaps_of.Goals as goal

pub loop-r-init : goal.loop-r-init
loop-r-init c = subst (AreGuidsWhere (IsGapBy c.args.homes.now c.args.places.now c.args.bundle) []) (sym c.new-gaps.ensures) (where-none (IsGapBy c.args.homes.now c.args.places.now c.args.bundle))

pub loop-r-preserved : goal.loop-r-preserved
loop-r-preserved c =
    let refs = c.args.refs.now in
    let i = c.loop-r.r-index in
    subst (λ (rs : List RefTo). AreGuidsWhere (IsGapBy c.args.homes.now c.args.places.now c.args.bundle) rs c.add_if.new.guids) (sym (take_more refs i no-ref c.loop-r-test.true))
    (subst (AreGuidsWhere (IsGapBy c.args.homes.now c.args.places.now c.args.bundle) _) (sym c.in_ok-add_if.ensures) (where-more (IsGapBy c.args.homes.now c.args.places.now c.args.bundle) (take i refs) (get_or refs i no-ref) c.loop-r.gaps c.is_gap.result c.is_gap.ensures c.loop-r.invariant))

pub returns : goal.returns
returns c = subst (λ (rs : List RefTo). AreGuidsWhere (IsGapBy c.args.homes.now c.args.places.now c.args.bundle) rs c.loop-r.gaps) (take_all c.loop-r.r-index c.args.refs.now c.loop-r-test.false) c.loop-r.invariant
