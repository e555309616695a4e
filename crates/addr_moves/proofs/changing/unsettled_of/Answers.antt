use Rattle.std.proofs.Common.{◌≡◌, ◌<◌, ◌+◌, List, length, get_or, take, subst, sym, ap, []}
use Rattle.std.proofs.lemmas.List.{take_all, take_more}
use Rattle.addr_project.specs.declared.model.Asset.{Asset}
use Rattle.addr_moves.specs.Firsts.{number_under}
use Rattle.addr_moves.specs.within.Changing.{AreUnsettled}
use Rattle.addr_moves.proofs.ChangeLemmas.{unsettled-more, unsettled-none}
use Rattle.addr_moves.proofs.GroupLemmas.{read-in}
use Rattle.addr_moves.proofs.changing.unsettled_of.Goals as goal

pub loop-n-init : goal.loop-n-init
loop-n-init c =
    let seen = number_under c.args.seen.now in
    let spoilt = number_under c.args.spoilt.now in
    subst (AreUnsettled c.args.project.now seen spoilt []) (sym c.new-guids.ensures) (unsettled-none c.args.project.now seen spoilt)

pub loop-n-preserved : goal.loop-n-preserved
loop-n-preserved c =
    let p = c.args.project.now in
    let seen = number_under c.args.seen.now in
    let spoilt = number_under c.args.spoilt.now in
    let reached = c.args.reached.now in
    let i = c.loop-n.n-index in
    let n = get_or reached i 0 in
    let within : i < length reached = c.loop-n-test.true in
    let asset : Asset = c.index-assets-n.result in
    let at = read-in c.assets-assets.result.now p.assets n asset c.assets-assets.ensures (c.requires i 0 within) c.index-assets-n.is in
    subst (λ ns. AreUnsettled p seen spoilt ns c.add_if.new.guids) (sym (take_more reached i 0 within))
    (subst (AreUnsettled p seen spoilt _) (sym c.in_ok-add_if.ensures) (unsettled-more p seen spoilt (take i reached) n _ c.loop-n.guids c.is_unsettled.result (asset, at, ap (λ (a : Asset). a.guid) c.index-assets-n.is) c.is_unsettled.ensures c.loop-n.invariant))

pub returns : goal.returns
returns c = subst (λ ns. AreUnsettled c.args.project.now (number_under c.args.seen.now) (number_under c.args.spoilt.now) ns c.loop-n.guids) (take_all c.loop-n.n-index c.args.reached.now c.loop-n-test.false) c.loop-n.invariant
