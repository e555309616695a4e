use Rattle.std.proofs.Common.{◌<◌, [], length, get_or, ap, arith}
use Rattle.addr_layout.specs.declared.model.RefHome.TheVariants.{Own}
use Rattle.addr_base.specs.declared.images.RefTo.{RefTo}
use Rattle.addr_images.specs.within.Told.{ref_told, refs_told}
use Rattle.addr_images.proofs.ToldLemmas.{map-zip-more, map-zip-all}
use Rattle.addr_images.proofs.images.refs_told.Goals as goal

pub loop-k-preserved : goal.loop-k-preserved
loop-k-preserved c =
    let plan = c.args.plan.now in
    let guids = c.args.guids.now in
    let homes = c.args.homes.now in
    let also : c.loop-k.k < length guids = (let test = c.loop-k-test.true in let same = c.requires in omega (arith, test, same)) in
    map-zip-more (λ q. ref_told plan q.0 q.1) guids homes c.loop-k.k (record { 0 = [] }) Own c.loop-k.refs c.push.new.self _ also c.loop-k-test.true c.loop-k.invariant c.in_ok-push.ensures.ok
    (ap (λ h. let r : RefTo = record { guid = get_or guids c.loop-k.k (record { 0 = [] }); home = h } in r) c.home_told-home.ensures)

pub returns : goal.returns
unfolding refs_told
returns c =
    let plan = c.args.plan.now in
    map-zip-all (λ q. ref_told plan q.0 q.1) c.args.guids.now c.args.homes.now c.loop-k.k c.loop-k.refs (let past = c.loop-k-test.false in omega (arith, past)) c.loop-k.invariant
