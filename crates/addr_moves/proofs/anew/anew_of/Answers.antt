use Rattle.std.proofs.Common.{◌<◌, List, get_or, length, subst, sym}
use Rattle.std.proofs.lemmas.List.Elements.{Contains-get_or}
use Rattle.addr_pack.specs.declared.bundles.PlanBundle.{PlanBundle}
use Rattle.addr_moves.specs.within.Anew.{name_under}
use Rattle.addr_moves.proofs.AnewLemmas.{anew-more}
use Rattle.addr_moves.proofs.GroupLemmas.{read-in}
use Rattle.addr_moves.proofs.anew.anew_of.Goals as goal

pub add_bundle-requires : goal.add_bundle-requires
add_bundle-requires c = λ k d within.
    let bundles = c.args.now.now.bundles in
    let i = c.loop-bundle.bundle-index in
    let bundle : PlanBundle = c.bundle-item.result in
    let small : i < length bundles = subst (λ (bs : List PlanBundle). i < length bs) c.as_slice-bundles.ensures c.loop-bundle-test.true in
    let at = read-in c.as_slice-bundles.result.now bundles i bundle c.as_slice-bundles.ensures small c.bundle-item.is in
    c.requires.entries i (get_or bundle.entries k d) (bundle, at, Contains-get_or bundle.entries k d within)

pub loop-bundle-preserved : goal.loop-bundle-preserved
loop-bundle-preserved c =
    let bundles = c.args.now.now.bundles in
    let i = c.loop-bundle.bundle-index in
    let bundle : PlanBundle = c.bundle-item.result in
    let small : i < length bundles = subst (λ (bs : List PlanBundle). i < length bs) c.as_slice-bundles.ensures c.loop-bundle-test.true in
    let at = read-in c.as_slice-bundles.result.now bundles i bundle c.as_slice-bundles.ensures small c.bundle-item.is in
    anew-more c.args.project.now c.args.now.now i bundle (name_under c.loop-bundle.anew) (name_under c.add_bundle.new.anew) at c.in_ok-add_bundle.ensures c.loop-bundle.invariant
