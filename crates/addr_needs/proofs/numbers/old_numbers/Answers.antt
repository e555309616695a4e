use Rattle.std.proofs.Common.{◌+◌, List, take, subst, sym}
use Rattle.std.proofs.lemmas.List.{take_all}
use Rattle.std.proofs.lemmas.Slice.Zip.{AllZip-long}
use Rattle.std.specs.List.{AllZip}
use Rattle.addr_pack.specs.declared.bundles.PlanBundle.{PlanBundle}
use Rattle.addr_state.specs.declared.model.StateBundle.{StateBundle}
use Rattle.addr_walks.proofs.Zips.{zip-more}
use Rattle.addr_needs.specs.Numbers.{IsNumberOf}
use Rattle.addr_needs.proofs.numbers.old_numbers.Goals as goal

pub loop-bundle-preserved : goal.loop-bundle-preserved
loop-bundle-preserved c =
    let olds = c.args.state.now.bundles in
    let i = c.loop-bundle.bundle-index in
    let items = c.as_slice-bundle-items.result.now in
    let bundle : PlanBundle = c.bundle-item.result in
    let before = subst (λ (bs : List PlanBundle). AllZip (IsNumberOf olds) (take i bs) c.loop-bundle.numbers) (sym c.as_slice-bundle-items.ensures) c.loop-bundle.invariant in
    let one = subst (λ (bs : List StateBundle). IsNumberOf bs bundle c.number_of.result) c.as_slice-olds.ensures c.number_of.ensures in
    let zip = subst (AllZip (IsNumberOf olds) (take (i + 1) items)) (sym c.in_ok-push.ensures.ok)
    (zip-more (IsNumberOf olds) items c.loop-bundle.numbers i bundle c.number_of.result c.loop-bundle-test.true c.bundle-item.is before one) in
    subst (λ (bs : List PlanBundle). AllZip (IsNumberOf olds) (take (i + 1) bs) c.push.new.self) c.as_slice-bundle-items.ensures zip

pub returns-clause-many : goal.returns-clause-many
returns-clause-many c =
    let bundles = c.args.plan.now.bundles in
    let i = c.loop-bundle.bundle-index in
    let olds = c.args.state.now.bundles in
    let past = rw c.as_slice-bundle-items.ensures at c.loop-bundle-test.false in
    AllZip-long (IsNumberOf olds) bundles c.loop-bundle.numbers (subst (λ (bs : List PlanBundle). AllZip (IsNumberOf olds) bs c.loop-bundle.numbers) (take_all i bundles past) c.loop-bundle.invariant)
