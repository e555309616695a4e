use Rattle.std.proofs.Common.{◌≤◌, ℕ, List, length, get_or, ap, subst, ◌∙◌, arith}
use Rattle.std.proofs.lemmas.List.Elements.{Contains-get_or}
use Rattle.std.specs.List.{Contains}
use Rattle.addr_layout.proofs.RankLemmas.{read-at}
use Rattle.addr_images.proofs.EntryLemmas.{owners-done, owners-in, owners-next}
use Rattle.addr_images.proofs.owners.owners_of.Goals as goal

pub own_all-requires : goal.own_all-requires
own_all-requires c = λ k d within.
    let plan = c.args.plan.now in
    let bundle = c.bundle-item.result in
    let at = read-at c.as_slice-bundle-items.result.now plan.bundles c.loop-b.b bundle c.as_slice-bundle-items.ensures c.loop-b-test.true c.bundle-item.is in
    let here = subst (λ (xs : List ℕ). Contains xs (get_or c.as_slice.result.now k d)) c.as_slice.ensures (Contains-get_or c.as_slice.result.now k d within) in
    let below = c.requires.shared.entries c.loop-b.b (get_or c.as_slice.result.now k d) (bundle, at, here) in
    let long = c.loop-b.invariant.len in
    omega (arith, below, long)

pub loop-b-preserved : goal.loop-b-preserved
loop-b-preserved c =
    let plan = c.args.plan.now in
    let bundle = c.bundle-item.result in
    let at = read-at c.as_slice-bundle-items.result.now plan.bundles c.loop-b.b bundle c.as_slice-bundle-items.ensures c.loop-b-test.true c.bundle-item.is in
    record {
      len = c.own_all.ensures.len ∙ c.loop-b.invariant.len;
      owners = owners-next plan c.loop-b.b bundle c.as_slice.result.now c.loop-b.owners.items c.own_all.new.owners.items at c.as_slice.ensures c.loop-b.invariant.owners c.own_all.ensures.replaces;
    }

pub returns : goal.returns
returns c =
    let plan = c.args.plan.now in
    let past : length plan.bundles ≤ c.loop-b.b = (let test = c.loop-b-test.false in let same = ap length c.as_slice-bundle-items.ensures in omega (arith, test, same)) in
    owners-in c.args.project.now plan c.loop-b.owners.items c.requires.shared (let len = c.loop-b.invariant.len in omega (arith, len)) (owners-done plan c.loop-b.b c.loop-b.owners.items past c.loop-b.invariant.owners)
