use Rattle.std.proofs.Common.{◌<◌, length, get_or, ap, ◌∙◌, arith}
use Rattle.std.proofs.lemmas.List.Elements.{Contains-get_or}
use Rattle.addr_layout.proofs.RankLemmas.{read-at}
use Rattle.addr_pack.specs.declared.bundles.PlanBundle.{PlanBundle}
use Rattle.addr_images.proofs.SizeLemmas.{size-new, size-small}
use Rattle.addr_images.proofs.ToldLemmas.{new-full}
use Rattle.addr_images.proofs.WritingLemmas.{members-below}
use Rattle.addr_images.proofs.sizes.size_at.Goals as goal

pub laid_size-requires : goal.laid_size-requires
laid_size-requires c = λ k d within.
    let p = c.args.project.now in
    let plan = c.args.plan.now in
    let bundle = c.index-as_slice-b.result in
    let lay = c.index-as_slice-b-2.result in
    let below : c.args.b < length c.as_slice.result.now = (let w = c.requires.within in let e = ap length c.as_slice.ensures in omega (arith, w, e)) in
    let also : c.args.b < length c.as_slice-2.result.now = (let w = c.requires.within in let long = c.requires.laid.as_many in let e = ap length c.as_slice-2.ensures in omega (arith, w, long, e)) in
    let at = read-at c.as_slice.result.now plan.bundles c.args.b bundle c.as_slice.ensures below c.index-as_slice-b.is in
    let there = read-at c.as_slice-2.result.now c.args.layout.now.bundles c.args.b lay c.as_slice-2.ensures also c.index-as_slice-b-2.is in
    let new = ap (λ (q : PlanBundle). q.kept) c.index-as_slice-b.is ∙ c.if-as_slice-b.false in
    let full = new-full p plan c.args.layout.now c.requires.laid c.args.b lay (bundle, at, new) there in
    members-below p plan c.args.b lay c.kept.ensures full (get_or lay.members k d) (Contains-get_or lay.members k d within)

pub returns-clause-size : goal.returns-clause-size
returns-clause-size c =
    let p = c.args.project.now in
    let plan = c.args.plan.now in
    let bundle = c.index-as_slice-b.result in
    let lay = c.index-as_slice-b-2.result in
    let below : c.args.b < length c.as_slice.result.now = (let w = c.requires.within in let e = ap length c.as_slice.ensures in omega (arith, w, e)) in
    let also : c.args.b < length c.as_slice-2.result.now = (let w = c.requires.within in let long = c.requires.laid.as_many in let e = ap length c.as_slice-2.ensures in omega (arith, w, long, e)) in
    let at = read-at c.as_slice.result.now plan.bundles c.args.b bundle c.as_slice.ensures below c.index-as_slice-b.is in
    let there = read-at c.as_slice-2.result.now c.args.layout.now.bundles c.args.b lay c.as_slice-2.ensures also c.index-as_slice-b-2.is in
    let new = ap (λ (q : PlanBundle). q.kept) c.index-as_slice-b.is ∙ c.if-as_slice-b.false in
    let full = new-full p plan c.args.layout.now c.requires.laid c.args.b lay (bundle, at, new) there in
    size-new p plan c.args.b bundle lay c.in_ok-size.size c.kept.ensures c.requires.shared full c.table_laws.ensures.nodes c.bundle_laws.ensures.size at new c.in_ok-size.ensures

pub returns-clause-small : goal.returns-clause-small
returns-clause-small c =
    let p = c.args.project.now in
    let plan = c.args.plan.now in
    let bundle = c.index-as_slice-b.result in
    let lay = c.index-as_slice-b-2.result in
    let below : c.args.b < length c.as_slice.result.now = (let w = c.requires.within in let e = ap length c.as_slice.ensures in omega (arith, w, e)) in
    let also : c.args.b < length c.as_slice-2.result.now = (let w = c.requires.within in let long = c.requires.laid.as_many in let e = ap length c.as_slice-2.ensures in omega (arith, w, long, e)) in
    let at = read-at c.as_slice.result.now plan.bundles c.args.b bundle c.as_slice.ensures below c.index-as_slice-b.is in
    let there = read-at c.as_slice-2.result.now c.args.layout.now.bundles c.args.b lay c.as_slice-2.ensures also c.index-as_slice-b-2.is in
    let new = ap (λ (q : PlanBundle). q.kept) c.index-as_slice-b.is ∙ c.if-as_slice-b.false in
    let full = new-full p plan c.args.layout.now c.requires.laid c.args.b lay (bundle, at, new) there in
    size-small p plan c.args.b lay c.in_ok-size.size c.kept.ensures c.requires.shared full c.in_ok-size.ensures
