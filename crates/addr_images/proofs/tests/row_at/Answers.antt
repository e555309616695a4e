use Rattle.std.proofs.Common.{◌<◌, length, ap, subst, ◌∙◌, arith}
use Rattle.addr_layout.proofs.RankLemmas.{read-at}
use Rattle.addr_release.specs.Built.{IsRowOf}
use Rattle.addr_images.specs.Sides.{group_side}
use Rattle.addr_images.proofs.BundleRowLemmas.{bundle-row}
use Rattle.addr_images.proofs.tests.row_at.Goals as goal

pub file_of-requires-clause-new : goal.file_of-requires-clause-new
file_of-requires-clause-new c =
    let bundle = c.index-as_slice-b.result in
    let within : c.args.b < length c.as_slice.result.now = (let w = c.requires.within in let e = ap length c.as_slice.ensures in omega (arith, w, e)) in
    let at = read-at c.as_slice.result.now c.args.plan.now.bundles c.args.b bundle c.as_slice.ensures within c.index-as_slice-b.is in
    (bundle, at, c.placement_is_shared.ensures.new c.args.b bundle at)

pub returns : goal.returns
returns c =
    let bundle = c.index-as_slice-b.result in
    let within : c.args.b < length c.as_slice.result.now = (let w = c.requires.within in let e = ap length c.as_slice.ensures in omega (arith, w, e)) in
    let at = read-at c.as_slice.result.now c.args.plan.now.bundles c.args.b bundle c.as_slice.ensures within c.index-as_slice-b.is in
    let named = c.name_laws.ensures.begin c.args.plan.now c.requires.placed c.args.b bundle at in
    let side = c.side_of-remote.ensures ∙ ap group_side named.at in
    let told = subst (λ f. IsRowOf c.args.project.now c.side_of-remote.result bundle f c.in_ok-row.row) c.deref.ensures.value c.in_ok-row.ensures in
    bundle-row c.args.project.now c.args.plan.now c.args.b bundle named.group c.side_of-remote.result c.in_ok-file.file.items c.in_ok-row.row at named.at side c.in_ok-file.ensures told
