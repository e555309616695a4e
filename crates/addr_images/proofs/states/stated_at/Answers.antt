use Rattle.std.proofs.Common.{◌<◌, length, ap, arith}
use Rattle.std.proofs.lemmas.Option.{slice_get_within}
use Rattle.addr_layout.proofs.RankLemmas.{read-at}
use Rattle.addr_images.proofs.StateLemmas.{stated}
use Rattle.addr_images.proofs.ToldLemmas.{new-full}
use Rattle.addr_images.proofs.states.stated_at.Goals as goal

pub guids_stated-requires-clause-full : goal.guids_stated-requires-clause-full
guids_stated-requires-clause-full c =
    let bundle = c.index-as_slice-b.result in
    let lay = c.index-as_slice-b-2.result in
    let within : c.args.b < length c.as_slice.result.now = (let w = c.requires.within in let e = ap length c.as_slice.ensures in omega (arith, w, e)) in
    let at = read-at c.as_slice.result.now c.args.plan.now.bundles c.args.b bundle c.as_slice.ensures within c.index-as_slice-b.is in
    let also : c.args.b < length c.as_slice-2.result.now = (let same = ap length c.as_slice-2.ensures in let long = c.requires.laid.as_many in let below = c.requires.within in omega (arith, long, same, below)) in
    let there = read-at c.as_slice-2.result.now c.args.layout.now.bundles c.args.b lay c.as_slice-2.ensures also c.index-as_slice-b-2.is in
    new-full c.args.project.now c.args.plan.now c.args.layout.now c.requires.laid c.args.b lay (bundle, at, c.placement_is_shared.ensures.new c.args.b bundle at) there

pub bundle_stated-requires : goal.bundle_stated-requires
bundle_stated-requires c =
    let bundle = c.index-as_slice-b.result in
    let within : c.args.b < length c.as_slice.result.now = (let w = c.requires.within in let e = ap length c.as_slice.ensures in omega (arith, w, e)) in
    let at = read-at c.as_slice.result.now c.args.plan.now.bundles c.args.b bundle c.as_slice.ensures within c.index-as_slice-b.is in
    let named = c.name_laws.ensures.begin c.args.plan.now c.requires.placed c.args.b bundle at in
    slice_get_within c.args.project.now.groups bundle.group named.group named.at

pub returns : goal.returns
returns c =
    let bundle = c.index-as_slice-b.result in
    let within : c.args.b < length c.as_slice.result.now = (let w = c.requires.within in let e = ap length c.as_slice.ensures in omega (arith, w, e)) in
    let at = read-at c.as_slice.result.now c.args.plan.now.bundles c.args.b bundle c.as_slice.ensures within c.index-as_slice-b.is in
    stated c.args.project.now c.args.plan.now c.args.b bundle c.args.row.now c.in_ok-guids.guids.entries c.in_ok-guids.guids.objects c.in_ok-stated.stated at c.in_ok-stated.ensures c.in_ok-guids.ensures.entries c.in_ok-guids.ensures.objects
