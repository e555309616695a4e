use Rattle.std.proofs.Common.{◌<◌, length, ap, arith}
use Rattle.std.proofs.lemmas.Option.{slice_get_within}
use Rattle.addr_layout.proofs.RankLemmas.{read-at}
use Rattle.addr_build.proofs.LaidLemmas.{made-bundle}
use Rattle.addr_build.proofs.bundles.make_bundle.Goals as goal

pub returns : goal.returns
returns c =
    let below = slice_get_within c.args.plan.now.bundles c.args.b c.requires.new.0 c.requires.new.1 in
    let within : c.args.b < length c.as_slice.result.now = (let e = ap length c.as_slice.ensures in omega (arith, below, e)) in
    let at = read-at c.as_slice.result.now c.args.plan.now.bundles c.args.b c.index-as_slice-b.result c.as_slice.ensures within c.index-as_slice-b.is in
    made-bundle c.args.project.now c.args.plan.now c.args.b c.index-as_slice-b.result c.side_of-remote.result c.in_ok-row.row c.in_ok-file.file.items _ c.from_vec.result at
    c.side_of-remote.ensures c.in_ok-file.ensures c.as_slice-2.ensures.value c.in_ok-row.ensures c.from_vec.ensures
