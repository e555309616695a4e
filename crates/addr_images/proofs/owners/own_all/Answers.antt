use Rattle.std.proofs.Common.{◌<◌, length, get_or, arith}
use Rattle.std.proofs.lemmas.List.{get_or_default}
use Rattle.addr_layout.proofs.OwnerLemmas.{replaces-more}
use Rattle.addr_images.proofs.owners.own_all.Goals as goal

pub loop-x-preserved : goal.loop-x-preserved
loop-x-preserved c =
    let row = c.args.entries.now in
    let i = c.loop-x.x-index in
    let below = c.requires i 0 c.loop-x-test.true in
    let long = c.loop-x.invariant.len in
    let small : get_or row i 0 < length c.loop-x.owners.items = omega (arith, c.loop-x.owners.ok.0) in
    record {
      len = c.loop-x.invariant.len;
      replaces = replaces-more _ _ row c.args.b i _ c.loop-x-test.true (get_or_default row i 0 (get_or row i 0) c.loop-x-test.true) small c.loop-x.invariant.replaces;
    }
