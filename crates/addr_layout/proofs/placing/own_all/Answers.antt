use Rattle.std.proofs.Common.{◌<◌, length, get_or, arith}
use Rattle.std.proofs.lemmas.List.{get_or_default}
use Rattle.addr_layout.proofs.OwnerLemmas.{replaces-more}
use Rattle.addr_layout.proofs.placing.own_all.Goals as goal

pub loop-r-preserved : goal.loop-r-preserved
loop-r-preserved c =
    let row = c.args.row.now in
    let i = c.loop-r.r-index in
    let below = c.requires i 0 c.loop-r-test.true in
    let long = c.loop-r.invariant.len in
    let small : get_or row i 0 < length c.loop-r.owners.items = omega (arith, c.loop-r.owners.ok.0) in
    record {
      len = c.loop-r.invariant.len;
      replaces = replaces-more _ _ row c.args.b i _ c.loop-r-test.true (get_or_default row i 0 (get_or row i 0) c.loop-r-test.true) small c.loop-r.invariant.replaces;
    }
