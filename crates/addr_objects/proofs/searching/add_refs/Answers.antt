use Rattle.addr_objects.proofs.SearchLemmas.{refs-more, refs-none}
use Rattle.addr_objects.proofs.searching.add_refs.Goals as goal

pub loop-r-init : goal.loop-r-init
loop-r-init c = record { tracks = c.requires; grows = refs-none c.args.homes.now.bundles c.args.homes.now.needs c.args.from c.args.refs.now c.args.found.now.items }

pub loop-r-preserved : goal.loop-r-preserved
loop-r-preserved c =
    let homes = c.args.homes.now in
    record {
      tracks = c.in_ok-add_ref.ensures.tracks;
      grows = refs-more homes.bundles homes.needs c.args.from c.args.refs.now c.loop-r.r-index _ c.args.found.now.items c.loop-r.found.items c.add_ref.new.found.items c.loop-r-test.true c.loop-r.invariant.grows c.in_ok-add_ref.ensures.grows;
    }
