use Rattle.addr_layout.proofs.LinkLemmas.{row-below}
use Rattle.addr_layout.proofs.links.links_of.Goals as goal

pub bundle_links-requires-clause-below : goal.bundle_links-requires-clause-below
bundle_links-requires-clause-below c =
    let graph = c.args.graph.now in
    row-below graph.seeds c.as_slice-entries-items.result.now _ c.loop-entries.entries-index c.as_slice.result.now c.entries-item.result c.requires.sized.seeds_below c.as_slice-entries-items.ensures c.loop-entries-test.true c.as_slice.ensures c.entries-item.is

pub asset_links-requires-clause-below : goal.asset_links-requires-clause-below
asset_links-requires-clause-below c =
    let graph = c.args.graph.now in
    row-below graph.refs c.as_slice-refs-items.result.now _ c.loop-refs.refs-index c.as_slice-in-loop-refs.result.now c.refs-item.result c.requires.sized.refs_below c.as_slice-refs-items.ensures c.loop-refs-test.true c.as_slice-in-loop-refs.ensures c.refs-item.is
