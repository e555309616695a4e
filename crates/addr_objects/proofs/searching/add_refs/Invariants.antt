use Rattle.std.proofs.Common.{take}
use Rattle.addr_history.specs.Unfolding.{RefersTo}
use Rattle.addr_objects.specs.within.Search.{Grows, Tracks}
use Rattle.addr_objects.proofs.searching.add_refs.Given as goal

abbrev pub invariant-loop-r : goal.invariant-loop-r
invariant-loop-r l = record {
  tracks : Tracks l.seen l.found.items;
  grows : Grows (RefersTo l.homes.bundles l.homes.needs l.from (take l.r-index l.refs)) l.fn.found.items l.found.items;
}
