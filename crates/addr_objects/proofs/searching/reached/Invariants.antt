use Rattle.addr_history.specs.Unfolding.{Jumps}
use Rattle.addr_objects.specs.Objects.{objects_in}
use Rattle.addr_objects.specs.within.Search.{Searches, Tracks}
use Rattle.addr_objects.proofs.searching.reached.Given as goal

abbrev pub invariant-loop-n : goal.invariant-loop-n
invariant-loop-n g l = record {
  tracks : Tracks l.seen l.found.items;
  searches : Searches (Jumps (objects_in g.I.Image.object_of l.images) l.homes.bundles l.homes.needs) l.fn.start l.found.items l.n;
}
