use Rattle.std.proofs.Common.{take}
use Rattle.addr_objects.specs.Objects.{objects_in}
use Rattle.addr_objects.specs.within.Search.{IsLast, Picks}
use Rattle.addr_objects.proofs.items.items_of.Given as goal

abbrev pub invariant-loop-place : goal.invariant-loop-place
invariant-loop-place g l = record {
  picks : Picks (objects_in g.I.Image.object_of l.images) (take l.place-index l.places) l.items;
  last : IsLast (take l.place-index l.places) l.last;
}
