use Rattle.std.proofs.Common.{take}
use Rattle.addr_history.specs.Unfolding.{Misses}
use Rattle.addr_objects.specs.Objects.{objects_in}
use Rattle.addr_objects.specs.within.Search.{IsLeastAmong}
use Rattle.addr_objects.proofs.missing.least_missed.Given as goal

abbrev pub invariant-loop-place : goal.invariant-loop-place
invariant-loop-place g l = IsLeastAmong (Misses (objects_in g.I.Image.object_of l.images) l.homes.bundles l.homes.needs) (take l.place-index l.places) l.least
