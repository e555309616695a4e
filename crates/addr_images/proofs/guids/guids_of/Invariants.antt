use Rattle.std.proofs.Common.{◌≡◌, map, take}
use Rattle.addr_images.specs.within.Stated.{guid_at}
use Rattle.addr_images.proofs.guids.guids_of.Given as goal

abbrev pub invariant-loop-n : goal.invariant-loop-n
invariant-loop-n l = l.guids ≡ map (guid_at l.project) (take l.n-index l.members)
