use Rattle.std.proofs.Common.{◌≡◌, take}
use Rattle.std.specs.List.{filter}
use Rattle.addr_images.specs.within.Stated.{is_marked}
use Rattle.addr_images.proofs.guids.marked.Given as goal

abbrev pub invariant-loop-n : goal.invariant-loop-n
invariant-loop-n l = l.found ≡ filter (is_marked l.marks) (take l.n-index l.members)
