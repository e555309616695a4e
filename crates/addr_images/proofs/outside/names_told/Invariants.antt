use Rattle.std.proofs.Common.{◌≡◌, take}
use Rattle.addr_images.specs.within.Outside.{names_told}
use Rattle.addr_images.proofs.outside.names_told.Given as goal

abbrev pub invariant-loop-c : goal.invariant-loop-c
invariant-loop-c l = l.found.keys ≡ names_told l.plan (take l.c-index l.direct)
