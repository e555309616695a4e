use Rattle.std.proofs.Common.{take}
use Rattle.addr_resolve.specs.within.Leading.{AreLinks, first_of}
use Rattle.addr_resolve.proofs.leading.links_of.Given as goal

abbrev pub invariant-loop-r : goal.invariant-loop-r
invariant-loop-r l = AreLinks (first_of l.firsts) l.places l.bundle (take l.r-index l.refs) l.row l.lost
