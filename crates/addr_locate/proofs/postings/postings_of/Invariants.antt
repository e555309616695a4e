use Rattle.std.proofs.Common.{take}
use Rattle.addr_locate.specs.Postings.{ArePostings}
use Rattle.addr_locate.proofs.postings.postings_of.Given as goal

abbrev pub invariant-loop-i : goal.invariant-loop-i
invariant-loop-i l = ArePostings (take l.i l.rows) l.count l.postings.items
