use Rattle.addr_moves.specs.within.Anew.{AreAnew, name_under}
use Rattle.addr_moves.proofs.anew.anew_of.Given as goal

abbrev pub invariant-loop-bundle : goal.invariant-loop-bundle
invariant-loop-bundle l = AreAnew l.project l.now l.bundle-index (name_under l.anew)
