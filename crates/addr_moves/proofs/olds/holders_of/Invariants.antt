use Rattle.addr_moves.specs.Firsts.{number_under}
use Rattle.addr_moves.specs.within.Holders.{AreHolders}
use Rattle.addr_moves.proofs.olds.holders_of.Given as goal

abbrev pub invariant-loop-m : goal.invariant-loop-m
invariant-loop-m l = AreHolders l.state l.m (number_under l.holders)
