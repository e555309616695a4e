use Rattle.addr_moves.specs.within.Split.{KeptUpTo}
use Rattle.addr_moves.proofs.splitting.kept_of.Given as goal

abbrev pub invariant-loop-m : goal.invariant-loop-m
invariant-loop-m l = KeptUpTo l.state l.project l.fates l.m l.kept
