use Rattle.addr_turn.specs.Held.{IsPassOf}
use Rattle.addr_turn.proofs.tests.add_often.Given as goal

abbrev pub invariant-loop : goal.invariant-loop
invariant-loop g l = IsPassOf l.turns l.pass
