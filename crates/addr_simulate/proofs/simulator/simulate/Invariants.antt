use Rattle.std.proofs.Common.{length, string_bytes}
use Rattle.std.specs.Prelude.{unwrap_or}
use Rattle.addr_simulate.proofs.LineLemmas.{SoFar}
use Rattle.addr_simulate.proofs.simulator.simulate.Given as goal

abbrev pub invariant-loop-text : goal.invariant-loop-text
invariant-loop-text l = SoFar l.fn.locator (unwrap_or l.head.limit 100000) l.head.rest.now l.head.next l.core (string_bytes l.text) l.rest l.number

abbrev pub decreases-loop-text : goal.decreases-loop-text
decreases-loop-text l = length l.rest
