use Rattle.std.proofs.Common.{length}
use Rattle.addr_live.proofs.ReadLemmas.{SoFar}
use Rattle.addr_live.proofs.reading.orders_of.Given as goal

abbrev pub invariant-loop-orders : goal.invariant-loop-orders
invariant-loop-orders l = SoFar l.locator l.fn.bytes l.fn.first l.orders.items l.rest l.number

abbrev pub decreases-loop-orders : goal.decreases-loop-orders
decreases-loop-orders l = length l.rest
