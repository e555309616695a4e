use Rattle.std.proofs.Common.{arith}
use Rattle.addr_core.proofs.Nows.{reserved_now, reserved_small}
use Rattle.addr_core.proofs.now.Now.reserved.Goals as goal

pub overflow_cast-result : goal.overflow_cast-result
overflow_cast-result c =
    let n = c.args.self.now in
    omega (arith, reserved_small n.locator.now n.limit n.events.now n.slots.now n.queued n.fetched n.opened n.closed n.known, reserved_now n.locator.now n.limit n.events.now n.slots.now n.queued n.fetched n.opened n.closed n.known c.from.result c.from-2.result c.from-3.result c.close_owed.result c.from.ensures c.from-2.ensures c.from-3.ensures c.close_owed.ensures)

pub returns : goal.returns
returns c =
    let n = c.args.self.now in
    reserved_now n.locator.now n.limit n.events.now n.slots.now n.queued n.fetched n.opened n.closed n.known c.from.result c.from-2.result c.from-3.result c.close_owed.result c.from.ensures c.from-2.ensures c.from-3.ensures c.close_owed.ensures
