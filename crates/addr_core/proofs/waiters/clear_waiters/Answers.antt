use Rattle.std.proofs.Common.{[]}
use Rattle.addr_core.proofs.WaitPlaces.{lists_set}
use Rattle.addr_core.proofs.waiters.clear_waiters.Goals as goal

pub returns-then-place-waits : goal.returns-then-place-waits
returns-then-place-waits c = lists_set c.args.waits.now c.args.b.0 c.index-waits-place.result c.clear.new.self c.if-place-waits.true c.index-waits-place.is [] c.clear.ensures
