use Rattle.std.proofs.Common.{◌≡◌, replicate, []}
use Rattle.addr_core.specs.within.Courses.{waiting_lists}
use Rattle.addr_core.proofs.start.no_waiters.Given as goal

abbrev pub invariant-loop-made : goal.invariant-loop-made
invariant-loop-made l = waiting_lists l.waits.items ≡ replicate l.made []
