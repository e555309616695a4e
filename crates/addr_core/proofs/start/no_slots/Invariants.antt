use Rattle.std.proofs.Common.{◌≡◌, replicate, None, false}
use Rattle.addr_core.proofs.start.no_slots.Given as goal

abbrev pub invariant-loop-made : goal.invariant-loop-made
invariant-loop-made l = l.slots.items ≡ replicate l.made (record { count = 0; resident = false; fetcher = None; queued = false })
