use Rattle.std.proofs.Common.{◌≡◌, drop, None}
use Rattle.addr_queue.specs.Slots.{passes, is_missing}
use Rattle.addr_queue.specs.Changes.{cleared_each}
use Rattle.addr_core.proofs.images.clear_each.Given as goal

abbrev pub invariant-loop-b : goal.invariant-loop-b
invariant-loop-b g l = cleared_each None (passes is_missing l.slots) (drop l.b-index l.needs) l.images ≡ cleared_each None (passes is_missing l.slots) l.needs l.initial.images
