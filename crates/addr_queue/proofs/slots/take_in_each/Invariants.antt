use Rattle.std.proofs.Common.{◌≡◌, map, drop}
use Rattle.addr_base.specs.declared.ids.BundleNo.{BundleNo}
use Rattle.addr_queue.specs.Changes.{change_each}
use Rattle.addr_queue.specs.Slots.{taken_in}
use Rattle.addr_queue.proofs.slots.take_in_each.Given as goal

abbrev pub invariant-loop-b : goal.invariant-loop-b
invariant-loop-b l = change_each taken_in (map (λ (b : BundleNo). b.0) (drop l.b-index l.needs)) l.slots ≡ change_each taken_in (map (λ (b : BundleNo). b.0) l.needs) l.initial.slots
