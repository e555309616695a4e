use Rattle.std.proofs.Common.{◌≡◌, map, drop}
use Rattle.addr_base.specs.declared.ids.BundleNo.{BundleNo}
use Rattle.addr_queue.specs.Changes.{change_each}
use Rattle.addr_queue.specs.Slots.{let_go}
use Rattle.addr_queue.proofs.slots.let_go_each.Given as goal

abbrev pub invariant-loop-b : goal.invariant-loop-b
invariant-loop-b l = change_each let_go (map (λ (b : BundleNo). b.0) (drop l.b-index l.needs)) l.slots ≡ change_each let_go (map (λ (b : BundleNo). b.0) l.needs) l.initial.slots
