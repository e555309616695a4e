use Rattle.std.proofs.Common.{◌≡◌, map, take}
use Rattle.addr_layout.specs.declared.model.LayBundle.{LayBundle}
use Rattle.addr_layout.proofs.model.Layout.direct.Given as goal

abbrev pub invariant-loop-lay : goal.invariant-loop-lay
invariant-loop-lay l = l.direct ≡ map (λ (lay : LayBundle). lay.direct) (take l.lay-index l.self.bundles)
