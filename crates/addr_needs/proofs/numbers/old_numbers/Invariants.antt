use Rattle.std.proofs.Common.{take}
use Rattle.std.specs.List.{AllZip}
use Rattle.addr_needs.specs.Numbers.{IsNumberOf}
use Rattle.addr_needs.proofs.numbers.old_numbers.Given as goal

abbrev pub invariant-loop-bundle : goal.invariant-loop-bundle
invariant-loop-bundle l = AllZip (IsNumberOf l.state.bundles) (take l.bundle-index l.plan.bundles) l.numbers
