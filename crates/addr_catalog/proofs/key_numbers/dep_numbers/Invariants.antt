use Rattle.std.proofs.Common.{◌≡◌, map, take}
use Rattle.addr_catalog.proofs.key_numbers.dep_numbers.Given as goal

abbrev pub invariant-loop-bundle : goal.invariant-loop-bundle
invariant-loop-bundle l = l.numbers ≡ map (λ b. b.0) (take l.bundle-index l.asset.deps)
