use Rattle.std.proofs.Common.{◌≡◌, map, take}
use Rattle.addr_images.proofs.entries.bundle_numbers.Given as goal

abbrev pub invariant-loop-n : goal.invariant-loop-n
invariant-loop-n l = l.numbers ≡ map (λ n. record { 0 = n }) (take l.n-index l.deps)
