use Rattle.std.proofs.Common.{◌≡◌, ◌++◌, map}
use Rattle.addr_images.proofs.fixed.copies.Given as goal

abbrev pub invariant-loop-name : goal.invariant-loop-name
invariant-loop-name l = l.names ++ map (λ name. name.now) l.name-iterator ≡ map (λ name. name.now) l.found.keys
