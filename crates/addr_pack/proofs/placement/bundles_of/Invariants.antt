use Rattle.std.proofs.Common.{◌≡◌, ◌++◌, map}
use Rattle.addr_pack.specs.Classes.{bundle_of}
use Rattle.addr_pack.proofs.placement.bundles_of.Given as goal

abbrev pub invariant-loop-name : goal.invariant-loop-name
invariant-loop-name l = l.bundles ++ map bundle_of l.name-iterator ≡ map bundle_of l.fn.classes.entries
