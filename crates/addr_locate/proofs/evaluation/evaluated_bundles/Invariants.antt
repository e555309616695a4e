use Rattle.std.proofs.Common.{◌≡◌, map, take}
use Rattle.addr_locate.specs.Evaluated.{evaluated_bundle}
use Rattle.addr_locate.proofs.evaluation.evaluated_bundles.Given as goal

abbrev pub invariant-loop-bundle : goal.invariant-loop-bundle
invariant-loop-bundle l = l.made ≡ map (evaluated_bundle l.vars) (take l.bundle-index l.bundles)
