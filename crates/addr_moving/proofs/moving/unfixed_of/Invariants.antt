use Rattle.std.proofs.Common.{◌≡◌, take}
use Rattle.std.specs.List.{filter}
use Rattle.addr_moving.specs.within.Gathered.{is_unfixed}
use Rattle.addr_moving.proofs.moving.unfixed_of.Given as goal

abbrev pub invariant-loop-bundle : goal.invariant-loop-bundle
invariant-loop-bundle l = l.bundles.items ≡ filter (is_unfixed l.project) (take l.bundle-index l.own)
