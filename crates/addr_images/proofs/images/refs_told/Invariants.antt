use Rattle.std.proofs.Common.{◌≡◌, map, take}
use Rattle.std.specs.List.{zip}
use Rattle.addr_images.specs.within.Told.{ref_told}
use Rattle.addr_images.proofs.images.refs_told.Given as goal

abbrev pub invariant-loop-k : goal.invariant-loop-k
invariant-loop-k l = l.refs ≡ map (λ q. ref_told l.plan q.0 q.1) (take l.k (zip l.guids l.homes))
