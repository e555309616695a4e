use Rattle.std.proofs.Common.{◌≡◌, map, take}
use Rattle.std.specs.List.{zip}
use Rattle.addr_images.specs.within.Told.{object_told}
use Rattle.addr_images.proofs.images.objects_told.Given as goal

abbrev pub invariant-loop-k : goal.invariant-loop-k
invariant-loop-k l = l.objects.items ≡ map (λ q. object_told l.project l.plan q.0 q.1) (take l.k (zip l.lay.members l.lay.refs))
