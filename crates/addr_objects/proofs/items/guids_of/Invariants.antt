use Rattle.std.proofs.Common.{◌≡◌, map, take}
use Rattle.addr_base.specs.declared.images.RefTo.{RefTo}
use Rattle.addr_objects.proofs.items.guids_of.Given as goal

abbrev pub invariant-loop-r : goal.invariant-loop-r
invariant-loop-r l = l.guids ≡ map (λ (r : RefTo). r.guid) (take l.r-index l.refs)
