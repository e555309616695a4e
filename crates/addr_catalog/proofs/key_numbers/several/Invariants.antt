use Rattle.std.proofs.Common.{◌≡◌, map, take, filter}
use Rattle.addr_catalog.specs.Written.{is_several}
use Rattle.addr_catalog.proofs.key_numbers.several.Given as goal

abbrev pub invariant-loop-list : goal.invariant-loop-list
invariant-loop-list l = map (λ x. x.now) l.found.items ≡ filter is_several (take l.list-index l.lists)
