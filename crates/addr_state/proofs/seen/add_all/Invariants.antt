use Rattle.std.proofs.Common.{List, ◌++◌, take}
use Rattle.addr_base.specs.declared.ids.Guid.{Guid}
use Rattle.addr_state.specs.within.Seen.{HasGuids}
use Rattle.addr_state.proofs.seen.add_all.Given as goal

abbrev pub invariant-loop-guid : goal.invariant-loop-guid
invariant-loop-guid l = (found : List Guid) → HasGuids l.initial.seen found → HasGuids l.seen (found ++ take l.guid-index l.guids)
