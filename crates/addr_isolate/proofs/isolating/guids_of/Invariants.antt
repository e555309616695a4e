use Rattle.std.proofs.Common.{◌≡◌, map, take}
use Rattle.addr_analyze.specs.declared.duplicate.Duplicate.{Duplicate}
use Rattle.addr_isolate.proofs.isolating.guids_of.Given as goal

abbrev pub invariant-loop-duplicate : goal.invariant-loop-duplicate
invariant-loop-duplicate l = l.guids ≡ map (λ (d : Duplicate). d.guid) (take l.duplicate-index l.found)
