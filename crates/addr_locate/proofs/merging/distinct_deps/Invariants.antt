use Rattle.std.proofs.Common.{take}
use Rattle.std.specs.List.{flat_map}
use Rattle.addr_locate.specs.Lookups.{AreFound}
use Rattle.addr_locate.specs.Merge.{deps_of_row}
use Rattle.addr_locate.proofs.merging.distinct_deps.Given as goal

abbrev pub invariant-loop-row : goal.invariant-loop-row
invariant-loop-row l = AreFound (flat_map (deps_of_row l.assets) (take l.row-index l.rows)) l.found l.seen
