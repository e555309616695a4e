use Rattle.std.proofs.Common.{length, take}
use Rattle.addr_analyze.specs.Counting.{AreCounts}
use Rattle.addr_analyze.proofs.counting.counts_of.Given as goal

abbrev pub invariant-loop-lay : goal.invariant-loop-lay
invariant-loop-lay l = AreCounts (length l.project.assets) (take l.lay-index l.layout.bundles) l.counts.items
