use Rattle.std.proofs.Common.{arith}
use Rattle.addr_locate.specs.Merge.{deps_of}
use Rattle.addr_locate.proofs.DistinctLemmas.{AreFound-none}
use Rattle.std.proofs.lemmas.Grind.{common_steps}
use Rattle.addr_locate.proofs.merging.distinct_deps.Goals as goal

pub loop-row-init : goal.loop-row-init
loop-row-init c = AreFound-none c.new-seen.result c.new-found.result c.new-seen.ensures.empty c.new-found.ensures

pub returns : goal.returns
unfolding deps_of
returns c = grind (arith, common_steps)
