use Rattle.std.proofs.Common.{◌≡◌, replicate, None}
use Rattle.addr_core.proofs.start.no_images.Given as goal

abbrev pub invariant-loop-made : goal.invariant-loop-made
invariant-loop-made g l = l.images.items ≡ replicate l.made None
