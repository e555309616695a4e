use Rattle.addr_images.specs.Sizes.{IsSizeAt}
use Rattle.addr_images.proofs.TotalLemmas.{SumTo}
use Rattle.addr_images.proofs.sizes.bundle_bytes.Given as goal

abbrev pub invariant-loop-b : goal.invariant-loop-b
invariant-loop-b l = SumTo (IsSizeAt l.project l.plan) l.b l.total
