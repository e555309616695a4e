use Rattle.addr_images.specs.Sizes.{IsSizeAt}
use Rattle.addr_images.proofs.TotalLemmas.{sum-more, sum-none}
use Rattle.addr_images.proofs.sizes.bundle_bytes.Goals as goal

pub loop-b-init : goal.loop-b-init
loop-b-init c = sum-none (IsSizeAt c.args.project.now c.args.plan.now)

pub loop-b-preserved : goal.loop-b-preserved
loop-b-preserved c =
    sum-more (IsSizeAt c.args.project.now c.args.plan.now) c.loop-b.b c.loop-b.total c.in_ok-size.size c.in_ok-size.ensures.size c.in_ok-size.ensures.small c.loop-b.invariant
