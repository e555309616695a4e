use Rattle.std.proofs.Common.{map, ap, ◌∙◌}
use Rattle.addr_images.specs.within.Fixed.{with_group}
use Rattle.addr_images.proofs.FixedLemmas.{fixed-more, fixed-none}
use Rattle.addr_images.proofs.fixed.fixed_set.Goals as goal

pub loop-group-init : goal.loop-group-init
loop-group-init c = ap (map (λ name. name.now)) c.new-found.ensures.empty ∙ fixed-none

pub loop-group-preserved : goal.loop-group-preserved
loop-group-preserved c =
    c.in_ok-add_fixed.ensures ∙ (ap (with_group (map (λ name. name.now) c.loop-group.found.keys)) c.group-item.is
    ∙ fixed-more c.args.groups.now c.loop-group.group-index c.group-item.result (map (λ name. name.now) c.loop-group.found.keys) c.loop-group-test.true c.loop-group.invariant)
