use Rattle.std.proofs.Common.{sym, ap, ◌∙◌}
use Rattle.addr_cab.specs.Outside.{with_home}
use Rattle.addr_images.proofs.OutsideLemmas.{names-none, names-more}
use Rattle.addr_images.proofs.outside.names_told.Goals as goal

pub loop-c-init : goal.loop-c-init
loop-c-init c = c.new-found.ensures.empty ∙ sym (names-none c.args.plan.now)

pub loop-c-preserved : goal.loop-c-preserved
loop-c-preserved c =
    names-more c.args.plan.now c.args.direct.now c.loop-c.c-index c.loop-c.found.keys c.add_home.new.found.keys c.loop-c-test.true c.loop-c.invariant
    (c.in_ok-add_home.ensures ∙ ap (with_home c.loop-c.found.keys) c.home_told.ensures)
