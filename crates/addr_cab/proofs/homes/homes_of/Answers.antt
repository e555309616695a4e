use Rattle.std.proofs.Common.{[], sym, ap, ◌∙◌}
use Rattle.addr_cab.specs.Outside.{with_homes}
use Rattle.addr_cab.proofs.HomeLaws.{homes-none, outside-more}
use Rattle.addr_cab.proofs.homes.homes_of.Goals as goal

pub loop-object-init : goal.loop-object-init
loop-object-init c = c.new-found.ensures.empty ∙ sym (homes-none [])

pub loop-object-preserved : goal.loop-object-preserved
loop-object-preserved c =
    c.in_ok-add_homes.ensures
    ∙ (ap (λ refs. with_homes c.loop-object.found.keys refs) c.as_slice.ensures ∙ ap (λ names. with_homes names c.object-item.result.refs) c.loop-object.invariant)
    ∙ sym (outside-more (λ o. o.refs) c.args.objects.now c.loop-object.object-index c.object-item.result c.loop-object-test.true c.object-item.is)
