use Rattle.std.proofs.Common.{[], sym, ap, ◌∙◌}
use Rattle.addr_cab.specs.Outside.{with_homes}
use Rattle.addr_cab.proofs.HomeLaws.{homes-none, outside-more}
use Rattle.addr_cab.proofs.homes.homes_of_rows.Goals as goal

pub loop-row-init : goal.loop-row-init
loop-row-init c = c.new-found.ensures.empty ∙ sym (homes-none [])

pub loop-row-preserved : goal.loop-row-preserved
loop-row-preserved c =
    c.in_ok-add_homes.ensures
    ∙ (ap (λ refs. with_homes c.loop-row.found.keys refs) c.as_slice.ensures ∙ ap (λ names. with_homes names c.row-item.result.refs) c.loop-row.invariant)
    ∙ sym (outside-more (λ o. o.refs) c.args.rows.now c.loop-row.row-index c.row-item.result c.loop-row-test.true c.row-item.is)
