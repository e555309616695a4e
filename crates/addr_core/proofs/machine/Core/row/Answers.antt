use Rattle.std.proofs.Common.{◌∙◌, ap, List, slice_get}
use Rattle.addr_core.specs.declared.wanted.Wanted.{Wanted}
use Rattle.addr_core.specs.within.Wanting.{wanted_at}
use Rattle.addr_core.proofs.ReadSteps.{row_is}
use Rattle.addr_core.proofs.machine.Core.row.Goals as goal

pub returns : goal.returns
returns g c =
    let status = rw (← c.self.view_is) at c.status.ensures in
    rw (← c.self.view_is)
    (c.ready_row.ensures
    ∙ row_is c.self.inside.locator c.self.inside.limit c.self.inside.events.items c.self.invariant.journal.known.legal c.self.inside.wanted.items c.self.invariant.holds.are_wanted c.args.op c.args.i c.status.result c.row_of.result status
    (c.row_of.ensures ∙ ap (λ (l : List Wanted). slice_get (wanted_at l c.args.op).rows c.args.i) c.as_slice.ensures.value))
