use Rattle.std.proofs.Common.{◌∙◌, ap, sym}
use Rattle.addr_history.specs.Counts.{is_closed}
use Rattle.addr_core.proofs.Accepting.{accepted_open}
use Rattle.addr_core.proofs.machine.Core.load.Goals as goal

pub returns-in-Err : goal.returns-in-Err
returns-in-Err g c = (
  ap is_closed (sym c.now.ensures.history) ∙ accepted_open c.now.result.locator.now c.now.result.limit c.now.result.events.now c.args.ask _ c.in_ok-wanted.ensures.1,
  c.in-Err.ensures.err,
)
