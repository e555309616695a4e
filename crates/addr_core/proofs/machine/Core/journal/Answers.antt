use Rattle.addr_core.proofs.HeldImages.{idle_have_none}
use Rattle.addr_core.proofs.ReadSteps.{ready_held}
use Rattle.addr_core.proofs.machine.Core.journal.Goals as goal

pub returns-clause-idle : goal.returns-clause-idle
returns-clause-idle g c = rw (← c.self.view_is) (idle_have_none g.I.Image.fits c.self.inside.locator c.self.inside.limit c.self.inside.events.items c.self.inside.images.items c.self.invariant.journal.known.legal c.self.invariant.journal.held)

pub returns-clause-ready : goal.returns-clause-ready
returns-clause-ready g c = rw (← c.self.view_is) (ready_held g.I.Image.fits c.self.inside.locator c.self.inside.limit c.self.inside.events.items c.self.inside.images.items c.self.invariant.journal.known.sound c.self.invariant.journal.known.legal c.self.invariant.journal.held)
