use Rattle.std.proofs.Common.{◌∙◌, ap, ◌+◌, ◌*◌, ℕ}
use Rattle.addr_core.proofs.Nows.{absent_is}
use Rattle.addr_core.proofs.now.Now.needed.Goals as goal

pub returns-clause-exact : goal.returns-clause-exact
returns-clause-exact c =
    let n = c.args.self.now in
    ap (λ k. let m : ℕ = 2 + 2 * k in m) (c.absent-absent.ensures.exact ∙ absent_is n.locator.now n.events.now n.slots.now n.known.are_slots c.args.needs.now c.requires.within)
