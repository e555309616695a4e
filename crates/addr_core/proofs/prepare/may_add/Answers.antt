use Rattle.std.proofs.Common.{◌∙◌, sym}
use Rattle.addr_core.proofs.Nows.{acquire_full, acquire_ok}
use Rattle.addr_core.proofs.prepare.may_add.Goals as goal

pub returns-then-passes : goal.returns-then-passes
returns-then-passes c =
    let n = c.args.now.now in
    acquire_full n.locator.now n.limit n.events.now c.args.op c.requires c.used-used.result c.reserved-reserved.result c.used-used.ensures c.reserved-reserved.ensures (sym c.passes.ensures ∙ c.if-passes.true)

pub returns : goal.returns
returns c =
    let n = c.args.now.now in
    acquire_ok n.locator.now n.limit n.events.now c.args.op c.requires c.used-used.result c.reserved-reserved.result c.used-used.ensures c.reserved-reserved.ensures (sym c.passes.ensures ∙ c.if-passes.false)
