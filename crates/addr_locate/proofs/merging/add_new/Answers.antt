use Rattle.std.proofs.Common.{◌≡◌}
use Rattle.addr_locate.proofs.DistinctLemmas.{AreFound-put, AreFound-pass}
use Rattle.addr_locate.proofs.merging.add_new.Goals as goal

pub returns-in_ok-push : goal.returns-in_ok-push
returns-in_ok-push c = λ before so_far.
    AreFound-put before c.args.found.now c.push.new.self c.args.bundle c.args.seen.now c.insert.new.self c.in_ok-insert.field-0 so_far c.in_ok-insert.ensures.added c.if-branch.true c.in_ok-insert.ensures.updates c.in_ok-push.ensures.ok

pub returns-else-branch : goal.returns-else-branch
returns-else-branch c = λ before so_far.
    let same : c.insert.new.self.keys ≡ c.args.seen.now.keys = rw c.if-branch.false at c.in_ok-insert.ensures.unchanged in
    AreFound-pass before c.args.found.now c.args.bundle c.args.seen.now c.insert.new.self c.in_ok-insert.field-0 so_far c.in_ok-insert.ensures.added c.if-branch.false same
