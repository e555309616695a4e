use Rattle.std.proofs.Common.{◌∙◌, true, false}
use Rattle.addr_catalog.proofs.BundleLemmas.{bundle_new, bundle_known, told, number_more}
use Rattle.addr_catalog.proofs.numbering.add_new.Goals as goal

pub returns-in_ok-push-clause-once : goal.returns-in_ok-push-clause-once
returns-in_ok-push-clause-once c = λ all has are.
    let new = told c.args.seen.now c.args.found.now c.args.bundle c.in_ok-insert.field-0 has c.in_ok-insert.ensures.added false c.if-branch.true in
    c.in_ok-push.ensures.ok ∙ bundle_new all c.args.found.now c.args.bundle are new

pub returns-in_ok-push-clause-has : goal.returns-in_ok-push-clause-has
returns-in_ok-push-clause-has c = λ has. rw c.in_ok-push.ensures.ok (number_more c.args.seen.now c.insert.new.self c.args.found.now c.args.bundle has c.in_ok-insert.ensures.updates)

pub returns-else-branch-clause-once : goal.returns-else-branch-clause-once
returns-else-branch-clause-once c = λ all has are.
    let known = told c.args.seen.now c.args.found.now c.args.bundle c.in_ok-insert.field-0 has c.in_ok-insert.ensures.added true c.if-branch.false in
    bundle_known all c.args.found.now c.args.bundle are known
