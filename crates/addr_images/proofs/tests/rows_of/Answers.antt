use Rattle.addr_images.proofs.BundleRowLemmas.{rows-grow}
use Rattle.addr_images.proofs.tests.rows_of.Goals as goal

pub loop-b-preserved : goal.loop-b-preserved
loop-b-preserved c =
    let more = rows-grow c.args.project.now c.args.plan.now c.loop-b.b c.in_ok-row.row c.loop-b.rows c.push.new.self c.in_ok-row.ensures c.loop-b.invariant.as_many c.loop-b.invariant.each c.in_ok-push.ensures.ok in
    record { as_many = more.0; each = more.1 }
