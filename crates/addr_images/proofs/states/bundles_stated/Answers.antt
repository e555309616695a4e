use Rattle.std.proofs.Common.{refl}
use Rattle.addr_layout.proofs.RankLemmas.{read-at}
use Rattle.addr_images.proofs.StateLemmas.{stated-more}
use Rattle.addr_images.proofs.states.bundles_stated.Goals as goal

pub loop-b-preserved : goal.loop-b-preserved
loop-b-preserved c =
    let rows = c.args.rows.now in
    let at = read-at rows rows c.loop-b.b c.index-rows-b.result refl c.loop-b-test.true c.index-rows-b.is in
    let more = stated-more c.args.project.now c.args.plan.now rows c.loop-b.b c.index-rows-b.result c.in_ok-stated_at.field-0 c.loop-b.stated c.push.new.self at c.in_ok-stated_at.ensures c.loop-b.invariant.as_many c.loop-b.invariant.each c.in_ok-push.ensures.ok in
    record { as_many = more.0; each = more.1 }
