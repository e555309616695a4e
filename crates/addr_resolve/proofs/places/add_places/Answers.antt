use Rattle.std.proofs.Common.{◌++◌, ap, ◌∙◌}
use Rattle.addr_resolve.specs.Places.{row_places}
use Rattle.addr_resolve.proofs.PlaceLemmas.{append-none, rows-more, take-end}
use Rattle.addr_resolve.proofs.places.add_places.Goals as goal

pub loop-row-init : goal.loop-row-init
loop-row-init c = append-none c.args.places.now

pub loop-row-preserved : goal.loop-row-preserved
loop-row-preserved c = rows-more c.loop-row.places c.push.new.self c.args.places.now c.args.rows.now c.loop-row.row-index c.args.bundle c.row-item.result c.loop-row-test.true c.row-item.is c.loop-row.invariant c.in_ok-push.ensures.ok

pub returns : goal.returns
returns c = c.loop-row.invariant ∙ ap (λ rows. c.args.places.now ++ row_places c.args.bundle rows) (take-end c.args.rows.now c.loop-row.row-index c.loop-row.auto.row-index-end c.loop-row-test.false)
