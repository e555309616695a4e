use Rattle.std.proofs.Common.{◌+◌, List, take, subst, sym}
use Rattle.std.specs.List.{AllZip}
use Rattle.addr_locate.specs.declared.rows.BundleRow.{BundleRow}
use Rattle.addr_update.specs.After.{IsRowOfOld}
use Rattle.addr_walks.proofs.Zips.{zip-more}
use Rattle.addr_held.proofs.rows.rows_of_state.Goals as goal

pub loop-old-init : goal.loop-old-init
loop-old-init c = subst (λ (rows : List BundleRow). AllZip IsRowOfOld (take 0 c.as_slice-bundles.result.now) rows) (sym c.new-rows.ensures) tt

pub loop-old-preserved : goal.loop-old-preserved
loop-old-preserved c = subst (AllZip IsRowOfOld (take (c.loop-old.old-index + 1) c.as_slice-bundles.result.now)) (sym c.in_ok-push.ensures.ok)
    (zip-more IsRowOfOld c.as_slice-bundles.result.now c.loop-old.rows c.loop-old.old-index c.old-item.result c.in_ok-row.row c.loop-old-test.true c.old-item.is c.loop-old.invariant c.in_ok-row.ensures)
