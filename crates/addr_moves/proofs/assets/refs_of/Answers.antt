use Rattle.std.proofs.Common.{◌≡◌, ◌+◌, List, ℕ, take, subst, sym, ap, ◌∙◌}
use Rattle.std.specs.List.{AllZip}
use Rattle.addr_base.specs.declared.ids.Guid.{Guid}
use Rattle.addr_project.specs.declared.model.Asset.{Asset}
use Rattle.addr_walks.proofs.Zips.{zip-more}
use Rattle.addr_moves.specs.Firsts.{number_under}
use Rattle.addr_moves.specs.within.Assets.{AreFound}
use Rattle.addr_moves.proofs.assets.refs_of.Goals as goal

pub loop-asset-preserved : goal.loop-asset-preserved
loop-asset-preserved c =
    let find = number_under c.args.numbers.now in
    let i = c.loop-asset.asset-index in
    let items = c.assets-asset-items.result.now in
    let asset : Asset = c.asset-item.result in
    let R : Asset → List ℕ → Type 0 = λ a row. AreFound find a.refs row in
    let row = c.in_ok-found_of.field-0 in
    let found : AreFound find asset.refs row = subst (λ (gs : List Guid). AreFound find gs row) c.as_slice.ensures c.in_ok-found_of.ensures in
    let zip = subst (AllZip R (take (i + 1) items)) (sym c.in_ok-push.ensures.ok)
    (zip-more R items c.loop-asset.rows i asset row c.loop-asset-test.true c.asset-item.is (subst (λ (as' : List Asset). AllZip R (take i as') c.loop-asset.rows) (sym c.assets-asset-items.ensures) c.loop-asset.invariant) found) in
    subst (λ (as' : List Asset). AllZip R (take (i + 1) as') c.push.new.self) c.assets-asset-items.ensures zip
