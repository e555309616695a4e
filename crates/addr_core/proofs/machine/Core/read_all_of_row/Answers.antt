use Rattle.std.proofs.Common.{◌≡◌, ◌<◌, ◌∙◌, ap, arith, length, List, subst}
use Rattle.addr_base.specs.declared.ids.BundleNo.{BundleNo}
use Rattle.addr_locate.specs.declared.rows.BundleRow.{BundleRow}
use Rattle.addr_history.specs.Counts.{needs_of_op}
use Rattle.addr_objects.specs.Objects.{objects_in, ReadsAllOfAsset}
use Rattle.addr_core.specs.declared.wanted.Wanted.{Wanted}
use Rattle.addr_core.specs.within.Wanting.{wanted_at}
use Rattle.addr_core.proofs.ReadAllSteps.{all_answer, ready_open}
use Rattle.addr_core.proofs.ReadSteps.{asset_there, home_there, row_below}
use Rattle.addr_core.proofs.WantedSteps.{wanted_are}
use Rattle.addr_core.proofs.machine.Core.read_all_of_row.Goals as goal

pub bounds-assets-row : goal.bounds-assets-row
bounds-assets-row g c =
    let ready = rw (← c.self.view_is) at c.requires in
    omega (arith, row_below c.self.inside.locator c.self.inside.events.items c.args.op c.args.i c.args.row ready, ap length c.assets.ensures.rows)

pub read_all_of_asset-requires : goal.read_all_of_asset-requires
read_all_of_asset-requires g c =
    let ready = rw (← c.self.view_is) at c.requires in
    let below : c.args.row.0 < length c.assets.result.now = omega (arith, row_below c.self.inside.locator c.self.inside.events.items c.args.op c.args.i c.args.row ready, ap length c.assets.ensures.rows) in
    home_there c.self.inside.locator c.self.invariant.journal.known.sound c.args.row.0 c.index-assets-row.result
    (asset_there c.self.inside.locator c.assets.result.now c.args.row.0 c.index-assets-row.result c.assets.ensures.rows below c.index-assets-row.is)

pub returns : goal.returns
returns g c =
    let rows = c.self.inside.locator in
    let h = c.self.inside.events.items in
    let op = c.args.op in
    let objects = objects_in g.I.Image.object_of c.self.inside.images.items in
    let ready = rw (← c.self.view_is) at c.requires in
    let below : c.args.row.0 < length c.assets.result.now = omega (arith, row_below rows h op c.args.i c.args.row ready, ap length c.assets.ensures.rows) in
    let there = asset_there rows c.assets.result.now c.args.row.0 c.index-assets-row.result c.assets.ensures.rows below c.index-assets-row.is in
    let kept : wanted_at c.self.inside.wanted.items op ≡ _ = wanted_are rows c.self.inside.limit h c.self.invariant.journal.known.legal c.self.inside.wanted.items c.self.invariant.holds.are_wanted op (ready_open rows h op c.args.i c.args.row ready) in
    let needs : c.needs_at-needs.result.now ≡ needs_of_op rows h op =
    c.needs_at-needs.ensures ∙ (ap (λ (l : List Wanted). (wanted_at l op).needs) c.as_slice.ensures.value ∙ ap (λ (w : Wanted). w.needs) kept) in
    let images = rw c.as_slice-2.ensures.value at c.read_all_of_asset.ensures in
    let found = subst (λ (ns : List BundleNo). ReadsAllOfAsset objects rows.bundles ns c.index-assets-row.result c.read_all_of_asset.result) needs
    (subst (λ (bs : List BundleRow). ReadsAllOfAsset objects bs c.needs_at-needs.result.now c.index-assets-row.result c.read_all_of_asset.result) c.bundles-bundles.ensures.rows images) in
    rw (← c.self.view_is) (all_answer objects rows h op c.args.i c.args.row c.index-assets-row.result c.read_all_of_asset.result ready there found)
