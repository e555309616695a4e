use Rattle.std.proofs.Common.{◌<◌, ap, arith, length}
use Rattle.addr_objects.specs.Objects.{objects_in}
use Rattle.addr_core.proofs.ReadSteps.{asset_there, home_there, read_answer, row_below}
use Rattle.addr_core.proofs.machine.Core.read_row.Goals as goal

pub bounds-assets-row : goal.bounds-assets-row
bounds-assets-row g c =
    let ready = rw (← c.self.view_is) at c.requires in
    omega (arith, row_below c.self.inside.locator c.self.inside.events.items c.args.op c.args.i c.args.row ready, ap length c.assets.ensures.rows)

pub read_asset-requires : goal.read_asset-requires
read_asset-requires g c =
    let ready = rw (← c.self.view_is) at c.requires in
    let below : c.args.row.0 < length c.assets.result.now = omega (arith, row_below c.self.inside.locator c.self.inside.events.items c.args.op c.args.i c.args.row ready, ap length c.assets.ensures.rows) in
    home_there c.self.inside.locator c.self.invariant.journal.known.sound c.args.row.0 c.index-assets-row.result
    (asset_there c.self.inside.locator c.assets.result.now c.args.row.0 c.index-assets-row.result c.assets.ensures.rows below c.index-assets-row.is)

pub returns : goal.returns
returns g c =
    let ready = rw (← c.self.view_is) at c.requires in
    let below : c.args.row.0 < length c.assets.result.now = omega (arith, row_below c.self.inside.locator c.self.inside.events.items c.args.op c.args.i c.args.row ready, ap length c.assets.ensures.rows) in
    let there = asset_there c.self.inside.locator c.assets.result.now c.args.row.0 c.index-assets-row.result c.assets.ensures.rows below c.index-assets-row.is in
    let found = rw c.as_slice.ensures.value at c.read_asset.ensures in
    rw (← c.self.view_is) (read_answer (objects_in g.I.Image.object_of c.self.inside.images.items) c.self.inside.locator c.self.inside.events.items c.args.op c.args.i c.args.row c.index-assets-row.result c.read_asset.result ready there found)
