use Rattle.std.proofs.Common.{◌≡◌, ◌∙◌, ◌+◌, ◌∷◌, [], ap, arith, length, length-append}
use Rattle.addr_fields.specs.Lines.{lines_of}
use Rattle.addr_locate.specs.PlainRows.{IsAssetRow, asset_line}
use Rattle.addr_locate.proofs.PlainLemmas.{line_step, line_long, flat_push}
use Rattle.addr_locate.proofs.plain_reader.read_assets.Goals as goal

pub loop-line-preserved : goal.loop-line-preserved
loop-line-preserved c =
    let found = rw c.in-Some-2.is at c.in_ok-asset.ensures in
    let so_far = c.loop-line.invariant in
    let pushed = c.in_ok-push-in-Some-2.ensures.ok in
    let step = line_step asset_line (IsAssetRow c.args.count) (lines_of c.args.bytes.now) (lines_of c.loop-line.rest.now) (lines_of c.in-Some.after.now) c.loop-line.assets c.push.new.self c.in-Some.line.now c.in-Some-2.asset so_far.read so_far.each c.in-Some.ensures.line found.0 found.1 pushed in
    let long : length c.push.new.self ≡ length c.loop-line.assets + 1 = ap length pushed ∙ length-append c.loop-line.assets (c.in-Some-2.asset ∷ []) in
    let keys = flat_push c.loop-line.assets c.push.new.self c.in-Some-2.asset pushed in
    record {
      read = step.0;
      each = step.1;
      room = omega (arith, so_far.room, long, c.in-Some.ensures.shorter);
      place_is = omega (arith, so_far.place_is, long);
      key_room = omega (arith, so_far.key_room, keys, line_long c.in-Some-2.asset, ap length found.1, c.in-Some.ensures.parts);
    }
