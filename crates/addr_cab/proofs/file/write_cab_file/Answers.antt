use Rattle.std.proofs.Common.{◌∙◌}
use Rattle.addr_cab.proofs.SizeLaws.{objects_can}
use Rattle.addr_cab.proofs.file.write_cab_file.Goals as goal

pub write_bundle-requires : goal.write_bundle-requires
write_bundle-requires c =
    objects_can c.args.player.now c.args.name c.args.objects.now c.deref.result.now c.in_ok-table.table.items c.in_ok-table.content.items c.requires.player c.name_fits.ensures
    c.in_ok-table.ensures.text (c.deref.ensures.value ∙ c.in_ok-nodes.ensures) c.requires.small
