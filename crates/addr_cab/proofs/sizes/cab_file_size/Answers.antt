use Rattle.std.proofs.Common.{ap₂, ◌∙◌, min}
use Rattle.addr_unityfs.specs.Sizes.{file_size}
use Rattle.addr_cab.specs.Sizes.{table_size, content_size}
use Rattle.addr_cab.proofs.SizeLaws.{most, two_sizes, file_min}
use Rattle.addr_cab.proofs.sizes.cab_file_size.Goals as goal

pub returns : goal.returns
returns c =
    c.bundle_size.ensures
    ∙ (ap₂ (λ t d. min (file_size c.args.player (two_sizes t d)) most) c.cab_size-size.ensures.table c.cab_size-size.ensures.content
    ∙ file_min c.args.player (table_size c.args.outside c.args.objects.now) (content_size c.args.objects.now))
