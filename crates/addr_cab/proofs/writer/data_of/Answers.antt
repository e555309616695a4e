use Rattle.std.proofs.Common.{[], ap, ◌∙◌, ◌++◌}
use Rattle.addr_cab.specs.Written.{cab_data}
use Rattle.addr_cab.proofs.PutLaws.{texts-more}
use Rattle.addr_cab.proofs.writer.data_of.Goals as goal

pub loop-object-init : goal.loop-object-init
unfolding cab_data
loop-object-init c = c.in_ok-content.ensures.items

pub loop-object-preserved : goal.loop-object-preserved
unfolding cab_data
loop-object-preserved c =
    texts-more (λ o. o.bytes) [] c.loop-object.content.items c.extend_from_slice.new.self.items c.args.objects.now c.loop-object.object-index c.object-item.result c.loop-object-test.true c.object-item.is c.loop-object.invariant
    (c.in_ok-extend_from_slice.ensures.items ∙ ap (λ bytes. c.loop-object.content.items ++ bytes) c.as_slice.ensures)
