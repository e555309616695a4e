use Rattle.std.proofs.Common.{◌+◌}
use Rattle.addr_cab.proofs.CabLaws.{nodes_fit, all_inside}
use Rattle.addr_cab.proofs.cab.cab_of.Goals as goal

pub invariant_of-result : goal.invariant_of-result
invariant_of-result c =
    let b = c.args.bundle.now in
    let fit = nodes_fit c.args.file.items b c.in-Some.nodes.name c.in-Some.nodes.table.now c.in-Some.nodes.content.now c.requires c.in-Some.ensures in
    rw c.from_vec.ensures (record {
      ascend = c.in_ok-rows.ensures.text.ascend;
      within = all_inside (b.start + c.in-Some.nodes.content.now.offset) c.in-Some.nodes.content.now.size _ c.in_ok-rows.rows.items fit.1 c.in_ok-rows.ensures.within;
      few = c.in_ok-rows.ensures.few;
    })
