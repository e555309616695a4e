use Rattle.std.proofs.Common.{length, ap, ◌∙◌, arith}
use Rattle.addr_layout.specs.Counts.{AreCounted}
use Rattle.addr_layout.proofs.CountLemmas.{members-counted, total-more}
use Rattle.addr_layout.proofs.RankLemmas.{read-at}
use Rattle.addr_layout.proofs.counting.members_count.Goals as goal

pub overflow_add-total : goal.overflow_add-total
overflow_add-total c =
    let plan = c.args.plan.now in
    let bundle = c.bundle-item.result in
    let at = read-at c.as_slice-bundle-items.result.now plan.bundles c.loop-b.b bundle c.as_slice-bundle-items.ensures c.loop-b-test.true c.bundle-item.is in
    let counted = members-counted c.args.project.now plan c.in_ok-graph.graph c.kept.ensures c.requires.shared c.in_ok-graph.ensures.graph c.loop-b.b c.in_ok-count.count bundle at c.in_ok-count.ensures.count in
    let few = counted.0 in
    let so_far = c.loop-b.invariant.few in
    let bundles = c.requires.few in
    let within = c.loop-b-test.true in
    let same = ap length c.as_slice-bundle-items.ensures in
    omega arith

pub loop-b-preserved : goal.loop-b-preserved
loop-b-preserved c =
    let p = c.args.project.now in
    let plan = c.args.plan.now in
    let b = c.loop-b.b in
    let n = c.in_ok-count.count in
    let bundle = c.bundle-item.result in
    let at = read-at c.as_slice-bundle-items.result.now plan.bundles b bundle c.as_slice-bundle-items.ensures c.loop-b-test.true c.bundle-item.is in
    let counted = members-counted p plan c.in_ok-graph.graph c.kept.ensures c.requires.shared c.in_ok-graph.ensures.graph b n bundle at c.in_ok-count.ensures.count in
    let few = counted.0 in
    let so_far = c.loop-b.invariant.few in
    record {
      size = c.member_count.ensures.size ∙ c.loop-b.invariant.size;
      total = total-more (AreCounted p plan) b c.loop-b.total counted.1.0 n counted.1.1 counted.1.2 c.loop-b.invariant.total;
      few = omega arith;
    }
