use Rattle.std.proofs.Common.{◌≡◌, length, ◌∙◌, arith}
use Rattle.addr_walks.specs.Closure.{IsDeps}
use Rattle.addr_layout.specs.Needs.{Needs}
use Rattle.addr_layout.proofs.CountLemmas.{total-more}
use Rattle.addr_layout.proofs.FollowLemmas.{deps-counted}
use Rattle.addr_layout.proofs.counting.count_over.Goals as goal

pub overflow_add-total : goal.overflow_add-total
overflow_add-total c =
    let counted = deps-counted c.args.project.now c.args.plan.now c.args.rows.now c.len-bundles.result c.loop-b.b c.in_ok-count.count
    c.requires.follows c.len-bundles.ensures c.loop-b-test.true c.in_ok-count.ensures.count in
    let few = counted.0 in
    let so_far = c.loop-b.invariant.few in
    let bundles = c.requires.few in
    let within = c.loop-b-test.true in
    let many = c.len-bundles.ensures in
    omega arith

pub loop-b-preserved : goal.loop-b-preserved
loop-b-preserved c =
    let p = c.args.project.now in
    let plan = c.args.plan.now in
    let b = c.loop-b.b in
    let n = c.in_ok-count.count in
    let counted = deps-counted p plan c.args.rows.now c.len-bundles.result b n
    c.requires.follows c.len-bundles.ensures c.loop-b-test.true c.in_ok-count.ensures.count in
    let few = counted.0 in
    let so_far = c.loop-b.invariant.few in
    let bundles = c.requires.few in
    record {
      size = c.dep_count.ensures.size ∙ c.loop-b.invariant.size;
      total = total-more (IsDeps (Needs p plan)) b c.loop-b.total counted.1.0 n counted.1.1 counted.1.2 c.loop-b.invariant.total;
      few = omega arith;
    }

pub returns : goal.returns
returns c =
    let total = c.loop-b.invariant.total in
    let all : c.loop-b.b ≡ length c.args.plan.now.bundles = (let past = c.loop-b-test.false in let many = c.len-bundles.ensures in omega arith) in
    (total.lists, record { as_many = total.as_many ∙ all; each = total.each }, total.is)
