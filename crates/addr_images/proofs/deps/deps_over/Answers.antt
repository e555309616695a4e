use Rattle.std.proofs.Common.{◌≡◌, length, ◌∙◌, arith}
use Rattle.addr_layout.proofs.CountLemmas.{total-more}
use Rattle.addr_walks.specs.Closure.{IsDeps}
use Rattle.addr_walks.specs.Rows.{Edge}
use Rattle.addr_walks.proofs.ClosureLemmas.{size-deps}
use Rattle.addr_images.proofs.deps.deps_over.Goals as goal

pub overflow_add-total : goal.overflow_add-total
overflow_add-total c =
    let counted = size-deps c.args.direct.now c.loop-b.b c.in_ok-count.count c.requires.below c.loop-b-test.true c.in_ok-count.ensures.count in
    let less = counted.0 in
    let so_far = c.loop-b.invariant.few in
    let bundles = c.requires.few in
    let many = c.requires.many in
    let within = c.loop-b-test.true in
    omega (arith, less, so_far, bundles, many, within)

pub loop-b-preserved : goal.loop-b-preserved
loop-b-preserved c =
    let b = c.loop-b.b in
    let n = c.in_ok-count.count in
    let counted = size-deps c.args.direct.now b n c.requires.below c.loop-b-test.true c.in_ok-count.ensures.count in
    let less = counted.0 in
    let so_far = c.loop-b.invariant.few in
    let bundles = c.requires.few in
    let many = c.requires.many in
    record {
      size = c.deps_from.ensures.size ∙ c.loop-b.invariant.size;
      total = total-more (IsDeps (Edge c.args.direct.now)) b c.loop-b.total counted.1.0 n counted.1.1 counted.1.2 c.loop-b.invariant.total;
      few = omega (arith, less, so_far, bundles, many);
    }

pub returns : goal.returns
returns c =
    let total = c.loop-b.invariant.total in
    let all : c.loop-b.b ≡ length c.args.plan.now.bundles = (let past = c.loop-b-test.false in let end = c.loop-b.auto.b-end in let many = c.requires.many in omega (arith, past, end, many)) in
    (total.lists, record { as_many = total.as_many ∙ all; each = total.each }, total.is)
