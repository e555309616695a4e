use Rattle.std.proofs.Common.{◌≡◌, ◌<◌, ℕ, List, get_or, length, sym, ap, subst, ◌∙◌, arith}
use Rattle.std.proofs.lemmas.Grind.{get_or_default_zero}
use Rattle.std.specs.List.{All}
use Rattle.addr_layout.specs.declared.model.LayBundle.{LayBundle}
use Rattle.addr_layout.proofs.RankLemmas.{read-at}
use Rattle.addr_layout.proofs.SharedLemmas.{few-bundles}
use Rattle.addr_analyze.specs.Counting.{IsCounted}
use Rattle.addr_analyze.proofs.ListLemmas.{counts-more}
use Rattle.addr_analyze.proofs.MemberLemmas.{count-small, members-below, members-few, members-once}
use Rattle.addr_analyze.proofs.counting.counts_of.Goals as goal

pub count_all-requires-clause-within : goal.count_all-requires-clause-within
count_all-requires-clause-within c = λ k d within.
    let p = c.args.project.now in
    let bundles = c.args.layout.now.bundles in
    let lay = c.lay-item.result in
    let at = read-at c.as_slice-lay-items.result.now bundles c.loop-lay.lay-index lay c.as_slice-lay-items.ensures c.loop-lay-test.true c.lay-item.is in
    let below = members-below p c.args.plan.now c.args.layout.now c.kept.ensures c.requires.placed c.requires.laid c.loop-lay.lay-index lay at in
    let small = subst (All (λ n. n < length p.assets)) (sym c.as_slice.ensures) below k d within in
    let long = c.loop-lay.invariant.as_many in
    let many = c.loop-lay.counts.ok.0 in
    omega arith

pub count_all-requires-clause-room : goal.count_all-requires-clause-room
count_all-requires-clause-room c = λ k d within.
    let p = c.args.project.now in
    let bundles = c.args.layout.now.bundles in
    let lay = c.lay-item.result in
    let at = read-at c.as_slice-lay-items.result.now bundles c.loop-lay.lay-index lay c.as_slice-lay-items.ensures c.loop-lay-test.true c.lay-item.is in
    let few = members-few p c.args.plan.now c.args.layout.now c.kept.ensures c.requires.placed c.requires.laid c.loop-lay.lay-index lay at in
    let long = ap length c.as_slice.ensures in
    let bundles-few = few-bundles p c.args.plan.now c.requires.placed c.kept.ensures in
    let as_many = c.requires.laid.as_many in
    let slices = ap length c.as_slice-lay-items.ensures in
    let test = c.loop-lay-test.true in
    let small = count-small bundles c.loop-lay.lay-index k (get_or c.loop-lay.counts.items k 0) (omega arith) (c.loop-lay.invariant.each k) in
    let same = get_or_default_zero c.loop-lay.counts.items k d within in
    omega arith

pub loop-lay-preserved : goal.loop-lay-preserved
loop-lay-preserved c =
    let p = c.args.project.now in
    let bundles = c.args.layout.now.bundles in
    let lay = c.lay-item.result in
    let i = c.loop-lay.lay-index in
    let at = read-at c.as_slice-lay-items.result.now bundles i lay c.as_slice-lay-items.ensures c.loop-lay-test.true c.lay-item.is in
    let once = members-once p c.args.plan.now c.args.layout.now c.kept.ensures c.requires.placed c.requires.laid i lay at in
    let within : i < length bundles = (let slices = ap length c.as_slice-lay-items.ensures in let test = c.loop-lay-test.true in omega arith) in
    let read = subst (λ (xs : List LayBundle). lay ≡ get_or xs i lay) c.as_slice-lay-items.ensures c.lay-item.is in
    let counted = subst (λ (ms : List ℕ). IsCounted c.loop-lay.counts.items ms c.count_all.new.counts.items) c.as_slice.ensures c.count_all.ensures.counted in
    record {
      as_many = sym c.count_all.new.counts.ok.0 ∙ (c.count_all.ensures.len ∙ (c.loop-lay.counts.ok.0 ∙ c.loop-lay.invariant.as_many));
      each = counts-more bundles i lay c.loop-lay.counts.items c.count_all.new.counts.items within read once c.loop-lay.invariant.each counted;
    }
