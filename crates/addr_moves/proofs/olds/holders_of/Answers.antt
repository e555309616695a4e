use Rattle.std.proofs.Common.{◌≡◌, ◌<◌, ◌+◌, List, ℕ, length, map, rules, subst, sym, ap, ◌∙◌, arith}
use Rattle.addr_moves.specs.Firsts.{AreFirsts, number_under}
use Rattle.addr_moves.specs.within.Holders.{AreHolders}
use Rattle.addr_moves.proofs.GroupLemmas.{read-in}
use Rattle.addr_moves.proofs.HolderLemmas.{holders-more, holders-none}
use Rattle.addr_moves.proofs.olds.holders_of.Goals as goal

pub loop-m-init : goal.loop-m-init
loop-m-init c = holders-none c.args.state.now (number_under c.new-holders.result) (λ text. search (rules, c.new-holders.ensures.empty))

pub loop-m-preserved : goal.loop-m-preserved
loop-m-preserved c =
    let s = c.args.state.now in
    let m = c.loop-m.m in
    let fixed = number_under c.in_ok-fixed.fixed in
    let names : AreFirsts (map (λ (text : List ℕ). text) s.fixed) fixed = subst (λ (ts : List (List ℕ)). AreFirsts (map (λ (text : List ℕ). text) ts) fixed) c.as_slice.ensures c.in_ok-fixed.ensures in
    let within = subst (λ bs. m < length bs) c.as_slice-bundles.ensures c.loop-m-test.true in
    let at = read-in c.as_slice-bundles.result.now s.bundles m c.index-bundles-m.result c.as_slice-bundles.ensures within c.index-bundles-m.is in
    holders-more s m c.index-bundles-m.result fixed (number_under c.loop-m.holders) (number_under c.add_bundle.new.holders) names at c.in_ok-add_bundle.ensures c.loop-m.invariant

pub returns : goal.returns
returns c =
    let s = c.args.state.now in
    let same : c.loop-m.m ≡ length s.bundles = let low = c.loop-m-test.false in let high = c.loop-m.auto.m-end in let long = ap length c.as_slice-bundles.ensures in omega (arith, low, high, long) in
    subst (λ k. AreHolders s k (number_under c.loop-m.holders)) same c.loop-m.invariant
