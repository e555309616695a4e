use Rattle.std.proofs.Common.{rules, nat_cmp}
use Rattle.std.proofs.lemmas.Fn.{always_returns_same}
use Rattle.std.specs.Cmp.Lexicographic.{slice_cmp}
use Rattle.addr_state.specs.declared.model.StateBundle.{StateBundle}
use Rattle.addr_needs.proofs.NumberLemmas.{absent, found}
use Rattle.addr_needs.proofs.numbers.search.Goals as goal

pub returns-in-Ok : goal.returns-in-Ok
returns-in-Ok c =
    let equal = c.in-Ok.ensures.position (λ (b : StateBundle). slice_cmp nat_cmp b.name c.args.name.now) (always_returns_same _ _ _ (λ a r f' k. search rules)) in
    found c.args.bundles.now c.requires.rising c.args.name.now c.in-Ok.m c.in-Ok.ensures.bound equal

pub returns-in-Err : goal.returns-in-Err
returns-in-Err c =
    let parted = c.in-Err.ensures.position (λ (b : StateBundle). slice_cmp nat_cmp b.name c.args.name.now) (always_returns_same _ _ _ (λ a r f' k. search rules)) in
    absent c.args.bundles.now c.requires.rising c.args.name.now c.in-Err.field-0 parted
