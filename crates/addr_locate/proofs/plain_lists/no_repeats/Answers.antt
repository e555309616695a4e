use Rattle.std.proofs.Common.{◌≡◌, ◌∙◌, ◌++◌, ◌∷◌, ◌+◌, [], ap, sym, take, get_or, is_some, ◌==◌}
use Rattle.std.proofs.lemmas.List.{take_more}
use Rattle.std.specs.List.{list_any}
use Rattle.addr_base.specs.declared.ids.BundleNo.{BundleNo}
use Rattle.addr_locate.proofs.RepeatLemmas.{number_found, number_more, numbers_more}
use Rattle.addr_locate.proofs.plain_lists.no_repeats.Goals as goal

pub returns-then-is_some : goal.returns-then-is_some
returns-then-is_some c =
    let deps = c.args.deps.now in
    let i = c.loop-dep.dep-index in
    let dep : BundleNo = get_or deps i (record { 0 = 0 }) in
    let there = sym (c.loop-dep.invariant.holds dep.0) ∙ (ap is_some (sym c.in_ok-insert.ensures.old) ∙ sym c.if-is_some.ensures) in
    number_found deps (take i deps) i dep (take_more deps i (record { 0 = 0 }) c.loop-dep-test.true) there

pub loop-dep-preserved : goal.loop-dep-preserved
loop-dep-preserved c =
    let deps = c.args.deps.now in
    let i = c.loop-dep.dep-index in
    let dep : BundleNo = get_or deps i (record { 0 = 0 }) in
    let more : take (i + 1) deps ≡ take i deps ++ dep ∷ [] = take_more deps i (record { 0 = 0 }) c.loop-dep-test.true in
    let new = sym (c.loop-dep.invariant.holds dep.0) ∙ (ap is_some (sym c.in_ok-insert.ensures.old) ∙ sym c.if-is_some.ensures) in
    let held = numbers_more (take i deps) dep tt c.loop-dep.seen c.insert.new.self c.loop-dep.invariant.holds c.in_ok-insert.ensures.updates in
    record {
      holds = λ n. held n ∙ ap (list_any (λ (c : BundleNo). c.0 == n)) (sym more);
      once = number_more (take (i + 1) deps) (take i deps) dep more c.loop-dep.invariant.once new;
    }
