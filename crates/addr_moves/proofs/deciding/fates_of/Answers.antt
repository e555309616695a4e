use Rattle.std.proofs.Common.{◌≡◌, ◌<◌, ◌+◌, ℕ, List, None, false, length, get_or, subst, sym, ap, ◌∙◌}
use Rattle.std.proofs.lemmas.List.{length_push}
use Rattle.std.proofs.lemmas.Option.{slice_get-get_or}
use Rattle.std.specs.List.{slice_get}
use Rattle.addr_locate.specs.Rows.{Rows}
use Rattle.addr_release.specs.Opened.{Opened}
use Rattle.addr_resolve.specs.Items.{AreNamed, ShowsCabs}
use Rattle.addr_walks.proofs.Lists.{EachAt-push}
use Rattle.addr_walks.specs.Places.{EachAt}
use Rattle.addr_moves.specs.declared.fate.Fate.{Fate}
use Rattle.addr_moves.specs.Fates.{IsFate, comparing}
use Rattle.addr_moves.proofs.KnowingLemmas.{some-in}
use Rattle.addr_moves.proofs.deciding.fates_of.Goals as goal

pub loop-x-preserved : goal.loop-x-preserved
loop-x-preserved c =
    let p = c.args.project.now in
    let s = c.args.state.now in
    let now = c.args.now.now in
    let r : Rows = c.args.locator.now in
    let x = c.loop-x.x in
    let fates = c.loop-x.fates in
    let fate = c.in_ok-fate.fate in
    let within : x < length p.entries = subst (λ n. x < n) (ap length c.entries-x-end.ensures) c.loop-x-test.true in
    let own = some-in p c.kept.ensures x within in
    let fits : ℕ → Fate → Type 0 = λ y f. (was : List Opened) → AreNamed was c.args.rows.now → ShowsCabs was c.args.cabs.now → IsFate (comparing s was r p now) y f in
    let old-at = ap (λ os. slice_get os x) (sym c.as_slice-old_at.ensures) ∙ slice_get-get_or c.as_slice-old_at.result.now x None (subst (λ n. x < n) (sym (ap length c.as_slice-old_at.ensures ∙ c.in_ok-olds.ensures.many)) within) in
    let moved-at = ap (λ ts. slice_get ts x) (sym c.as_slice-moved_at.ensures) ∙ slice_get-get_or c.as_slice-moved_at.result.now x false (subst (λ n. x < n) (sym (ap length c.as_slice-moved_at.ensures ∙ c.in_ok-moved.ensures.many)) within) in
    let last : fits x fate = λ was named shows. c.in_ok-fate.ensures.fate s now c.args.cabs.now c.args.rows.now was r own.0 c.in_ok-known.ensures c.requires.shared named shows (own.2.0, own.2.1, own.2.2)
    (c.in_ok-olds.ensures.each x (get_or c.as_slice-old_at.result.now x None) old-at own.0 own.1 was r now own.2)
    (c.in_ok-moved.ensures.each x (get_or c.as_slice-moved_at.result.now x false) moved-at own.0 s was now (own.2.0, own.2.1, own.2.2)) in
    record {
      ways = c.in_ok-fate.ensures.ways ∙ c.loop-x.invariant.ways;
      reach = c.in_ok-fate.ensures.reach ∙ c.loop-x.invariant.reach;
      many = ap length c.in_ok-push.ensures.ok ∙ (length_push fates fate ∙ ap (λ n. n + 1) c.loop-x.invariant.many);
      each = subst (EachAt fits) (sym c.in_ok-push.ensures.ok) (EachAt-push fits fates fate c.loop-x.invariant.each (subst (λ y. fits y fate) (sym c.loop-x.invariant.many) last));
    }
