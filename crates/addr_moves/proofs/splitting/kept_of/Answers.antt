use Rattle.std.proofs.Common.{◌≡◌, ◌<◌, ◌≤◌, ◌+◌, List, ℕ, Option, None, Some, get_or, length, subst, sym, ap, ◌∙◌, arith}
use Rattle.std.proofs.lemmas.Option.{slice_get-get_or}
use Rattle.std.specs.List.{slice_get}
use Rattle.addr_state.specs.declared.model.StateBundle.{StateBundle}
use Rattle.addr_walks.proofs.Zips.{zip-left}
use Rattle.addr_moves.specs.Stays.{StaysAs}
use Rattle.addr_moves.specs.within.Split.{KeptUpTo}
use Rattle.addr_moves.proofs.GroupLemmas.{read-in, same-at, zip-long}
use Rattle.addr_moves.proofs.KeptRowLemmas.{kept-all, kept-more}
use Rattle.addr_moves.proofs.splitting.kept_of.Goals as goal

pub bounds-groups-m : goal.bounds-groups-m
bounds-groups-m c =
    let s = c.args.state.now in
    let p = c.args.project.now in
    let long = zip-long (StaysAs s.fixed p) s.bundles c.in_ok-stays.stays c.in_ok-stays.ensures in
    let groups = ap length c.as_slice-groups.ensures in
    let bundles = ap length c.as_slice-bundles.ensures in
    let within = c.loop-m-test.true in
    omega (arith, long, groups, bundles, within)

pub loop-m-preserved : goal.loop-m-preserved
loop-m-preserved c =
    let s = c.args.state.now in
    let p = c.args.project.now in
    let fates = c.args.fates.now in
    let m = c.loop-m.m in
    let old : StateBundle = c.index-bundles-m.result in
    let groups = c.as_slice-groups.result.now in
    let within : m < length s.bundles = subst (λ (bs : List StateBundle). m < length bs) c.as_slice-bundles.ensures c.loop-m-test.true in
    let at = read-in c.as_slice-bundles.result.now s.bundles m old c.as_slice-bundles.ensures within c.index-bundles-m.is in
    let group : Option ℕ = get_or groups m None in
    let beside = zip-left (StaysAs s.fixed p) s.bundles c.in_ok-stays.stays c.in_ok-stays.ensures m old at in
    let here : slice_get groups m ≡ _ = ap (λ gs. slice_get gs m) c.as_slice-groups.ensures ∙ beside.1 in
    let same : beside.0 ≡ group = same-at groups m beside.0 None here in
    let stays : StaysAs s.fixed p old group = subst (StaysAs s.fixed p old) same beside.2 in
    let row : List ℕ = c.as_slice.result.now in
    let row-at = read-in c.as_slice-rows.result.now c.in_ok-made.made m c.index-rows-m.result c.as_slice-rows.ensures (subst (λ n. m < n) (sym c.in_ok-made.ensures.many) c.loop-m-test.true) c.index-rows-m.is in
    subst (KeptUpTo s p fates (m + 1)) (sym c.in_ok-add_kept.ensures)
    (kept-more fates s p m old group row c.loop-m.kept at stays (c.in_ok-made.ensures.rows m row (row-at ∙ ap Some (sym c.as_slice.ensures))) c.loop-m.invariant)

pub returns : goal.returns
returns c =
    let s = c.args.state.now in
    let all : length s.bundles ≤ c.loop-m.m = subst (λ (bs : List StateBundle). length bs ≤ c.loop-m.m) c.as_slice-bundles.ensures c.loop-m-test.false in
    kept-all c.args.fates.now s c.args.project.now c.loop-m.m c.loop-m.kept all c.loop-m.invariant
