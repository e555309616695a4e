use Rattle.std.proofs.Common.{◌≡◌, ◌+◌, List, ℕ, map, take, get_or, subst, sym, ap, ◌∙◌}
use Rattle.std.specs.List.{AllZip}
use Rattle.addr_state.specs.declared.model.StateBundle.{StateBundle}
use Rattle.addr_walks.proofs.Zips.{zip-more}
use Rattle.addr_moves.specs.Firsts.{AreFirsts, number_under}
use Rattle.addr_moves.specs.Stays.{StaysAs}
use Rattle.addr_moves.proofs.stays.stays_of.Goals as goal

pub loop-old-preserved : goal.loop-old-preserved
loop-old-preserved c =
    let s = c.args.state.now in
    let p = c.args.project.now in
    let i = c.loop-old.old-index in
    let items = c.as_slice-old-items.result.now in
    let old : StateBundle = c.old-item.result in
    let names : AreFirsts (map (λ (text : List ℕ). text) s.fixed) (number_under c.in_ok-fixed.fixed) = subst (λ (ts : List (List ℕ)). AreFirsts (map (λ (text : List ℕ). text) ts) (number_under c.in_ok-fixed.fixed)) c.as_slice.ensures c.in_ok-fixed.ensures in
    let zip = subst (AllZip (StaysAs s.fixed p) (take (i + 1) items)) (sym c.in_ok-push.ensures.ok)
    (zip-more (StaysAs s.fixed p) items c.loop-old.stays i old c.group_of_old.result c.loop-old-test.true c.old-item.is (subst (λ (bs : List StateBundle). AllZip (StaysAs s.fixed p) (take i bs) c.loop-old.stays) (sym c.as_slice-old-items.ensures) c.loop-old.invariant) (c.group_of_old.ensures s.fixed names)) in
    subst (λ (bs : List StateBundle). AllZip (StaysAs s.fixed p) (take (i + 1) bs) c.push.new.self) c.as_slice-old-items.ensures zip
