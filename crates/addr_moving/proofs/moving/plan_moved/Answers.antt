use Rattle.std.proofs.Common.{◌≡◌, ◌++◌, ◌∙◌, List, ap, map, subst, sym}
use Rattle.std.specs.List.Sorted.{IsPermutation}
use Rattle.addr_pack.specs.declared.bundles.PlanBundle.{PlanBundle}
use Rattle.addr_update.specs.Placement.{IsUpdateBundle, by_name, kept_bundle}
use Rattle.addr_walks.specs.Walks.{IsListOf}
use Rattle.addr_moving.specs.within.Gathered.{gathered, moved_bundles}
use Rattle.addr_moving.proofs.GatheredLemmas.{plan-lists}
use Rattle.addr_moving.proofs.moving.plan_moved.Goals as goal

pub returns : goal.returns
returns c =
    let p = c.args.project.now in
    let now = c.args.now.now in
    let kept = c.args.kept.now in
    let moved = c.args.moved.now in
    let are : c.add_kept.new.bundles.items ≡ gathered p now kept moved = c.in_ok-add_kept.ensures
    ∙ (ap (λ (xs : List PlanBundle). xs ++ map kept_bundle kept) c.in_ok-add_moved.ensures ∙ ap (λ (xs : List PlanBundle). (xs ++ moved_bundles p moved) ++ map kept_bundle kept) c.in_ok-bundles.ensures) in
    let moves : IsPermutation (gathered p now kept moved) c.in_order-sorted.result.items = subst (λ (xs : List PlanBundle). IsPermutation xs c.in_order-sorted.result.items) are c.in_order-sorted.ensures.same in
    let lists = plan-lists p c.kept.ensures c.name_laws.ensures.begin c.name_laws.ensures.tell now c.requires.placed kept c.requires.kept moved c.in_order-sorted.result.items moves c.in_order-sorted.ensures.sorted in
    subst (λ (xs : List PlanBundle). IsListOf by_name (IsUpdateBundle p now kept moved) xs) (sym c.from_vec.ensures) lists
