use Rattle.std.proofs.Common.{List, sym, subst}
use Rattle.addr_project.specs.Kept.{IsKept}
use Rattle.addr_pack.specs.declared.bundles.PlanBundle.{PlanBundle}
use Rattle.addr_pack.specs.Placement.{IsPlaced}
use Rattle.addr_pack.proofs.PlacedLemmas.{placed_classes}
use Rattle.addr_pack.proofs.placement.plan.Goals as goal

pub returns-clause-placed : goal.returns-clause-placed
returns-clause-placed c =
    let p = c.args.project.now in
    let kept : IsKept p = c.kept.ensures in
    let placed = placed_classes p kept c.in_ok-classes.classes c.in_ok-classes.ensures.classes c.bundles_of.ensures.ordered in
    subst (λ (bundles : List PlanBundle). IsPlaced p (record { bundles = bundles })) (sym c.in_ok-bundles.ensures.bundles) placed
