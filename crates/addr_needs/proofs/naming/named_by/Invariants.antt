use Rattle.std.proofs.Common.{length, take, []}
use Rattle.addr_pack.specs.declared.bundles.Plan.{Plan}
use Rattle.addr_needs.specs.within.Names.{AreNames, numbers_under}
use Rattle.addr_needs.specs.within.Naming.{AddsSet, ObjectNames}
use Rattle.addr_needs.proofs.naming.named_by.Given as goal

abbrev pub invariant-loop-object : goal.invariant-loop-object
invariant-loop-object l = (plan : Plan) → AreNames plan (length plan.bundles) (numbers_under l.names)
    → AddsSet [] (ObjectNames plan l.b (take l.object-index l.objects)) l.row.items
