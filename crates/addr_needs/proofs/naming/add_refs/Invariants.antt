use Rattle.std.proofs.Common.{length, take}
use Rattle.addr_base.specs.declared.images.RefTo.{RefTo}
use Rattle.addr_pack.specs.declared.bundles.Plan.{Plan}
use Rattle.addr_needs.specs.within.Names.{AreNames, numbers_under}
use Rattle.addr_needs.specs.within.Naming.{AddsSet, AnyOf, NamesOther}
use Rattle.addr_needs.proofs.naming.add_refs.Given as goal

abbrev pub invariant-loop-r : goal.invariant-loop-r
invariant-loop-r l = (plan : Plan) → AreNames plan (length plan.bundles) (numbers_under l.names)
    → AddsSet l.fn.row.items (AnyOf (take l.r-index l.refs) (λ (r : RefTo). NamesOther plan l.b r.home)) l.row.items
