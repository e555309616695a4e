use Rattle.std.proofs.Common.{◌+◌, List, [], get_or, take, subst, sym}
use Rattle.std.proofs.lemmas.List.{take_all, take_more}
use Rattle.addr_base.specs.declared.ids.Guid.{Guid}
use Rattle.addr_moves.specs.within.Leasts.{IsLeastIn}
use Rattle.addr_moves.proofs.LeastLemmas.{least-more, least-none}
use Rattle.addr_moves.proofs.leasts.least_of.Goals as goal

pub loop-guid-init : goal.loop-guid-init
loop-guid-init c = least-none

pub loop-guid-preserved : goal.loop-guid-preserved
loop-guid-preserved c =
    let guids = c.args.guids.now in
    let i = c.loop-guid.guid-index in
    let none : Guid = record { 0 = [] } in
    subst (λ (gs : List Guid). IsLeastIn gs c.lesser-least.result) (sym (take_more guids i none c.loop-guid-test.true))
    (subst (IsLeastIn _) (sym c.lesser-least.ensures) (least-more (take i guids) (get_or guids i none) c.loop-guid.least c.loop-guid.invariant))

pub returns : goal.returns
returns c = subst (λ (gs : List Guid). IsLeastIn gs c.loop-guid.least) (take_all c.loop-guid.guid-index c.args.guids.now c.loop-guid-test.false) c.loop-guid.invariant
