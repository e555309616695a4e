use Rattle.std.proofs.Common.{◌+◌, List, [], get_or, take, subst, sym}
use Rattle.std.proofs.lemmas.List.{take_all, take_more}
use Rattle.addr_base.specs.declared.ids.Guid.{Guid}
use Rattle.addr_moves.specs.Firsts.{number_under}
use Rattle.addr_moves.specs.within.Assets.{AreFound}
use Rattle.addr_moves.proofs.AssetLemmas.{found-more, found-none}
use Rattle.addr_moves.proofs.assets.found_of.Goals as goal

pub loop-guid-init : goal.loop-guid-init
loop-guid-init c = subst (AreFound (number_under c.args.numbers.now) []) (sym c.new-row.ensures) (found-none (number_under c.args.numbers.now))

pub loop-guid-preserved : goal.loop-guid-preserved
loop-guid-preserved c =
    let find = number_under c.args.numbers.now in
    let guids = c.args.guids.now in
    let i = c.loop-guid.guid-index in
    let none : Guid = record { 0 = [] } in
    subst (λ (gs : List Guid). AreFound find gs c.add_found.new.row) (sym (take_more guids i none c.loop-guid-test.true))
    (subst (AreFound find _) (sym c.in_ok-add_found.ensures) (found-more find (take i guids) (get_or guids i none) c.loop-guid.row c.number_under.result c.number_under.ensures c.loop-guid.invariant))

pub returns : goal.returns
returns c = subst (λ (gs : List Guid). AreFound (number_under c.args.numbers.now) gs c.loop-guid.row) (take_all c.loop-guid.guid-index c.args.guids.now c.loop-guid-test.false) c.loop-guid.invariant
