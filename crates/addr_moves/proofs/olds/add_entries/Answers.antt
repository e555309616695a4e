use Rattle.std.proofs.Common.{◌+◌, List, [], get_or, take, subst, sym}
use Rattle.std.proofs.lemmas.List.{take_all, take_more}
use Rattle.addr_base.specs.declared.ids.Guid.{Guid}
use Rattle.addr_moves.specs.Firsts.{number_under}
use Rattle.addr_moves.specs.within.Holders.{AddsEach}
use Rattle.addr_moves.proofs.FirstLemmas.{puts-from}
use Rattle.addr_moves.proofs.HolderLemmas.{adds-more, adds-none}
use Rattle.addr_moves.proofs.olds.add_entries.Goals as goal

pub loop-guid-init : goal.loop-guid-init
loop-guid-init c = adds-none (number_under c.args.holders.now) c.args.m

pub loop-guid-preserved : goal.loop-guid-preserved
loop-guid-preserved c =
    let guids = c.args.guids.now in
    let i = c.loop-guid.guid-index in
    let none : Guid = record { 0 = [] } in
    let g : Guid = get_or guids i none in
    let old = number_under c.args.holders.now in
    let new = number_under c.insert.new.self in
    subst (λ (gs : List Guid). AddsEach old gs c.args.m new) (sym (take_more guids i none c.loop-guid-test.true))
    (adds-more old (number_under c.loop-guid.holders) new (take i guids) g c.args.m (puts-from g.0 c.args.m c.loop-guid.holders c.insert.new.self c.in_ok-insert.ensures.updates) c.loop-guid.invariant)

pub returns : goal.returns
returns c = subst (λ (gs : List Guid). AddsEach (number_under c.args.holders.now) gs c.args.m (number_under c.loop-guid.holders)) (take_all c.loop-guid.guid-index c.args.guids.now c.loop-guid-test.false) c.loop-guid.invariant
