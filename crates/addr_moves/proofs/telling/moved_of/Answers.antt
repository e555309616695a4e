use Rattle.std.proofs.Common.{◌+◌, get_or, subst, sym}
use Rattle.std.proofs.lemmas.Option.{slice_get-get_or}
use Rattle.addr_moves.specs.declared.fate.Fate.TheVariants.{Free}
use Rattle.addr_moves.specs.within.Told.{ListsMoved}
use Rattle.addr_moves.proofs.ToldLemmas.{moved-all, moved-more, moved-none}
use Rattle.addr_moves.proofs.telling.moved_of.Goals as goal

pub loop-x-init : goal.loop-x-init
loop-x-init c = subst (ListsMoved c.args.fates.now 0) (sym c.new-moved.ensures) (moved-none c.args.fates.now)

pub loop-x-preserved : goal.loop-x-preserved
loop-x-preserved c =
    let fates = c.args.fates.now in
    let x = c.loop-x.x in
    let at = slice_get-get_or fates x Free c.loop-x-test.true in
    subst (ListsMoved fates (x + 1)) (sym c.in_ok-add_moved.ensures) (moved-more fates x (get_or fates x Free) c.loop-x.moved at c.loop-x.invariant)

pub returns : goal.returns
returns c = moved-all c.args.fates.now c.loop-x.x c.loop-x.moved c.loop-x-test.false c.loop-x.invariant
