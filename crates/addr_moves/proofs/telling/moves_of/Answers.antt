use Rattle.std.proofs.Common.{◌+◌, List, length, get_or, refl, subst, sym}
use Rattle.std.proofs.lemmas.Option.{slice_get-get_or}
use Rattle.addr_update.specs.declared.model.Move.{Move}
use Rattle.addr_moves.specs.declared.fate.Fate.{Fate}
use Rattle.addr_moves.specs.declared.fate.Fate.TheVariants.{Free}
use Rattle.addr_moves.specs.within.Told.{TellsMoves}
use Rattle.addr_moves.proofs.ToldLemmas.{are-moves, tells-all, tells-more, tells-none}
use Rattle.addr_moves.proofs.telling.moves_of.Goals as goal

pub loop-x-init : goal.loop-x-init
loop-x-init c = subst (TellsMoves c.args.project.now c.args.fates.now 0) (sym c.new-moves.ensures) (tells-none c.args.fates.now c.args.project.now)

pub loop-x-preserved : goal.loop-x-preserved
loop-x-preserved c =
    let p = c.args.project.now in
    let fates = c.args.fates.now in
    let x = c.loop-x.x in
    let at = slice_get-get_or fates x Free c.loop-x-test.true in
    subst (TellsMoves p fates (x + 1)) (sym c.in_ok-add_move.ensures) (tells-more fates p x (get_or fates x Free) c.guid_of.result c.loop-x.moves at c.guid_of.ensures c.loop-x.invariant)

pub returns : goal.returns
returns c = λ s was r now fates. are-moves s was r c.args.project.now now c.args.fates.now c.loop-x.moves fates (tells-all c.args.fates.now c.args.project.now c.loop-x.x c.loop-x.moves c.loop-x-test.false c.loop-x.invariant)
