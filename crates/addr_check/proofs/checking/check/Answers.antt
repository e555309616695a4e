use Rattle.std.proofs.Common.{List, subst, sym}
use Rattle.addr_moves.specs.Fates.{AreFates}
use Rattle.addr_moves.specs.declared.fate.Fate.{Fate}
use Rattle.addr_held.specs.Opening.{was_of}
use Rattle.addr_check.specs.Comparing.{update_of}
use Rattle.addr_check.proofs.CheckLemmas.{moves-told, refusal-told}
use Rattle.addr_check.proofs.checking.check.Goals as goal

pub returns-in_err-compared-clause-answers : goal.returns-in_err-compared-clause-answers
returns-in_err-compared-clause-answers g c =
    refusal-told c.args.folder.now (g.D.Depot.now c.args.depot.now).files c.in_err-compared.field-0.0 c.from_residual.result c.in_err-compared.ensures.compares c.from_residual.ensures.1

pub returns-clause-answers : goal.returns-clause-answers
returns-clause-answers g c =
    let made = c.in_ok-compared.compared in
    let r = made.release in
    let fates : AreFates (update_of made) c.as_slice.result.now = subst (λ (xs : List Fate). AreFates (update_of made) xs) (sym c.as_slice.ensures) c.in_ok-compared.ensures.fates in
    moves-told c.args.folder.now (g.D.Depot.now c.args.depot.now).files made c.in_ok-moves.moves c.in_ok-compared.ensures.compares c.in_ok-compared.ensures.names c.in_ok-compared.ensures.placed
    (c.in_ok-moves.ensures r.state (was_of r) r.catalogue.locator made.now fates)
