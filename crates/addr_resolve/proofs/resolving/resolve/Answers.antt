use Rattle.std.proofs.Common.{List, subst, sym, ◌∙◌}
use Rattle.addr_base.specs.declared.ids.RowNo.{RowNo}
use Rattle.addr_project.proofs.LoadLemmas.{if-some, if-some-at}
use Rattle.addr_resolve.specs.Resolving.{Resolves, rows_with}
use Rattle.addr_resolve.specs.within.Steps.{AreNumbersOf}
use Rattle.addr_resolve.proofs.ResolveLemmas.{rows-done, rows-stop}
use Rattle.addr_resolve.proofs.RowLemmas.{err-is}
use Rattle.addr_resolve.proofs.resolving.resolve.Goals as goal

pub returns-in_err-shown-clause-answers : goal.returns-in_err-shown-clause-answers
returns-in_err-shown-clause-answers g c = if-some (g.D.Depot.now c.args.depot.now).files _ (λ files is.
    let folder = c.args.folder.now in
    let key = c.args.key.now in
    let catalogue = c.in_ok-catalogue.catalogue in
    let numbers : List RowNo = c.in_ok-numbers.numbers in
    let e = c.in_err-shown.field-0.0 in
    let rows = rows_with catalogue.locator key in
    let reads = if-some-at _ (g.D.Depot.now c.args.depot.now).files files is c.in_ok-catalogue.ensures.reads in
    let finds = c.in_ok-numbers.ensures.finds in
    let are : AreNumbersOf catalogue.locator rows c.as_slice.result.now = subst (λ (ns : List RowNo). AreNumbersOf catalogue.locator rows ns) (sym c.as_slice.ensures) finds.1 in
    let does = if-some-at _ (g.D.Depot.now c.read_release.new.depot).files files (c.in_ok-catalogue.ensures.same.files ∙ is) c.in_err-shown.ensures.resolves rows are in
    subst (Resolves files folder key) (sym (err-is c.from_residual-in_err-shown.result e c.from_residual-in_err-shown.ensures.1)) (rows-stop files folder key catalogue numbers e reads finds does))

pub returns-clause-answers : goal.returns-clause-answers
returns-clause-answers g c = if-some (g.D.Depot.now c.args.depot.now).files _ (λ files is.
    let folder = c.args.folder.now in
    let key = c.args.key.now in
    let catalogue = c.in_ok-catalogue.catalogue in
    let numbers : List RowNo = c.in_ok-numbers.numbers in
    let rows = rows_with catalogue.locator key in
    let reads = if-some-at _ (g.D.Depot.now c.args.depot.now).files files is c.in_ok-catalogue.ensures.reads in
    let finds = c.in_ok-numbers.ensures.finds in
    let are : AreNumbersOf catalogue.locator rows c.as_slice.result.now = subst (λ (ns : List RowNo). AreNumbersOf catalogue.locator rows ns) (sym c.as_slice.ensures) finds.1 in
    let does = if-some-at _ (g.D.Depot.now c.read_release.new.depot).files files (c.in_ok-catalogue.ensures.same.files ∙ is) c.in_ok-shown.ensures.resolves rows are in
    rows-done files folder key catalogue numbers c.in_ok-shown.shown reads finds does)
