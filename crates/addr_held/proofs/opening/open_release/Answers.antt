use Rattle.std.proofs.Common.{subst, sym, ◌∙◌}
use Rattle.addr_project.proofs.LoadLemmas.{if-some, if-some-at}
use Rattle.addr_resolve.proofs.RowLemmas.{err-is}
use Rattle.addr_held.specs.Opening.{OpensRelease}
use Rattle.addr_held.proofs.OpenedLemmas.{bundles-stop, release-opens, state-stops}
use Rattle.addr_held.proofs.opening.open_release.Goals as goal

pub returns-in_err-state-clause-answers : goal.returns-in_err-state-clause-answers
returns-in_err-state-clause-answers g c = if-some (g.D.Depot.now c.args.depot.now).files _ (λ files is.
    let folder = c.args.folder.now in
    let e = c.in_err-state.field-0.0 in
    let reads = if-some-at _ (g.D.Depot.now c.args.depot.now).files files is c.in_ok-catalogue.ensures.reads in
    let stops = if-some-at _ (g.D.Depot.now c.read_catalogue.new.depot).files files (c.in_ok-catalogue.ensures.same.files ∙ is) c.in_err-state.ensures.reads in
    subst (OpensRelease files folder) (sym (err-is c.from_residual-in_err-state.result e c.from_residual-in_err-state.ensures.1)) (state-stops files folder c.in_ok-catalogue.catalogue e reads stops))

pub returns-in_err-cabs-clause-answers : goal.returns-in_err-cabs-clause-answers
returns-in_err-cabs-clause-answers g c = if-some (g.D.Depot.now c.args.depot.now).files _ (λ files is.
    let folder = c.args.folder.now in
    let e = c.in_err-cabs.field-0.0 in
    let still = c.in_ok-catalogue.ensures.same.files ∙ is in
    let reads = if-some-at _ (g.D.Depot.now c.args.depot.now).files files is c.in_ok-catalogue.ensures.reads in
    let state = if-some-at _ (g.D.Depot.now c.read_catalogue.new.depot).files files still c.in_ok-state.ensures.reads in
    let refused = if-some-at _ (g.D.Depot.now c.read_named.new.depot).files files (c.in_ok-state.ensures.same.files ∙ still) c.in_err-cabs.ensures.refused in
    subst (OpensRelease files folder) (sym (err-is c.from_residual-in_err-cabs.result e c.from_residual-in_err-cabs.ensures.1)) (bundles-stop files folder c.in_ok-catalogue.catalogue c.in_ok-state.state e reads state refused))

pub returns-clause-answers : goal.returns-clause-answers
returns-clause-answers g c = if-some (g.D.Depot.now c.args.depot.now).files _ (λ files is.
    let folder = c.args.folder.now in
    let still = c.in_ok-catalogue.ensures.same.files ∙ is in
    let reads = if-some-at _ (g.D.Depot.now c.args.depot.now).files files is c.in_ok-catalogue.ensures.reads in
    let state = if-some-at _ (g.D.Depot.now c.read_catalogue.new.depot).files files still c.in_ok-state.ensures.reads in
    let opened = if-some-at _ (g.D.Depot.now c.read_named.new.depot).files files (c.in_ok-state.ensures.same.files ∙ still) c.in_ok-cabs.ensures.opened in
    release-opens files folder (record { catalogue = c.in_ok-catalogue.catalogue; state = c.in_ok-state.state; cabs = c.in_ok-cabs.cabs }) reads state opened)
