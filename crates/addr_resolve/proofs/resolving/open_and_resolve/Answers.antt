use Rattle.std.proofs.Common.{List, Err, ap, subst, sym, ◌∙◌}
use Rattle.std.specs.List.{AllZip}
use Rattle.addr_cab.specs.Lookup.{Held}
use Rattle.addr_locate.specs.declared.rows.BundleRow.{BundleRow}
use Rattle.addr_project.proofs.LoadLemmas.{if-some, if-some-at}
use Rattle.addr_resolve.specs.Items.{ShowsCabs}
use Rattle.addr_resolve.specs.Opening.{IsOpenedAs}
use Rattle.addr_resolve.specs.within.Steps.{ResolvesRows}
use Rattle.addr_resolve.proofs.ResolveLemmas.{opened-done, opened-lost}
use Rattle.addr_resolve.proofs.resolving.open_and_resolve.Goals as goal

pub returns-in-Ok-clause-resolves : goal.returns-in-Ok-clause-resolves
returns-in-Ok-clause-resolves g c = if-some (g.D.Depot.now c.args.depot.now).files _ (λ files is rows are.
    let r = c.args.locator.now in
    let folder = c.args.folder.now in
    let cabs : List Held = c.in_ok-cabs.cabs.items in
    let opens : AllZip (IsOpenedAs files folder) r.bundles cabs = subst (λ (bs : List BundleRow). AllZip (IsOpenedAs files folder) bs cabs) c.bundles.ensures.rows (if-some-at _ (g.D.Depot.now c.args.depot.now).files files is c.in_ok-cabs.ensures.opened) in
    opened-done files folder r cabs c.args.numbers.now rows c.in-Ok.shown opens are
    (λ opened all named shows also. subst (λ x. ResolvesRows r opened all x) c.in-Ok.is (c.resolve_rows.ensures opened all named (subst (λ (cs : List Held). ShowsCabs opened cs) (sym c.as_slice.ensures.value) shows) also)))

pub returns-in-Err-Lost-clause-resolves : goal.returns-in-Err-Lost-clause-resolves
returns-in-Err-Lost-clause-resolves g c = if-some (g.D.Depot.now c.args.depot.now).files _ (λ files is rows are.
    let r = c.args.locator.now in
    let folder = c.args.folder.now in
    let cabs : List Held = c.in_ok-cabs.cabs.items in
    let opens : AllZip (IsOpenedAs files folder) r.bundles cabs = subst (λ (bs : List BundleRow). AllZip (IsOpenedAs files folder) bs cabs) c.bundles.ensures.rows (if-some-at _ (g.D.Depot.now c.args.depot.now).files files is c.in_ok-cabs.ensures.opened) in
    opened-lost files folder r cabs c.args.numbers.now rows c.in-Err-Lost.key c.in-Err-Lost.guid opens are
    (λ opened all named shows also. subst (λ x. ResolvesRows r opened all x) (c.in-Err-Lost.is ∙ ap Err c.in-Err-Lost.field-0-is) (c.resolve_rows.ensures opened all named (subst (λ (cs : List Held). ShowsCabs opened cs) (sym c.as_slice.ensures.value) shows) also)))
