use Rattle.std.proofs.Common.{◌∙◌, [], ◌∷◌, refl, subst, sym, ap, length}
use Rattle.addr_build.specs.Moments.{LaysAll, LaysSome}
use Rattle.addr_build.specs.declared.error.PutErr.TheVariants.{NoMemory}
use Rattle.addr_build.specs.within.FromDepot.{of_depot}
use Rattle.addr_build.proofs.EndLemmas.{err-is}
use Rattle.addr_build.proofs.LaidLemmas.{many}
use Rattle.addr_check.specs.Comparing.{update_of}
use Rattle.addr_release.specs.Puts.{catalogue_put, hash_put}
use Rattle.addr_patch.specs.within.Putting.{IsPutBundle, PutsUpdate}
use Rattle.addr_patch.proofs.BundleLemmas.{held-there, keys-apart, rows-once}
use Rattle.addr_patch.proofs.PuttingLemmas.{update-done, update-failed, update-memory, update-stopped}
use Rattle.addr_patch.proofs.putting.put_update.Goals as goal

pub put_bundles-requires-clause-there : goal.put_bundles-requires-clause-there
put_bundles-requires-clause-there g c = held-there c.args.compared.now.release c.args.folder.now (g.D.Depot.now c.args.depot.now).files c.requires.held

pub catalogue_bytes-requires-clause-apart : goal.catalogue_bytes-requires-clause-apart
catalogue_bytes-requires-clause-apart g c =
    let (laid, length_is, few) = c.in_ok-laid.ensures.puts in
    rows-once (update_of c.args.compared.now) c.args.prepared.now c.requires.prepared c.args.folder.now (g.D.Depot.now c.args.depot.now) laid.bundles c.in_ok-laid.laid.rows laid.each laid.told

pub returns-in_err-laid-clause-puts : goal.returns-in_err-laid-clause-puts
returns-in_err-laid-clause-puts g c =
    let u = update_of c.args.compared.now in
    let made = c.args.prepared.now in
    let folder = c.args.folder.now in
    let named = c.args.compared.now.release.catalogue.state in
    let old = g.D.Depot.now c.args.depot.now in
    let mid = g.D.Depot.now c.put_bundles.new.depot in
    let e = c.in_err-laid.field-0.0 in
    subst (PutsUpdate u made folder named old mid) (sym (err-is c.from_residual.result e c.from_residual.ensures.1)) (update-stopped u made folder named old mid e c.in_err-laid.ensures.puts)

pub returns-in_err-catalogue-clause-puts : goal.returns-in_err-catalogue-clause-puts
returns-in_err-catalogue-clause-puts g c =
    let u = update_of c.args.compared.now in
    let made = c.args.prepared.now in
    let folder = c.args.folder.now in
    let named = c.args.compared.now.release.catalogue.state in
    let old = g.D.Depot.now c.args.depot.now in
    let mid = g.D.Depot.now c.put_bundles.new.depot in
    subst (PutsUpdate u made folder named old mid) (sym (err-is c.from_residual-in_err-catalogue.result NoMemory c.from_residual-in_err-catalogue.ensures.1))
    (update-memory u made folder named old mid c.in_ok-laid.laid.rows c.in_ok-laid.laid.put c.in_ok-laid.ensures.puts.0 c.requires.prepared)

pub returns-in_err-put_catalogue-clause-puts : goal.returns-in_err-put_catalogue-clause-puts
returns-in_err-put_catalogue-clause-puts g c =
    let u = update_of c.args.compared.now in
    let made = c.args.prepared.now in
    let folder = c.args.folder.now in
    let named = c.args.compared.now.release.catalogue.state in
    let old = g.D.Depot.now c.args.depot.now in
    let mid = g.D.Depot.now c.put_bundles.new.depot in
    let new = g.D.Depot.now c.put_catalogue.new.depot in
    let (laid, length_is, few) = c.in_ok-laid.ensures.puts in
    let rows = c.in_ok-laid.laid.rows in
    let put = c.in_ok-laid.laid.put in
    let is = IsPutBundle u made.plan folder old in
    let number = sym (many is folder (keys-apart u made c.requires.prepared folder old) old mid mid rows put laid) ∙ length_is in
    let cause = c.in_err-put_catalogue.field-0.0 in
    let bytes = c.in_ok-catalogue.catalogue.items in
    subst (PutsUpdate u made folder named old new) (sym (err-is c.from_residual-in_err-put_catalogue.result (of_depot cause) c.from_residual-in_err-put_catalogue.ensures.1))
    (update-failed u made folder named old mid rows put laid number bytes c.in_ok-catalogue.ensures new cause
    (subst (λ b. LaysSome (catalogue_put folder b ∷ hash_put folder b ∷ []) mid new) c.as_slice.ensures.value c.in_err-put_catalogue.ensures.puts))

pub returns-clause-puts : goal.returns-clause-puts
returns-clause-puts g c =
    let u = update_of c.args.compared.now in
    let made = c.args.prepared.now in
    let folder = c.args.folder.now in
    let named = c.args.compared.now.release.catalogue.state in
    let old = g.D.Depot.now c.args.depot.now in
    let mid = g.D.Depot.now c.put_bundles.new.depot in
    let new = g.D.Depot.now c.put_catalogue.new.depot in
    let (laid, length_is, few) = c.in_ok-laid.ensures.puts in
    let rows = c.in_ok-laid.laid.rows in
    let put = c.in_ok-laid.laid.put in
    let is = IsPutBundle u made.plan folder old in
    let number = sym (many is folder (keys-apart u made c.requires.prepared folder old) old mid mid rows put laid) ∙ length_is in
    let bytes = c.in_ok-catalogue.catalogue.items in
    update-done u made folder named old mid rows put laid number bytes c.in_ok-catalogue.ensures new _
    (subst (λ b. LaysAll (catalogue_put folder b ∷ hash_put folder b ∷ []) mid new) c.as_slice.ensures.value c.in_ok-put_catalogue.ensures.puts) refl c.len.ensures refl (ap length c.entries.ensures)
