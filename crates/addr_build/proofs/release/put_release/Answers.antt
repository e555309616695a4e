use Rattle.std.proofs.Common.{◌∙◌, refl, subst, sym, ap, length}
use Rattle.addr_release.specs.Built.{IsBundleOf}
use Rattle.addr_build.specs.within.Building.{PutsRelease}
use Rattle.addr_build.specs.declared.error.PutErr.TheVariants.{NoMemory}
use Rattle.addr_build.proofs.EndLemmas.{err-is}
use Rattle.addr_build.proofs.IndexLemmas.{laid-rows}
use Rattle.addr_build.proofs.KeyLemmas.{built-apart}
use Rattle.addr_build.proofs.LaidLemmas.{many}
use Rattle.addr_build.proofs.ReleaseLemmas.{release-memory, release-stopped, release-done}
use Rattle.addr_build.proofs.release.put_release.Goals as goal

pub returns-in_err-index-clause-puts : goal.returns-in_err-index-clause-puts
returns-in_err-index-clause-puts g c =
    let p = c.args.project.now in
    let plan = c.args.plan.now in
    let folder = c.args.folder.now in
    let old = g.D.Depot.now c.args.depot.now in
    let mid = g.D.Depot.now c.put_bundles.new.depot in
    subst (PutsRelease p plan folder old mid) (sym (err-is c.from_residual-in_err-index.result NoMemory c.from_residual-in_err-index.ensures.1))
    (release-memory p plan folder old mid mid c.in_ok-laid.laid.rows c.in_ok-laid.laid.put c.in_ok-laid.ensures.puts.0)

pub returns-in_err-put_state_and_catalogue-clause-puts : goal.returns-in_err-put_state_and_catalogue-clause-puts
returns-in_err-put_state_and_catalogue-clause-puts g c =
    let p = c.args.project.now in
    let plan = c.args.plan.now in
    let folder = c.args.folder.now in
    let old = g.D.Depot.now c.args.depot.now in
    let mid = g.D.Depot.now c.put_bundles.new.depot in
    let new = g.D.Depot.now c.put_state_and_catalogue.new.depot in
    let (laid, length_is, few, still) = c.in_ok-laid.ensures.puts in
    let rows = c.in_ok-laid.laid.rows in
    let put = c.in_ok-laid.laid.put in
    let number = sym (many (IsBundleOf p plan) folder (built-apart p plan c.requires.placed) old mid mid rows put laid) ∙ length_is in
    let index = c.in_ok-index.ensures laid.bundles laid.each number laid.told in
    let e = c.in_err-put_state_and_catalogue.field-0.0 in
    subst (PutsRelease p plan folder old new) (sym (err-is c.from_residual-in_err-put_state_and_catalogue.result e c.from_residual-in_err-put_state_and_catalogue.ensures.1))
    (release-stopped p plan folder old mid new rows put laid c.in_ok-index.index.state c.in_ok-index.index.catalogue c.as_slice.result.now c.as_slice-2.result.now e index c.as_slice.ensures c.as_slice-2.ensures c.in_err-put_state_and_catalogue.ensures.ends)

pub returns-clause-puts : goal.returns-clause-puts
returns-clause-puts g c =
    let p = c.args.project.now in
    let plan = c.args.plan.now in
    let folder = c.args.folder.now in
    let old = g.D.Depot.now c.args.depot.now in
    let mid = g.D.Depot.now c.put_bundles.new.depot in
    let new = g.D.Depot.now c.put_state_and_catalogue.new.depot in
    let (laid, length_is, few, still) = c.in_ok-laid.ensures.puts in
    let rows = c.in_ok-laid.laid.rows in
    let put = c.in_ok-laid.laid.put in
    let number = sym (many (IsBundleOf p plan) folder (built-apart p plan c.requires.placed) old mid mid rows put laid) ∙ length_is in
    let index = c.in_ok-index.ensures laid.bundles laid.each number laid.told in
    release-done p plan folder old mid new rows put laid c.in_ok-index.index.state c.in_ok-index.index.catalogue c.as_slice.result.now c.as_slice-2.result.now _ _ index c.as_slice.ensures c.as_slice-2.ensures
    c.in_ok-put_state_and_catalogue.ensures.ends refl c.len.ensures refl (ap length c.entries.ensures) still c.in_ok-put_state_and_catalogue.ensures.again

pub index_of-requires-clause-rows : goal.index_of-requires-clause-rows
index_of-requires-clause-rows g c =
    let (laid, length_is, few, still) = c.in_ok-laid.ensures.puts in
    laid-rows c.args.project.now c.args.plan.now c.args.folder.now (g.D.Depot.now c.args.depot.now) (g.D.Depot.now c.put_bundles.new.depot) c.in_ok-laid.laid.rows c.in_ok-laid.laid.put laid length_is
