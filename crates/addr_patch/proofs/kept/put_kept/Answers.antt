use Rattle.std.proofs.Common.{◌≡◌, ◌∙◌, ℕ, List, Some, Ok, Err, IfSome, ap, refl, subst, sym}
use Rattle.addr_base.specs.Files.{file_at}
use Rattle.addr_build.specs.Endings.{key_tests}
use Rattle.addr_build.specs.Making.{PutsOne}
use Rattle.addr_build.proofs.EndLemmas.{err-is}
use Rattle.addr_locate.specs.declared.rows.BundleRow.{BundleRow}
use Rattle.addr_release.specs.Names.{side_path}
use Rattle.addr_patch.specs.within.Putting.{Stands, TellsKept}
use Rattle.addr_patch.proofs.KeptLemmas.{kept-done, kept-refused, side-is}
use Rattle.addr_patch.proofs.kept.put_kept.Goals as goal

pub returns-in_err-test_kept-clause-puts : goal.returns-in_err-test_kept-clause-puts
returns-in_err-test_kept-clause-puts g c =
    let old = c.args.old.now in
    let row = c.args.row.now in
    let folder = c.args.folder.now in
    let a = g.D.Depot.now c.args.depot.now in
    let z = g.D.Depot.now c.test_kept.new.depot in
    let remote = c.is_remote-remote.result in
    let side = side-is old c.as_str.result.now remote c.requires.formed c.as_str.ensures c.is_remote-remote.ensures in
    let same : c.as_str-2.result.now ≡ row.key = c.as_str-2.ensures ∙ ap (λ (r : BundleRow). r.key) c.in_ok-row.ensures in
    let e = c.in_err-test_kept.field-0.0 in
    λ b there. subst (PutsOne (Stands old row a folder) folder b a z) (sym (err-is c.from_residual-in_err-test_kept.result e c.from_residual-in_err-test_kept.ensures.1))
    (kept-refused old row folder remote side c.requires.row.key a z c.in_err-test_kept.ensures.same there b e
    (subst (λ k. IfSome a.files (λ files. (bytes : List ℕ) → file_at (side_path folder remote k) files ≡ Some bytes → TellsKept files folder (key_tests 0 k bytes) (Err e))) same c.in_err-test_kept.ensures.tests))

pub returns-clause-puts : goal.returns-clause-puts
returns-clause-puts g c =
    let old = c.args.old.now in
    let row = c.args.row.now in
    let folder = c.args.folder.now in
    let a = g.D.Depot.now c.args.depot.now in
    let z = g.D.Depot.now c.test_kept.new.depot in
    let remote = c.is_remote-remote.result in
    let side = side-is old c.as_str.result.now remote c.requires.formed c.as_str.ensures c.is_remote-remote.ensures in
    let same : c.as_str-2.result.now ≡ row.key = c.as_str-2.ensures ∙ ap (λ (r : BundleRow). r.key) c.in_ok-row.ensures in
    λ b there. kept-done old row folder remote side c.requires.row.key a z c.in_ok-test_kept.ensures.same there b _ c.in_ok-row.ensures refl
    (subst (λ k. IfSome a.files (λ files. (bytes : List ℕ) → file_at (side_path folder remote k) files ≡ Some bytes → TellsKept files folder (key_tests 0 k bytes) (Ok tt))) same c.in_ok-test_kept.ensures.tests)
