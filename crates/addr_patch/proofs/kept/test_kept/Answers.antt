use Rattle.std.proofs.Common.{◌≡◌, ◌∙◌, Some, not, ap, subst, sym}
use Rattle.addr_base.specs.Files.{file_at}
use Rattle.addr_build.proofs.PutLemmas.{if-told, told-at}
use Rattle.addr_project.specs.Reading.{path}
use Rattle.addr_release.specs.Names.{side_path}
use Rattle.addr_release.specs.Puts.{are_other}
use Rattle.addr_patch.proofs.KeptLemmas.{kept-tells}
use Rattle.addr_patch.proofs.kept.test_kept.Goals as goal

pub returns-clause-tests : goal.returns-clause-tests
returns-clause-tests g c =
    let folder = c.args.folder.now in
    let remote = c.args.remote in
    let key = c.args.key.now in
    let store = g.D.Depot.now c.args.depot.now in
    let own : c.as_str-3.result.now ≡ side_path folder remote key = c.as_str-3.ensures ∙ (c.in_ok-own.ensures ∙ ap (path folder) (c.as_str.ensures ∙ c.in_ok-name.ensures)) in
    let other : c.as_str-4.result.now ≡ side_path folder (not remote) key = c.as_str-4.ensures ∙ (c.in_ok-other.ensures ∙ ap (path folder) (c.as_str-2.ensures ∙ c.in_ok-name-2.ensures)) in
    if-told store.files _ (λ files is bytes there. (
    let told = told-at store.files _ files is c.in_ok-free.ensures.told bytes (subst (λ n. file_at n files ≡ Some bytes) (sym own) there) in
    kept-tells files folder remote key bytes c.in_ok-free.free c.refusal.result there (told ∙ ap (λ n. not (are_other bytes (file_at n files))) other) c.refusal.ensures))
