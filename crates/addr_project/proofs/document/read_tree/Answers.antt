use Rattle.std.proofs.Common.{◌≡◌, Err, Some, None, inl, inr, sym, ap, ◌∙◌}
use Rattle.std.specs.Prelude.{codes}
use Rattle.std.specs.Option.{option_map}
use Rattle.addr_base.specs.Files.{file_at}
use Rattle.toml.specs.View.{table_view}
use Rattle.addr_project.specs.Reading.{path, tree_of}
use Rattle.addr_project.proofs.LoadLemmas.{if-some, if-some-at}
use Rattle.addr_project.proofs.ReadLemmas.{folder-none, folder-tree}
use Rattle.addr_project.proofs.document.read_tree.Goals as goal

pub returns-in-Ok-clause-told : goal.returns-in-Ok-clause-told
returns-in-Ok-clause-told g c =
    let folder = c.args.folder.now in
    let name_is : c.as_str.result.now ≡ path folder (codes "project.toml") = c.as_str.ensures.value ∙ c.in_ok-name.ensures in
    if-some ((g.D.Depot.now c.args.depot.now).files) _ (λ files is. (
    let content = if-some-at _ ((g.D.Depot.now c.args.depot.now).files) files is c.in_ok-bytes.ensures.content in
    let some : file_at (path folder (codes "project.toml")) files ≡ Some c.in-Some.bytes.items = ap (λ n. file_at n files) (sym name_is) ∙ sym content ∙ ap (option_map (λ v. v.items)) c.in-Some.is in
    folder-tree files folder c.in-Some.bytes.items (Some (table_view c.in-Ok.tree)) some (ap tree_of (sym c.as_slice.ensures.value) ∙ c.in-Ok.ensures.ok)))

pub returns-in-Some-clause-told : goal.returns-in-Some-clause-told
returns-in-Some-clause-told g c =
    let folder = c.args.folder.now in
    let name_is : c.as_str.result.now ≡ path folder (codes "project.toml") = c.as_str.ensures.value ∙ c.in_ok-name.ensures in
    if-some ((g.D.Depot.now c.args.depot.now).files) _ (λ files is. (
    let content = if-some-at _ ((g.D.Depot.now c.args.depot.now).files) files is c.in_ok-bytes.ensures.content in
    let some : file_at (path folder (codes "project.toml")) files ≡ Some c.in-Some.bytes.items = ap (λ n. file_at n files) (sym name_is) ∙ sym content ∙ ap (option_map (λ v. v.items)) c.in-Some.is in
    elim c.in-Err.ensures.err [
      | inl memory ↦ inl memory
      | inr (is_bad, none) ↦ inr (inr (folder-tree files folder c.in-Some.bytes.items None some (ap tree_of (sym c.as_slice.ensures.value) ∙ none) ∙ ap Err (sym is_bad)))
    ]))

pub returns-clause-told : goal.returns-clause-told
returns-clause-told g c =
    let folder = c.args.folder.now in
    let name_is : c.as_str.result.now ≡ path folder (codes "project.toml") = c.as_str.ensures.value ∙ c.in_ok-name.ensures in
    if-some ((g.D.Depot.now c.args.depot.now).files) _ (λ files is. (
    let content = if-some-at _ ((g.D.Depot.now c.args.depot.now).files) files is c.in_ok-bytes.ensures.content in
    let none : file_at (path folder (codes "project.toml")) files ≡ None = ap (λ n. file_at n files) (sym name_is) ∙ sym content ∙ ap (option_map (λ v. v.items)) c.in-None.is in
    inr (inr (folder-none files folder none))))
