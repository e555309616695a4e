use Rattle.std.proofs.Common.{Ok, Err, Some, inl, inr, ap, subst, ◌∙◌}
use Rattle.toml.specs.View.{table_view}
use Rattle.addr_project.specs.AssetFiles.{ReadsAssets, KeepsRows}
use Rattle.addr_project.specs.Rows.{file_of}
use Rattle.addr_project.proofs.LoadLemmas.{if-some, if-some-at}
use Rattle.addr_project.proofs.NeverLemmas.{tree_never}
use Rattle.addr_project.proofs.ReadLemmas.{tree-faulty, tree-good, file-faulty, file-good, project-parts, file-tested, kept_parts}
use Rattle.addr_project.proofs.TreeLemmas.{good_rows}
use Rattle.addr_project.proofs.project.Project.read.Goals as goal

pub invariant_of-result : goal.invariant_of-result
invariant_of-result g c =
    let (none, are) = c.in-Ok.ensures.ok in
    let kept : KeepsRows (file_of (table_view c.in_ok-tree.tree)).assets c.in-Ok-read_assets.assets = subst (λ rows. KeepsRows rows c.in-Ok-read_assets.assets) (c.as_slice.ensures ∙ are.assets) c.in-Ok-read_assets.ensures.kept in
    kept_parts (file_of (table_view c.in_ok-tree.tree)) c.in-Ok.parts c.in-Ok-read_assets.assets (file-tested (table_view c.in_ok-tree.tree) none) (good_rows (table_view c.in_ok-tree.tree) none) are kept

pub returns-clause-told : goal.returns-clause-told
returns-clause-told g c =
    let tv = table_view c.in_ok-tree.tree in
    let folder = c.args.folder.now in
    let (none, are) = c.in-Ok.ensures.ok in
    if-some ((g.D.Depot.now c.args.depot.now).files) _ (λ files is. (
    let tree = if-some-at _ ((g.D.Depot.now c.args.depot.now).files) files is c.in_ok-tree.ensures.told in
    let read = if-some-at _ ((g.D.Depot.now c.read_tree.new.depot).files) files (c.in_ok-tree.ensures.same.files ∙ is) c.in-Ok-read_assets.ensures.told in
    let (good, assets_are) = subst (λ rows. ReadsAssets files folder rows (Ok c.in-Ok-read_assets.assets)) (c.as_slice.ensures ∙ are.assets) read in
    inr (inr (tree ∙ tree-good files folder tv none ∙ file-good files folder (file_of tv) good ∙ ap Ok (project-parts files folder (file_of tv) c.in-Ok.parts c.in-Ok-read_assets.assets are assets_are)))))

pub returns-in-Err-clause-told : goal.returns-in-Err-clause-told
returns-in-Err-clause-told g c =
    let tv = table_view c.in_ok-tree.tree in
    if-some ((g.D.Depot.now c.args.depot.now).files) _ (λ files is. (
    let tree = if-some-at _ ((g.D.Depot.now c.args.depot.now).files) files is c.in_ok-tree.ensures.told in
    elim c.in-Err.ensures.err [
      | inl memory ↦ inl (ap Err memory)
      | inr faulty ↦ inr (inr (tree ∙ tree-faulty files c.args.folder.now tv c.in-Err.fault faulty))
    ]))

pub returns-in-Err-clause-cause : goal.returns-in-Err-clause-cause
returns-in-Err-clause-cause g c = record {
  later = c.in_ok-tree.ensures.cause.later;
  failed = λ same. (elim c.in-Err.ensures.err [
    | inl memory ↦ absurd (cc (memory, same))
    | inr faulty ↦ absurd (tree_never (table_view c.in_ok-tree.tree) (faulty ∙ ap Some same))
  ]);
  kept = λ _. c.in_ok-tree.ensures.cause.kept (λ is. cc is);
}

pub returns-in-Err-read_assets-clause-told : goal.returns-in-Err-read_assets-clause-told
returns-in-Err-read_assets-clause-told g c =
    let tv = table_view c.in_ok-tree.tree in
    let folder = c.args.folder.now in
    let (none, are) = c.in-Ok.ensures.ok in
    if-some ((g.D.Depot.now c.args.depot.now).files) _ (λ files is. (
    let tree = if-some-at _ ((g.D.Depot.now c.args.depot.now).files) files is c.in_ok-tree.ensures.told in
    let read = if-some-at _ ((g.D.Depot.now c.read_tree.new.depot).files) files (c.in_ok-tree.ensures.same.files ∙ is) c.in-Err-read_assets.ensures.told in
    elim (subst (λ rows. ReadsAssets files folder rows (Err c.in-Err-read_assets.fault)) (c.as_slice.ensures ∙ are.assets) read) [
      | inl memory ↦ inl (ap Err memory)
      | inr (inl depot) ↦ inr (inl (ap Err depot))
      | inr (inr faulty) ↦ inr (inr (tree ∙ tree-good files folder tv none ∙ file-faulty files folder (file_of tv) c.in-Err-read_assets.fault faulty))
    ]))
