-- The answer of a folder, step by step as it is read.
use Rattle.std.proofs.Common.{◌≡◌, ℕ, List, Option, Some, None, Ok, Err, sym, ap, subst, ◌∙◌}
use Rattle.std.specs.Prelude.{codes}
use Rattle.toml.specs.Data.{Members}
use Rattle.addr_base.specs.Files.{file_at}
use Rattle.addr_base.specs.declared.files.MemFile.{MemFile}
use Rattle.addr_project.specs.declared.error.ProjectErr.{ProjectErr}
use Rattle.addr_project.specs.declared.error.ProjectErr.TheVariants.{NoProject}
use Rattle.addr_project.specs.declared.model.Asset.{Asset}
use Rattle.addr_project.specs.declared.rows.ProjectFile.{ProjectFile}
use Rattle.addr_project.specs.AssetFiles.{contents, assets_of, KeepsRows}
use Rattle.addr_project.specs.Checked.{IsParts}
use Rattle.addr_project.specs.declared.parts.Parts.{Parts}
use Rattle.addr_project.specs.Kept.{IsKept}
use Rattle.addr_project.proofs.KeptLemmas.{kept_from}
use Rattle.addr_project.proofs.OnceLemmas.{none-parts}
use Rattle.addr_project.proofs.TreeLemmas.{AreGoodRows}
use Rattle.addr_project.specs.Faults.{tree_fault, file_fault}
use Rattle.addr_project.specs.Reading.{path, tree_of, asset_fault, project_of, text_given, unless_fault, reply_after, reply_of_file, reply_of_tree, reply_of_bytes, reply_of_folder}
use Rattle.addr_project.specs.Rows.{file_of}

module _ (files : List MemFile) (folder : List ℕ) where
  pub folder-none : file_at (path folder (codes "project.toml")) files ≡ None → reply_of_folder files folder ≡ Err NoProject
  unfolding reply_of_folder
  folder-none none = ap (reply_of_bytes files folder) none

  pub folder-tree : (bytes : List ℕ) (tree : Option Members) → file_at (path folder (codes "project.toml")) files ≡ Some bytes → tree_of bytes ≡ tree → reply_of_folder files folder ≡ reply_of_tree files folder tree
  unfolding reply_of_folder
  folder-tree bytes tree some is = ap (reply_of_bytes files folder) some ∙ ap (reply_of_tree files folder) is

  pub tree-faulty : (tree : Members) (fault : ProjectErr) → tree_fault tree ≡ Some fault → reply_of_tree files folder (Some tree) ≡ Err fault
  tree-faulty tree fault is = ap (λ o. reply_after o (reply_of_file files folder (file_of tree))) is

  pub tree-good : (tree : Members) → tree_fault tree ≡ None → reply_of_tree files folder (Some tree) ≡ reply_of_file files folder (file_of tree)
  tree-good tree is = ap (λ o. reply_after o (reply_of_file files folder (file_of tree))) is

  pub file-faulty : (f : ProjectFile) (fault : ProjectErr) → asset_fault (contents files folder f.assets) ≡ Some fault → reply_of_file files folder f ≡ Err fault
  unfolding reply_of_file
  file-faulty f fault is = ap (λ o. unless_fault o (project_of f files folder)) is

  pub file-good : (f : ProjectFile) → asset_fault (contents files folder f.assets) ≡ None → reply_of_file files folder f ≡ Ok (project_of f files folder)
  unfolding reply_of_file
  file-good f is = ap (λ o. unless_fault o (project_of f files folder)) is

  pub project-parts : (f : ProjectFile) (parts : Parts) (assets : List Asset) → IsParts f parts → assets ≡ assets_of files folder f.assets
      → project_of f files folder ≡ record { version = parts.version; local = parts.local; remote = parts.remote; variables = parts.variables; groups = parts.groups; assets = assets; entries = parts.entries }
  unfolding project_of
  project-parts f parts assets are assets_are =
      λ i. record { version = (sym are.version) i; local = text_given (are.local i); remote = text_given (are.remote i); variables = (sym are.variables) i; groups = (sym are.groups) i; assets = (sym assets_are) i; entries = (sym are.entries) i }

pub file-tested : (tree : Members) → tree_fault tree ≡ None → file_fault (file_of tree) ≡ None
unfolding tree_fault
file-tested tree none = (none-parts _ _ none).1

pub kept_parts : (f : ProjectFile) (parts : Parts) (assets : List Asset) → file_fault f ≡ None → AreGoodRows f → IsParts f parts → KeepsRows f.assets assets
    → IsKept (record { version = parts.version; local = parts.local; remote = parts.remote; variables = parts.variables; groups = parts.groups; assets = assets; entries = parts.entries })
kept_parts f parts assets none good are kept =
    subst IsKept (λ i. record { version = (sym are.version) i; local = parts.local; remote = parts.remote; variables = (sym are.variables) i; groups = (sym are.groups) i; assets = assets; entries = (sym are.entries) i })
    (kept_from f assets parts.local parts.remote none good kept are.local are.remote)
