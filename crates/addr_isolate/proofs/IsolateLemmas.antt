-- What is made of a project file, and why nothing is.
use Rattle.std.proofs.Common.{◌≡◌, ℕ, ◌⊎◌, inl, inr, List, Option, Some, None, Ok, Err, refl, sym, subst, ◌∙◌}
use Rattle.toml.specs.Data.{Members}
use Rattle.addr_analyze.specs.declared.duplicate.Duplicate.{Duplicate}
use Rattle.addr_analyze.specs.Duplicates.{AreDuplicates}
use Rattle.addr_pack.specs.declared.bundles.Plan.{Plan}
use Rattle.addr_project.specs.Kept.{IsKept}
use Rattle.addr_project.specs.Model.{Project}
use Rattle.addr_base.specs.Files.{file_at}
use Rattle.addr_base.specs.declared.files.MemFile.{MemFile}
use Rattle.addr_project.specs.declared.error.ProjectErr.TheVariants.{BadToml}
use Rattle.addr_project.specs.Reading.{ProjectOf, reply_of_tree, tree_of}
use Rattle.addr_project.proofs.ReadLemmas.{folder-tree}
use Rattle.addr_isolate.specs.Document.{IsWithEntries}
use Rattle.addr_isolate.specs.Isolating.{IsIsolation, IsWritten, Isolates, guids_of, project_path}
use Rattle.addr_isolate.specs.Shallow.{IsPlain}
use Rattle.addr_isolate.specs.declared.error.IsolateErr.{IsolateErr}
use Rattle.addr_isolate.specs.declared.error.IsolateErr.TheVariants.{Broken, NoMemory}
use Rattle.addr_isolate.specs.declared.isolating.Isolation.{Isolation}
use Rattle.addr_isolate.proofs.FolderLemmas.{IsRoomFor, good-tree, isolates}
use Rattle.addr_isolate.proofs.PlainLemmas.{good-fields, plain}

pub made-is : (p : Project) (plan : Plan) (found : List Duplicate) (file : List ℕ) (made : Isolation) → IsKept p → AreDuplicates p plan found → IsRoomFor p made.group found → IsWritten file made.group (guids_of found) made.file
    → IsIsolation p found file made
made-is p plan found file made kept are room written = record {
  named = room.free;
  stands = λ files after folder read there put. (
      let reply : reply_of_tree files folder (Some written.tree) ≡ Ok p = sym (folder-tree files folder file (Some written.tree) there written.is) ∙ read in
      let none = (good-tree files folder written.tree p reply).0 in
      let members = plain written.tree (good-fields written.tree none) in
      isolates files after folder made.file written.tree written.new plan made.group found none written.entries (written.reads members) put p reply kept are room);
  written = λ tree is. (
      let same : written.tree ≡ tree = (let both = sym written.is ∙ is in cc both) in
      (written.new, subst (λ (old : Members). IsWithEntries old made.group (guids_of found) written.new) same written.entries, written.printed));
}

-- a file with plain members is read
no-document : (files : List MemFile) (folder : List ℕ) (p : Project) (file : List ℕ) → ((tree : Members) → tree_of file ≡ Some tree → IsPlain tree → ⊥) → ProjectOf files folder p → file_at (project_path folder) files ≡ Some file → ⊥
no-document files folder p file none read there = by_tree (tree_of file) refl
  where
    by_tree : (o : Option Members) → tree_of file ≡ o → ⊥
    by_tree None is = (let bad : Err BadToml ≡ Ok p = sym (folder-tree files folder file None there is) ∙ read in cc bad)
    by_tree (Some tree) is =
        let reply : reply_of_tree files folder (Some tree) ≡ Ok p = sym (folder-tree files folder file (Some tree) there is) ∙ read in
        none tree is (plain tree (good-fields tree (good-tree files folder tree p reply).0))

pub fault-is : (p : Project) (found : List Duplicate) (file : List ℕ) (e : IsolateErr) → (e ≡ NoMemory) ⊎ ((e ≡ Broken) × ((tree : Members) → tree_of file ≡ Some tree → IsPlain tree → ⊥)) → Isolates p found file (Err e)
fault-is p found file e (inl is) = subst (λ (f : IsolateErr). Isolates p found file (Err f)) (sym is) tt
fault-is p found file e (inr (is, none)) = subst (λ (f : IsolateErr). Isolates p found file (Err f)) (sym is) (λ files folder read there. no-document files folder p file none read there)
