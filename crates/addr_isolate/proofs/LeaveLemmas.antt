-- What the isolation of a folder leaves, where the depot tells its files.
use Rattle.std.proofs.Common.{◌≡◌, ℕ, ◌⊎◌, inl, inr, List, Option, Some, None, Result, Ok, Err, refl, sym, subst, ◌∙◌}
use Rattle.std.specs.Prelude.{IsNone, IsSomeAnd}
use Rattle.addr_analyze.specs.declared.duplicate.Duplicate.{Duplicate}
use Rattle.addr_base.specs.Files.{IsPut, Puts, SameFiles, file_at}
use Rattle.addr_base.specs.declared.depot.DepotErr.{DepotErr}
use Rattle.addr_base.specs.declared.files.MemFile.{MemFile}
use Rattle.addr_project.specs.Model.{Project}
use Rattle.addr_project.specs.Reading.{ProjectOf}
use Rattle.addr_project.specs.declared.error.ProjectErr.TheVariants.{NoProject}
use Rattle.addr_project.proofs.ReadLemmas.{folder-none}
use Rattle.addr_isolate.specs.Isolating.{IsIsolation, Isolates, project_path}
use Rattle.addr_isolate.specs.Leaving.{IsIsolatedFolder, IsOldOrIsolated, IsUnread, Leaves, OfFiles, PutsMade}
use Rattle.addr_isolate.specs.declared.error.IsolateErr.{IsolateErr}
use Rattle.addr_isolate.specs.declared.error.IsolateErr.TheVariants.{TooLarge, Broken, DepotFault, NoMemory}
use Rattle.addr_isolate.specs.declared.isolating.Isolation.{Isolation}

-- the files are the same
pub of-same : (old new : Option (List MemFile)) (says : List MemFile → List MemFile → Type 0) → new ≡ old → ((before : List MemFile) → old ≡ Some before → says before before) → OfFiles old new says
of-same None new says same each = subst IsNone (sym same) refl
of-same (Some before) new says same each = subst (λ o. IsSomeAnd o (says before)) (sym same) (each before refl)

-- what one says of them follows from what another says
pub of-map : (old new : Option (List MemFile)) (says other : List MemFile → List MemFile → Type 0) → ((before after : List MemFile) → old ≡ Some before → says before after → other before after)
    → OfFiles old new says → OfFiles old new other
of-map None new says other takes is = is
of-map (Some before) None says other takes is = absurd is
of-map (Some before) (Some after) says other takes is = takes before after refl is

-- a put that ended
pub made-put : {T : Type 0} (name : List ℕ) (made : Isolation) (before after : List MemFile) (r : Result T DepotErr) (d : T) → r ≡ Ok d → Puts name made.file before after r → PutsMade name made before after (Ok made.group)
made-put name made before after r d is puts = (refl, subst (Puts name made.file before after) is puts)

pub made-unput : {T : Type 0} (name : List ℕ) (made : Isolation) (before after : List MemFile) (r : Result T DepotErr) (e : DepotErr) → r ≡ Err e → Puts name made.file before after r
    → PutsMade name made before after (Err DepotFault) × PutsMade name made before after (Err NoMemory)
made-unput name made before after r e is puts = let left = subst (Puts name made.file before after) is puts in (left, left)

module _ (p : Project) (found : List Duplicate) (folder : List ℕ) where
  -- where the made file was put
  isolated : (file : List ℕ) (made : Isolation) → IsIsolation p found file made → (before after : List MemFile) → ProjectOf before folder p → file_at (project_path folder) before ≡ Some file
      → IsPut (project_path folder) made.file before after → IsIsolatedFolder p found folder before after made.group
  isolated file made is before after read there put = record { named = is.named; stands = is.stands before after folder read there put; others = put.1 }

  pub made-leaves : (name file : List ℕ) (made : Isolation) → IsIsolation p found file made → (before after : List MemFile) (result : Result (List ℕ) IsolateErr) → PutsMade name made before after result
      → name ≡ project_path folder → ProjectOf before folder p → file_at name before ≡ Some file → Leaves p found folder before after result
  made-leaves name file made is before after result puts named read there = by_result result puts
    where
      at : file_at (project_path folder) before ≡ Some file
      at = subst (λ (n : List ℕ). file_at n before ≡ Some file) named there

      moved : IsPut name made.file before after → IsPut (project_path folder) made.file before after
      moved put = subst (λ (n : List ℕ). IsPut n made.file before after) named put

      either : IsPut name made.file before after ⊎ SameFiles before after → IsOldOrIsolated p found folder before after
      either (inl put) = inr (made.group, isolated file made is before after read at (moved put))
      either (inr same) = inl same

      by_result : (r : Result (List ℕ) IsolateErr) → PutsMade name made before after r → Leaves p found folder before after r
      by_result (Ok group) (same, put) = subst (IsIsolatedFolder p found folder before after) (sym same) (isolated file made is before after read at (moved put))
      by_result (Err (TooLarge which n)) puts = absurd puts
      by_result (Err Broken) puts = absurd puts
      by_result (Err DepotFault) puts = either puts
      by_result (Err NoMemory) puts = either puts

  -- where nothing was made
  pub refused-leaves : (file : List ℕ) (e : IsolateErr) (before : List MemFile) → Isolates p found file (Err e) → ProjectOf before folder p → file_at (project_path folder) before ≡ Some file → Leaves p found folder before before (Err e)
  refused-leaves file (TooLarge which n) before passes read there = (passes, λ other. refl)
  refused-leaves file Broken before none read there = none before folder read there
  refused-leaves file DepotFault before none read there = absurd none
  refused-leaves file NoMemory before none read there = inl (λ other. refl)

  -- where the file wasn't read
  pub unread-leaves : (name : List ℕ) (e : IsolateErr) (before : List MemFile) → name ≡ project_path folder → IsUnread name before e → ProjectOf before folder p → Leaves p found folder before before (Err e)
  unread-leaves name (TooLarge which n) before named unread read = absurd unread
  unread-leaves name Broken before named unread read =
      let none : file_at (project_path folder) before ≡ None = subst (λ (n : List ℕ). file_at n before ≡ None) named unread in
      let bad : Err NoProject ≡ Ok p = sym (folder-none before folder none) ∙ read in
      absurd (cc bad)
  unread-leaves name DepotFault before named unread read = inl (λ other. refl)
  unread-leaves name NoMemory before named unread read = inl (λ other. refl)
