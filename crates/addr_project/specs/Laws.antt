-- Laws: files and a folder stand for one project or break one test first, and never both; an entry's keys; and under each key a
-- project shows one list of rows.
use Rattle.std.specs.Prelude.{ℕ, ◌≡◌, ◌⊎◌, ◌↔◌, List, Some, true}
use Rattle.std.specs.List.{Contains}
use Rattle.addr_base.specs.Ids.{hex_of}
use Rattle.addr_base.specs.declared.files.MemFile.{MemFile}
use Rattle.addr_project.specs.declared.error.ProjectErr.{ProjectErr}
use Rattle.addr_project.specs.declared.error.ProjectErr.TheVariants.{NoMemory, DepotFault}
use Rattle.addr_walks.specs.Once.{AreOnce}
use Rattle.addr_project.specs.declared.model.Asset.{Asset}
use Rattle.addr_project.specs.declared.model.Entry.{Entry}
use Rattle.addr_project.specs.Model.{Project}
use Rattle.addr_project.specs.Reach.{Row, Shown, entry_keys, has_key}
use Rattle.addr_project.specs.Reading.{ProjectOf, ProjectFault}

-- there is a project or a fault, but not both, and one at most of each; and no fault is want of memory or one of the depot
pub record HasOneAnswer (files : List MemFile) (folder : List ℕ) : Type 0 where
  pub some : ((p : Project) × ProjectOf files folder p) ⊎ ((fault : ProjectErr) × ProjectFault files folder fault)
  pub never_both : (p : Project) (fault : ProjectErr) → ProjectOf files folder p → ProjectFault files folder fault → ⊥
  pub one_project : (p q : Project) → ProjectOf files folder p → ProjectOf files folder q → p ≡ q
  pub one_fault : (e f : ProjectErr) → ProjectFault files folder e → ProjectFault files folder f → e ≡ f
  pub never_memory : ProjectFault files folder NoMemory → ⊥
  pub never_depot : ProjectFault files folder DepotFault → ⊥

-- an entry's keys are its address, its asset's digits and its labels; none stands twice; a key leads to the entry where it is
-- one of them
pub record HasKeys (e : Entry) (asset : Asset) : Type 0 where
  pub all : (key : List ℕ) → Contains (entry_keys e asset) key ↔ ((key ≡ e.address) ⊎ ((key ≡ hex_of asset.guid.0) ⊎ Contains e.labels key))
  pub once : AreOnce (entry_keys e asset)
  pub leads : (key : List ℕ) → (has_key key e (Some asset) ≡ true) ↔ Contains (entry_keys e asset) key

-- there is a list of rows that the project shows under the key, and one at most
pub record ShowsOnce (p : Project) (key : List ℕ) : Type 0 where
  pub some : (shown : List Row) × Shown p key shown
  pub one : (shown other : List Row) → Shown p key shown → Shown p key other → shown ≡ other
