-- What an update of a folder compares, as it was read, and what becomes of each entry.
use Rattle.std.specs.Prelude.{ℕ, List, Result, Ok, Err}
use Rattle.addr_base.specs.declared.files.MemFile.{MemFile}
use Rattle.addr_held.specs.Opening.{HoldsRelease, was_of}
use Rattle.addr_moves.specs.Fates.{comparing}
use Rattle.addr_project.specs.Reading.{ProjectOf}
use Rattle.addr_update.specs.Moved.{Update}
use Rattle.addr_update.specs.declared.model.Move.{Move}
use Rattle.addr_check.specs.Checking.{Checks}
use Rattle.addr_check.specs.declared.checking.Compared.{Compared}
use Rattle.addr_check.specs.declared.error.CheckErr.{CheckErr}

-- the update that what was read stands for
abbrev pub update_of : Compared → Update
update_of c = comparing c.release.state (was_of c.release) c.release.catalogue.locator c.project c.now

-- the folder stands for the project, and holds the release
pub record IsComparedAs (files : List MemFile) (folder : List ℕ) (c : Compared) : Type 0 where
  pub project : ProjectOf files folder c.project
  pub held : HoldsRelease files folder c.release

-- a refusal of checking
abbrev pub refusal : CheckErr → Result (List Move) CheckErr
refusal e = Err e

-- what comparing a folder answers: what was read, or the refusal that checking gives
abbrev pub Compares : List MemFile → List ℕ → Result Compared CheckErr → Type 0
Compares files folder (Ok c) = IsComparedAs files folder c
Compares files folder (Err e) = Checks files folder (refusal e)
