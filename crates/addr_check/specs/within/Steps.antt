-- The two steps of comparing: reading a folder, and deciding over what was read.
use Rattle.std.specs.Prelude.{ℕ, ◌≡◌, List, Result, Ok, Err}
use Rattle.addr_base.specs.declared.files.MemFile.{MemFile}
use Rattle.addr_catalog.specs.declared.catalogue.Catalogue.{Catalogue}
use Rattle.addr_held.specs.Opening.{HasBadCatalogue, HoldsRelease, IsWrong, LacksFile}
use Rattle.addr_held.specs.declared.release.Release.{Release}
use Rattle.addr_pack.specs.LongNames.{IsFirstLong}
use Rattle.addr_project.specs.Model.{Project as Contents}
use Rattle.addr_project.specs.Reading.{ProjectFault, ProjectOf}
use Rattle.addr_project.specs.declared.limit.Limit.TheVariants as limit
use Rattle.addr_resolve.specs.Resolving.{HasCatalogue}
use Rattle.addr_check.specs.declared.checking.Compared.{Compared}
use Rattle.addr_check.specs.declared.error.CheckErr.{CheckErr}
use Rattle.addr_check.specs.declared.error.CheckErr.TheVariants.{Project, NoRelease, BadCatalogue, BadRelease, TooLarge, DepotFault, NoMemory}

-- what reading the project and the release of a folder answers
abbrev pub ReadsBoth : {T : Type 0} → (T → Contents) → (T → Release) → List MemFile → List ℕ → Result T CheckErr → Type 0
ReadsBoth project release files folder (Ok read) = ProjectOf files folder (project read) × HoldsRelease files folder (release read)
ReadsBoth project release files folder (Err (Project fault)) = ProjectFault files folder fault
ReadsBoth project release files folder (Err (NoRelease name)) = (p : Contents) × ProjectOf files folder p × LacksFile files folder name
ReadsBoth project release files folder (Err (BadCatalogue fault)) = (p : Contents) × ProjectOf files folder p × HasBadCatalogue files folder fault
ReadsBoth project release files folder (Err (BadRelease name why)) = (p : Contents) × ProjectOf files folder p
    × (c : Catalogue) × HasCatalogue files folder c × IsWrong files folder c.state name why
ReadsBoth project release files folder (Err (TooLarge which size)) = ⊥
ReadsBoth project release files folder (Err DepotFault) = Unit {0}
ReadsBoth project release files folder (Err NoMemory) = Unit {0}

-- what is compared is of this project and this release
abbrev pub IsOf : Contents → Release → Compared → Type 0
IsOf p r c = (c.project ≡ p) × (c.release ≡ r)

-- why nothing is compared
abbrev pub RefusesComparing : Contents → CheckErr → Type 0
RefusesComparing p (Project fault) = ⊥
RefusesComparing p (NoRelease name) = ⊥
RefusesComparing p (BadCatalogue fault) = ⊥
RefusesComparing p (BadRelease name why) = ⊥
RefusesComparing p (TooLarge which size) = (which ≡ limit.BundleName) × (x : ℕ) × IsFirstLong p x size
RefusesComparing p DepotFault = ⊥
RefusesComparing p NoMemory = Unit {0}
