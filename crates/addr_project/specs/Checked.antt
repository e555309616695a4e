-- What a checked project file stands for before the files of its assets are read.
use Rattle.std.specs.Prelude.{◌≡◌, List, map, Ok}
use Rattle.addr_project.specs.declared.model.Entry.{Entry}
use Rattle.addr_project.specs.declared.parts.Texts.{Texts}
use Rattle.addr_project.specs.declared.parts.Checked.{Checked}
use Rattle.addr_project.specs.declared.parts.Parts.{Parts}
use Rattle.addr_project.specs.declared.rows.ProjectFile.{ProjectFile}
use Rattle.addr_expansion.specs.Expansion.{expanded}
use Rattle.addr_project.specs.Faults.{guids_of, names_of}
use Rattle.addr_project.specs.Reading.{entry_from}

-- a file's entries with numbers in place of GUIDs and names
abbrev pub entries_of : ProjectFile → List Entry
entries_of f = map (entry_from (guids_of f.assets) (names_of f.groups)) f.entries

-- the two expanded texts of a file
abbrev pub AreTexts : ProjectFile → Texts → Type 0
AreTexts f texts = (expanded f.variables f.local ≡ Ok texts.local) × (expanded f.variables f.remote ≡ Ok texts.remote)

-- what is found out of a file: its expanded texts, and its entries by numbers
pub record IsChecked (f : ProjectFile) (checked : Checked) : Type 0 where
  pub local : expanded f.variables f.local ≡ Ok checked.local
  pub remote : expanded f.variables f.remote ≡ Ok checked.remote
  pub entries : checked.entries ≡ entries_of f

-- a file's project but for the bytes of its assets
pub record IsParts (f : ProjectFile) (parts : Parts) : Type 0 where
  pub version : parts.version ≡ f.version
  pub local : expanded f.variables f.local ≡ Ok parts.local
  pub remote : expanded f.variables f.remote ≡ Ok parts.remote
  pub variables : parts.variables ≡ f.variables
  pub groups : parts.groups ≡ f.groups
  pub assets : parts.assets ≡ f.assets
  pub entries : parts.entries ≡ entries_of f
