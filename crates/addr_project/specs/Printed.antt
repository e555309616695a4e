-- What commands print of a project that is refused: the fault's number, its table or limit, and its row or count.
use Rattle.std.specs.Prelude.{ℕ, List, ◌∷◌, ◌++◌, codes, decimal}
use Rattle.addr_project.specs.declared.error.ProjectErr.{ProjectErr}
use Rattle.addr_project.specs.declared.error.ProjectErr.TheVariants.{NoProject, BadToml, BadField, OverLimit, DuplicateGuid, DuplicateGroup, ReservedGroup, UnknownGroup, UnknownRef, BadVariable, VariableCycle, MissingFile, DepotFault, NoMemory}
use Rattle.addr_project.specs.declared.limit.Limit.{Limit}
use Rattle.addr_project.specs.declared.limit.Limit.TheVariants as limit
use Rattle.addr_project.specs.declared.limit.Part.{Part}
use Rattle.addr_project.specs.declared.limit.Part.TheVariants as part

-- want of memory is no fault of the project, so it has none of the numbers
abbrev pub fault_number : ProjectErr → ℕ
fault_number NoMemory = 0
fault_number NoProject = 1
fault_number BadToml = 2
fault_number (BadField table row) = 3
fault_number (DuplicateGuid table row) = 4
fault_number (DuplicateGroup row) = 5
fault_number (UnknownGroup row) = 6
fault_number (UnknownRef table row) = 7
fault_number (MissingFile row) = 8
fault_number (BadVariable table row) = 9
fault_number (VariableCycle row) = 10
fault_number (OverLimit which count) = 11
fault_number (ReservedGroup row) = 12
fault_number DepotFault = 13

-- the word of a table
abbrev pub part_text : Part → List ℕ
part_text part.Project = codes "project"
part_text part.Profile = codes "profile"
part_text part.Variable = codes "variable"
part_text part.Group = codes "group"
part_text part.Asset = codes "asset"
part_text part.Entry = codes "entry"

-- the word of a limit
abbrev pub limit_text : Limit → List ℕ
limit_text limit.Variables = codes "variables"
limit_text limit.Groups = codes "groups"
limit_text limit.Assets = codes "assets"
limit_text limit.Entries = codes "entries"
limit_text limit.Labels = codes "labels"
limit_text limit.Refs = codes "refs"
limit_text limit.AllRefs = codes "all-refs"
limit_text limit.Expanded = codes "expanded"
limit_text limit.AssetBytes = codes "asset-bytes"
limit_text limit.AllBytes = codes "all-bytes"
limit_text limit.BundleName = codes "bundle-name"
limit_text limit.Members = codes "members"
limit_text limit.Deps = codes "deps"
limit_text limit.BundleBytes = codes "bundle-bytes"

-- the table of the fault, or the limit that is passed
abbrev pub fault_place : ProjectErr → List ℕ
fault_place (BadField table row) = part_text table
fault_place (OverLimit which count) = limit_text which
fault_place (DuplicateGuid table row) = part_text table
fault_place (DuplicateGroup row) = part_text part.Group
fault_place (ReservedGroup row) = part_text part.Group
fault_place (UnknownGroup row) = part_text part.Entry
fault_place (UnknownRef table row) = part_text table
fault_place (BadVariable table row) = part_text table
fault_place (VariableCycle row) = part_text part.Variable
fault_place (MissingFile row) = part_text part.Asset
fault_place NoProject = codes "-"
fault_place BadToml = codes "-"
fault_place DepotFault = codes "-"
fault_place NoMemory = codes "-"

-- the row of the fault, or the count that passes a limit
abbrev pub fault_row : ProjectErr → ℕ
fault_row (BadField table row) = row
fault_row (OverLimit which count) = count
fault_row (DuplicateGuid table row) = row
fault_row (DuplicateGroup row) = row
fault_row (ReservedGroup row) = row
fault_row (UnknownGroup row) = row
fault_row (UnknownRef table row) = row
fault_row (BadVariable table row) = row
fault_row (VariableCycle row) = row
fault_row (MissingFile row) = row
fault_row NoProject = 0
fault_row BadToml = 0
fault_row DepotFault = 0
fault_row NoMemory = 0

-- three words with a space between them
unfoldable pub fault_text : ProjectErr → List ℕ
fault_text e = decimal (fault_number e) ++ 32 ∷ (fault_place e ++ 32 ∷ decimal (fault_row e))
