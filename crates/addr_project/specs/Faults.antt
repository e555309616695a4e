-- The tests that a project file is put to, in their order, each over whole tables: the fault is that of the first row of
-- the first test that finds any.
use Rattle.std.specs.Prelude.{codes, ℕ, ◌-◌, ◌^◌, ◌||◌, not, nat_lt, min, List, [], ◌∷◌, length, map, Bool, if◌then◌else◌, Option, Some, None, is_none, Result, Err}
use Rattle.std.specs.List.{list_any, position, sum_by}
use Rattle.std.specs.Option.{option_map, option_or}
use Rattle.std.specs.Str.{bytes_eq}
use Rattle.toml.specs.Data.{Data, Members}
use Rattle.addr_base.specs.declared.ids.Guid.{Guid}
use Rattle.addr_base.specs.declared.var.Var.{Var}
use Rattle.addr_project.specs.declared.error.ProjectErr.{ProjectErr}
use Rattle.addr_project.specs.declared.error.ProjectErr.TheVariants.{BadField, OverLimit, DuplicateGuid, DuplicateGroup, ReservedGroup, UnknownGroup, UnknownRef, BadVariable, VariableCycle}
use Rattle.addr_expansion.specs.declared.error.ExpandErr.{ExpandErr}
use Rattle.addr_expansion.specs.declared.error.ExpandErr.TheVariants as expanding
use Rattle.addr_project.specs.declared.limit.Limit.{Limit}
use Rattle.addr_project.specs.declared.limit.Limit.TheVariants as limit
use Rattle.addr_project.specs.declared.limit.Part.{Part}
use Rattle.addr_project.specs.declared.limit.Part.TheVariants as part
use Rattle.addr_project.specs.declared.model.Group.{Group}
use Rattle.addr_project.specs.declared.rows.AssetRow.{AssetRow}
use Rattle.addr_project.specs.declared.rows.EntryRow.{EntryRow}
use Rattle.addr_project.specs.declared.rows.ProjectFile.{ProjectFile}
use Rattle.addr_expansion.specs.Expansion.{expanded}
use Rattle.addr_expansion.specs.Replies.{is_bad, is_circular, replies}
use Rattle.addr_project_rows.specs.Fields.{first_bad}
use Rattle.addr_project_rows.specs.Firsts.{first_some, first_of, first_where, first_repeat, is_among}
use Rattle.addr_project_rows.specs.Variables.{is_bad_variable}
use Rattle.addr_project.specs.Limits.{most}
use Rattle.addr_project.specs.Rows.{group_of, asset_of, entry_of, version_of, profile_of, profile_text, profile, rows_at, rows, file_of}

-- 1. Fields

-- a bad field of a table's only row, where it stands for nothing
abbrev pub unless_some : {A : Type 0} → Part → Option A → Option ProjectErr
unless_some part value = if is_none value then Some (BadField part 0) else None

-- the first bad row of a table
abbrev pub bad_row : {A : Type 0} → Part → (Data → Option A) → List Data → Option ProjectErr
bad_row part read ds = option_map (BadField part) (first_bad read ds)

-- the first bad variable
abbrev pub bad_variable : List Data → Option ProjectErr
bad_variable ds = option_map (BadField part.Variable) (first_where is_bad_variable ds)

-- the first bad member of the top or of the profile
unfoldable pub head_fault : Members → Option ProjectErr
head_fault tree = first_some (
    unless_some part.Project (version_of tree)
    ∷ unless_some part.Project (profile_of tree)
    ∷ unless_some part.Project (rows_at (codes "variable") tree)
    ∷ unless_some part.Project (rows_at (codes "group") tree)
    ∷ unless_some part.Project (rows_at (codes "asset") tree)
    ∷ unless_some part.Project (rows_at (codes "entry") tree)
    ∷ unless_some part.Profile (profile_text (codes "local") (profile tree))
    ∷ unless_some part.Profile (profile_text (codes "remote") (profile tree))
    ∷ [])

-- the first bad row, table by table
unfoldable pub row_fault : Members → Option ProjectErr
row_fault tree = first_some (
    bad_variable (rows (codes "variable") tree)
    ∷ bad_row part.Group group_of (rows (codes "group") tree)
    ∷ bad_row part.Asset asset_of (rows (codes "asset") tree)
    ∷ bad_row part.Entry entry_of (rows (codes "entry") tree)
    ∷ [])

-- the first bad field
abbrev pub field_fault : Members → Option ProjectErr
field_fault tree = option_or (head_fault tree) (row_fault tree)

-- 2. Limits

-- a count is above a number
abbrev pub over : Limit → ℕ → ℕ → Option ProjectErr
over which top count = if nat_lt top count then Some (OverLimit which count) else None

-- a count is above its limit
abbrev pub passes : Limit → ℕ → Option ProjectErr
passes which count = over which (most which) count

-- an entry has too many labels
abbrev pub over_labels : List (List ℕ) → Option ProjectErr
over_labels labels = passes limit.Labels (length labels)

-- an asset has too many references
abbrev pub over_refs : List Guid → Option ProjectErr
over_refs refs = passes limit.Refs (length refs)

-- the references of all assets; the count stands still at the end of a u64
abbrev pub total_refs : List (List Guid) → ℕ
total_refs refs = min (sum_by (λ gs. length gs) refs) (2 ^ 64 - 1)

-- the first count that is above its limit, given the variables, the groups, each asset's references and each entry's labels
unfoldable pub count_fault : List Var → List Group → List (List Guid) → List (List (List ℕ)) → Option ProjectErr
count_fault variables groups refs labels = first_some (
    passes limit.Variables (length variables)
    ∷ passes limit.Groups (length groups)
    ∷ passes limit.Assets (length refs)
    ∷ passes limit.Entries (length labels)
    ∷ first_of over_labels labels
    ∷ first_of over_refs refs
    ∷ passes limit.AllRefs (total_refs refs)
    ∷ [])

-- 3. Names

-- the GUIDs of rows of assets
abbrev pub guids_of : List AssetRow → List (List ℕ)
guids_of assets = map (λ a. a.guid.0) assets

-- the GUIDs of the assets that rows of entries are for
abbrev pub entry_guids : List EntryRow → List (List ℕ)
entry_guids entries = map (λ e. e.guid.0) entries

-- the names of groups
abbrev pub names_of : List Group → List (List ℕ)
names_of groups = map (λ g. g.name) groups

-- the name that updates take for the entries that they move
abbrev pub is_reserved : Group → Bool
is_reserved g = bytes_eq g.name (codes "Content Update")

-- an entry's group is none of those names
abbrev pub lacks_group : List (List ℕ) → EntryRow → Bool
lacks_group names e = not (is_among names e.group)

-- some reference is none of those GUIDs
abbrev pub lacks_ref : List (List ℕ) → List Guid → Bool
lacks_ref guids refs = list_any (λ g. not (is_among guids g.0)) refs

-- an entry's asset is none of those GUIDs
abbrev pub lacks_asset : List (List ℕ) → EntryRow → Bool
lacks_asset guids e = not (is_among guids e.guid.0)

-- the first repeated GUID, repeated group or reserved group
unfoldable pub key_fault : List Group → List AssetRow → List EntryRow → Option ProjectErr
key_fault groups assets entries = first_some (
    option_map (DuplicateGuid part.Asset) (first_repeat (guids_of assets))
    ∷ option_map (DuplicateGuid part.Entry) (first_repeat (entry_guids entries))
    ∷ option_map DuplicateGroup (first_repeat (names_of groups))
    ∷ option_map ReservedGroup (position is_reserved groups)
    ∷ [])

-- the first group or GUID that is none of those names or GUIDs
unfoldable pub link_fault : List (List ℕ) → List (List ℕ) → List AssetRow → List EntryRow → Option ProjectErr
link_fault names guids assets entries = first_some (
    option_map UnknownGroup (position (lacks_group names) entries)
    ∷ option_map (UnknownRef part.Asset) (position (λ a. lacks_ref guids a.refs) assets)
    ∷ option_map (UnknownRef part.Entry) (position (lacks_asset guids) entries)
    ∷ [])

-- the first fault of a file's GUIDs and names
abbrev pub name_fault : List Group → List AssetRow → List EntryRow → Option ProjectErr
name_fault groups assets entries = option_or (key_fault groups assets entries) (link_fault (names_of groups) (guids_of assets) assets entries)

-- 4. Expansion

-- the expanded text is too long
abbrev pub too_long : Result (List ℕ) ExpandErr → Option ProjectErr
too_long (Err (expanding.TooLong n)) = Some (OverLimit limit.Expanded n)
too_long _ = None

-- the first text, of the profile's two and the variables' values, that leads to a bad name, to a name that leads to itself, or
-- to too much; a text of the profile that leads to a name that leads to itself leads to a variable whose value does, so the
-- values' test is enough
unfoldable pub text_fault : Result (List ℕ) ExpandErr → Result (List ℕ) ExpandErr → List (Result (List ℕ) ExpandErr) → Option ProjectErr
text_fault local remote values = first_some (
    (if is_bad local || is_bad remote then Some (BadVariable part.Profile 0) else None)
    ∷ option_map (BadVariable part.Variable) (position is_bad values)
    ∷ option_map VariableCycle (position is_circular values)
    ∷ too_long local
    ∷ too_long remote
    ∷ first_of too_long values
    ∷ [])

-- the first text of a file that can't be expanded
abbrev pub texts_fault : ProjectFile → Option ProjectErr
texts_fault f = text_fault (expanded f.variables f.local) (expanded f.variables f.remote) (replies f.variables)

-- the first fault of a file whose fields are all good
unfoldable pub file_fault : ProjectFile → Option ProjectErr
file_fault f = first_some (
    count_fault f.variables f.groups (map (λ a. a.refs) f.assets) (map (λ e. e.labels) f.entries)
    ∷ name_fault f.groups f.assets f.entries
    ∷ texts_fault f
    ∷ [])

-- the first fault of a project file
unfoldable pub tree_fault : Members → Option ProjectErr
tree_fault tree = option_or (field_fault tree) (file_fault (file_of tree))
