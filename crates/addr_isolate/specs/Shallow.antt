-- Documents that can be printed and read back: nothing in them is deep, and no date is wrong.
use Rattle.std.specs.Prelude.{codes, ℕ, ◌≡◌, ◌+◌, ◌≤◌, ◌++◌, List, true, false, Option, None, Some, IfSome, option_and_then}
use Rattle.std.specs.List.{AllByRecursion, AllZip}
use Rattle.std.specs.Str.{bytes_eq}
use Rattle.std.specs.Cmp.Lexicographic.{slice_cmp}
use Rattle.std.specs.Ordering.{match_ordering, nat_cmp}
use Rattle.toml.specs.Data.{Data, table, Members, no_members, member, as_table, depth, get_member, has_valid_dates, members_depth, members_have_valid_dates}
use Rattle.addr_project.specs.Rows.{rows}
use Rattle.addr_isolate.specs.Document.{KeepsRow, KeepsTable, asset_names, entry_names, group_names, profile_names, rows_member, variable_names}

-- a value nests at most so deep, and each date in it is one
pub record IsShallow (n : ℕ) (d : Data) : Type 0 where
  pub deep : depth d ≤ n
  pub dates : has_valid_dates d ≡ true

-- each member of a table does
pub record AreShallow (n : ℕ) (ms : Members) : Type 0 where
  pub deep : members_depth ms ≤ n
  pub dates : members_have_valid_dates ms ≡ true

-- each member with one of these names does
abbrev pub AreShallowAt : ℕ → List (List ℕ) → Members → Type 0
AreShallowAt n names ms = AllByRecursion (λ name. IfSome (get_member name ms) (IsShallow n)) names

-- the members with one at its place more, or in place of one with its name
abbrev pub with_member : List ℕ → Data → Members → Members
with_member k d no_members = member k d no_members
with_member k d (member l e ms) = match_ordering (slice_cmp nat_cmp k l) (member k d (member l e ms)) (member l d ms) (member l e (with_member k d ms))

-- the table has one member more, or again, and is as shallow as before where the member is
pub record IsSet (name : List ℕ) (value : Data) (old new : Members) : Type 0 where
  pub here : get_member name new ≡ Some value
  pub elsewhere : (key : List ℕ) → bytes_eq name key ≡ false → get_member key new ≡ get_member key old
  pub shallow : (n : ℕ) → IsShallow n value → AreShallow n old → AreShallow n new

-- the table has one member more where there is one to be had
abbrev pub IsSetIf : List ℕ → Option Data → Members → Members → Type 0
IsSetIf name None old new = new ≡ old
IsSetIf name (Some value) old new = IsSet name value old new

-- in a row that is a table the members with these names are shallow
abbrev pub IsShallowRow : ℕ → List (List ℕ) → Data → Type 0
IsShallowRow n names (table ms) = AreShallowAt n names ms
IsShallowRow n names other = ⊥

-- the table has the rows of another one's array, each with the members of these names alone, and some rows more
pub record SetsRows (names : List (List ℕ)) (key : List ℕ) (old : Members) (added : List Data) (before after : Members) : Type 0 where
  pub kept : List Data
  pub keeps : AllZip (KeepsRow names) (rows key old) kept
  pub set : IsSetIf key (rows_member (kept ++ added)) before after
  pub shallow : (n : ℕ) → AllByRecursion (IsShallowRow n names) (rows key old) → AllByRecursion (IsShallow (n + 1)) added → IfSome (rows_member (kept ++ added)) (IsShallow (n + 2))

-- the table has another one's table, with the members of these names alone
pub record SetsTable (names : List (List ℕ)) (key : List ℕ) (old : Members) (before after : Members) : Type 0 where
  pub value : Option Data
  pub keeps : KeepsTable names (get_member key old) value
  pub set : IsSetIf key value before after
  pub shallow : (n : ℕ) → IfSome (option_and_then as_table (get_member key old)) (AreShallowAt n names) → IfSome value (IsShallow (n + 1))

-- the members that a project file has are shallow: texts, truth values, and lists of texts
pub record IsPlain (tree : Members) : Type 0 where
  pub version : IfSome (get_member (codes "version") tree) (IsShallow 3)
  pub profile : IfSome (option_and_then as_table (get_member (codes "profile") tree)) (AreShallowAt 2 profile_names)
  pub variables : AllByRecursion (IsShallowRow 1 variable_names) (rows (codes "variable") tree)
  pub groups : AllByRecursion (IsShallowRow 1 group_names) (rows (codes "group") tree)
  pub assets : AllByRecursion (IsShallowRow 1 asset_names) (rows (codes "asset") tree)
  pub entries : AllByRecursion (IsShallowRow 1 entry_names) (rows (codes "entry") tree)
