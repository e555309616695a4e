-- What every value of the type `Project` keeps, so that no later crate tests it again.
use Rattle.std.specs.Prelude.{ℕ, ◌≡◌, ◌<◌, ◌≤◌, List, map, length, None, Ok, true, false}
use Rattle.std.specs.List.{AllByRecursion, Contains, sum_by}
use Rattle.std.specs.List.Sorted.{IsStrictlySortedBy}
use Rattle.std.specs.Ordering.{nat_cmp}
use Rattle.std.specs.Cmp.Lexicographic.{slice_cmp}
use Rattle.addr_base.specs.Ids.{Are16Bytes}
use Rattle.addr_base.specs.declared.ids.Guid.{Guid}
use Rattle.addr_base.specs.declared.var.Var.{Var}
use Rattle.addr_walks.specs.Once.{AreOnce}
use Rattle.addr_expansion.specs.Replies.{replies}
use Rattle.addr_project_rows.specs.Fields.{is_version, most_name, most_text}
use Rattle.addr_project.specs.declared.limit.Limit.TheVariants as limit
use Rattle.addr_project.specs.declared.model.Asset.{Asset}
use Rattle.addr_project.specs.declared.model.Entry.{Entry}
use Rattle.addr_project.specs.Faults.{names_of, is_reserved, count_fault, text_fault}
use Rattle.addr_project.specs.Limits.{most}
use Rattle.addr_project.specs.Model.{Project}
use Rattle.addr_project.specs.Reading.{size_fault}

-- the GUIDs of some assets
abbrev pub asset_guids : List Asset → List (List ℕ)
asset_guids assets = map (λ a. a.guid.0) assets

-- an entry's numbers are those of an asset and of a group
pub record IsKeptEntry (p : Project) (e : Entry) : Type 0 where
  pub asset : e.asset < length p.assets
  pub group : e.group < length p.groups

-- a text has some bytes, and not too many
pub record IsText (text : List ℕ) : Type 0 where
  pub filled : 0 < length text
  pub short : length text ≤ most_text

-- a variable has a name, and neither its name nor its value is too long
pub record IsKeptVar (v : Var) : Type 0 where
  pub filled : 0 < length v.name
  pub name : length v.name ≤ most_name
  pub value : length v.value ≤ most_text

-- an entry's address and its labels are texts
pub record HasTexts (e : Entry) : Type 0 where
  pub address : IsText e.address
  pub labels : AllByRecursion IsText e.labels

-- how long texts are that are not expanded
pub record KeepsTexts (p : Project) : Type 0 where
  pub version : IsText p.version
  pub variables : AllByRecursion IsKeptVar p.variables
  pub groups : AllByRecursion (λ g. IsText g.name) p.groups
  pub assets : AllByRecursion (λ a. IsText a.kind) p.assets
  pub entries : AllByRecursion HasTexts p.entries

-- how much there is of everything
pub record KeepsBounds (p : Project) : Type 0 where
  pub variables : length p.variables ≤ most limit.Variables
  pub groups : length p.groups ≤ most limit.Groups
  pub assets : length p.assets ≤ most limit.Assets
  pub entries : length p.entries ≤ most limit.Entries
  pub labels : AllByRecursion (λ e. length e.labels ≤ most limit.Labels) p.entries
  pub refs : AllByRecursion (λ a. length a.refs ≤ most limit.Refs) p.assets
  pub all_refs : sum_by (λ a. length a.refs) p.assets ≤ most limit.AllRefs
  pub bytes : AllByRecursion (λ a. length a.bytes ≤ most limit.AssetBytes) p.assets
  pub all_bytes : sum_by (λ a. length a.bytes) p.assets ≤ most limit.AllBytes

-- each number and each reference leads to something, nothing is repeated that has to differ, labels ascend, no group has the
-- reserved name, no limit is passed, the version is one, and no variable's value expands to too much or to nothing
pub record IsKept (p : Project) : Type 0 where
  pub guids : AllByRecursion (λ a. Are16Bytes a.guid.0) p.assets
  pub assets_once : AreOnce (asset_guids p.assets)
  pub refs_named : (a : Asset) (r : Guid) → Contains p.assets a → Contains a.refs r → (b : Asset) × Contains p.assets b × (b.guid ≡ r)
  pub entries : AllByRecursion (IsKeptEntry p) p.entries
  pub entries_once : AreOnce (map (λ e. e.asset) p.entries)
  pub labels : AllByRecursion (λ e. IsStrictlySortedBy (slice_cmp nat_cmp) e.labels) p.entries
  pub groups_once : AreOnce (names_of p.groups)
  pub none_reserved : AllByRecursion (λ g. is_reserved g ≡ false) p.groups
  pub variables_once : AreOnce (map (λ v. v.name) p.variables)
  pub counts : count_fault p.variables p.groups (map (λ a. a.refs) p.assets) (map (λ e. e.labels) p.entries) ≡ None
  pub sizes : size_fault (map (λ a. length a.bytes) p.assets) ≡ None
  pub local : length p.local ≤ most limit.Expanded
  pub remote : length p.remote ≤ most limit.Expanded
  pub values : text_fault (Ok p.local) (Ok p.remote) (replies p.variables) ≡ None
  pub version : is_version p.version ≡ true
  pub texts : KeepsTexts p
  pub bounds : KeepsBounds p
