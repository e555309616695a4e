-- A project in which nothing is copied twice: it has one group more, in which each duplicate is an entry.
use Rattle.std.specs.Prelude.{ℕ, zero, suc, ◌≡◌, ◌≢◌, ◌+◌, ◌<◌, ◌⊎◌, ◌↔◌, ◌++◌, List, [], ◌∷◌, codes, decimal, false, length, map, Some}
use Rattle.std.specs.List.{Contains, slice_get}
use Rattle.addr_base.specs.Ids.{hex_of}
use Rattle.addr_base.specs.declared.ids.Guid.{Guid}
use Rattle.addr_layout.specs.Members.{IsEntry, Member}
use Rattle.addr_pack.specs.declared.bundles.Plan.{Plan}
use Rattle.addr_pack.specs.Placement.{IsPlaced}
use Rattle.addr_project.specs.declared.model.Asset.{Asset}
use Rattle.addr_project.specs.declared.model.Entry.{Entry}
use Rattle.addr_project.specs.declared.model.Group.{Group}
use Rattle.addr_project.specs.declared.model.Mode.TheVariants.{Together}
use Rattle.addr_project.specs.Faults.{names_of}
use Rattle.addr_project.specs.Model.{Project}
use Rattle.addr_project.specs.Reach.{Reach, Row, Shown}
use Rattle.addr_analyze.specs.declared.duplicate.Duplicate.{Duplicate}

-- `Duplicate Assets`, `Duplicate Assets 2`, `Duplicate Assets 3` and so on
abbrev pub numbered_name : ℕ → List ℕ
numbered_name zero = codes "Duplicate Assets"
numbered_name (suc n) = codes "Duplicate Assets " ++ decimal (n + 2)

-- the first of these that no group has
pub record IsFreeName (groups : List Group) (name : List ℕ) : Type 0 where
  pub number : ℕ
  pub is : name ≡ numbered_name number
  pub free : ¬ Contains (names_of groups) name
  pub first : (n : ℕ) → n < number → Contains (names_of groups) (numbered_name n)

-- packed together, local and not fixed
abbrev pub group_named : List ℕ → Group
group_named name = record { name = name; mode = Together; fixed = false; remote = false }

-- an entry of the group with a number, with the digits of its GUID as address and no label
abbrev pub entry_in : ℕ → Duplicate → Entry
entry_in group d = record { asset = d.asset; group = group; address = hex_of d.guid.0; labels = [] }

-- the project with one group more, and in it an entry for each duplicate; all else is as it was
abbrev pub isolated_in : Project → List ℕ → List Duplicate → Project
isolated_in p name found = record {
  version = p.version;
  local = p.local;
  remote = p.remote;
  variables = p.variables;
  groups = p.groups ++ group_named name ∷ [];
  assets = p.assets;
  entries = p.entries ++ map (entry_in (length p.groups)) found;
}

-- where there are duplicates it is that, with the first free name, and else it is the same project
abbrev pub IsIsolated : Project → List Duplicate → Project → Type 0
IsIsolated p found q = ((found ≡ []) × (q ≡ p)) ⊎ ((found ≢ []) × (name : List ℕ) × IsFreeName p.groups name × (q ≡ isolated_in p name found))

-- in its placement no asset that is no entry is a member of two bundles
abbrev pub NoneCopied : Project → Type 0
NoneCopied q = (plan : Plan) → IsPlaced q plan → (g : Guid) → ¬ IsEntry q g → (b c : ℕ) → Member q plan b g → Member q plan c g → b ≡ c

-- a text is the digits of a duplicate
abbrev pub IsDigitsOf : List Duplicate → List ℕ → Type 0
IsDigitsOf found key = (d : Duplicate) × Contains found d × (key ≡ hex_of d.guid.0)

-- every other text shows the same
abbrev pub ShowsSame : Project → List Duplicate → Project → Type 0
ShowsSame p found q = (key : List ℕ) → ¬ IsDigitsOf found key → (shown : List Row) → Shown q key shown ↔ Shown p key shown

-- a duplicate's own row: its GUID and type, and all that it reaches
abbrev pub IsOwnRow : Project → Duplicate → Row → Type 0
IsOwnRow p d row = (asset : Asset) × (slice_get p.assets d.asset ≡ Some asset) × (row.guid ≡ asset.guid) × (row.kind ≡ asset.kind) × Reach p asset.guid row.items

-- the digits of a duplicate show what they did, and then its own row
abbrev pub ShowsOwn : Project → List Duplicate → Project → Type 0
ShowsOwn p found q = (d : Duplicate) → Contains found d → (shown : List Row)
    → Shown q (hex_of d.guid.0) shown ↔ ((before : List Row) × (own : Row) × Shown p (hex_of d.guid.0) before × IsOwnRow p d own × (shown ≡ before ++ own ∷ []))
