-- What a content state says of a bundle, after its row.
use Rattle.std.specs.Prelude.{ℕ, ◌≡◌, ◌↔◌, Bool, true, false, List, Some, slice_get, slice_index_or}
use Rattle.addr_base.specs.declared.ids.Guid.{Guid}
use Rattle.addr_layout.specs.Members.{HasEntry, Member}
use Rattle.addr_locate.specs.declared.rows.BundleRow.{BundleRow}
use Rattle.addr_pack.specs.declared.bundles.Plan.{Plan}
use Rattle.addr_pack.specs.declared.bundles.PlanBundle.{PlanBundle}
use Rattle.addr_project.specs.declared.model.Entry.{Entry}
use Rattle.addr_project.specs.declared.model.Group.{Group}
use Rattle.addr_project.specs.Model.{Project}
use Rattle.addr_project.specs.Reach.{guid_cmp}
use Rattle.addr_state.specs.Files.{side_file}
use Rattle.addr_state.specs.declared.model.StateBundle.{StateBundle}
use Rattle.addr_walks.specs.Places.{EachAt}
use Rattle.addr_walks.specs.Walks.{IsListOf}
use Rattle.addr_images.specs.within.Told.{asset_at}

abbrev pub guid_at : Project → ℕ → Guid
guid_at p n = (asset_at p n).guid

abbrev pub is_marked : List Bool → ℕ → Bool
is_marked marks n = slice_index_or marks n false

-- marked are the assets of entries
pub record AreEntryMarks (p : Project) (marks : List Bool) : Type 0 where
  pub marked : (n : ℕ) → (is_marked marks n ≡ true) ↔ ((x : ℕ) × (e : Entry) × (slice_get p.entries x ≡ Some e) × (e.asset ≡ n))

-- what is said of bundle b: its texts, the numbers of its row, and the GUIDs of its entries and members
pub record IsStated (p : Project) (plan : Plan) (b : ℕ) (row : BundleRow) (s : StateBundle) : Type 0 where
  pub bundle : PlanBundle
  pub at : slice_get plan.bundles b ≡ Some bundle
  pub group : Group
  pub group_at : slice_get p.groups bundle.group ≡ Some group
  pub name : s.name ≡ bundle.name
  pub file : s.file ≡ side_file group.remote bundle.name row.digest
  pub id : s.id ≡ row.id
  pub group_name : s.group ≡ group.name
  pub digest : s.digest ≡ row.digest
  pub size : s.size ≡ row.size
  pub entries : IsListOf guid_cmp (HasEntry p plan b) s.entries
  pub objects : IsListOf guid_cmp (Member p plan b) s.objects

-- the same without the lists, which are these
pub record HasTexts (p : Project) (bundle : PlanBundle) (row : BundleRow) (entries objects : List Guid) (s : StateBundle) : Type 0 where
  pub group : Group
  pub group_at : slice_get p.groups bundle.group ≡ Some group
  pub name : s.name ≡ bundle.name
  pub file : s.file ≡ side_file group.remote bundle.name row.digest
  pub id : s.id ≡ row.id
  pub group_name : s.group ≡ group.name
  pub digest : s.digest ≡ row.digest
  pub size : s.size ≡ row.size
  pub entries_are : s.entries ≡ entries
  pub objects_are : s.objects ≡ objects

-- the GUIDs of a bundle's entries, and of its members, ascending
abbrev pub AreEntryGuids : Project → Plan → ℕ → List Guid → Type 0
AreEntryGuids p plan b guids = IsListOf guid_cmp (HasEntry p plan b) guids

abbrev pub AreMemberGuids : Project → Plan → ℕ → List Guid → Type 0
AreMemberGuids p plan b guids = IsListOf guid_cmp (Member p plan b) guids

-- what is said of bundle b, which has the row at its place
abbrev pub AreStated : Project → Plan → List BundleRow → List StateBundle → Type 0
AreStated p plan rows stated = EachAt (λ b s. (row : BundleRow) × (slice_get rows b ≡ Some row) × IsStated p plan b row s) stated
