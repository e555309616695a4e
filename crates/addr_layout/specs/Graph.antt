-- A project as rows of ranks: an asset's rank is the place of its GUID in the ascending list of all GUIDs.
use Rattle.std.specs.Prelude.{ℕ, ◌≡◌, ◌≤◌, List, [], map, length, Bool, Option, Some, None, is_none, slice_index_or}
use Rattle.std.specs.List.{AllZip, Contains, filter, slice_get}
use Rattle.std.specs.Ordering.{nat_cmp}
use Rattle.addr_base.specs.declared.ids.Guid.{Guid}
use Rattle.addr_pack.specs.declared.bundles.Plan.{Plan}
use Rattle.addr_pack.specs.declared.bundles.PlanBundle.{PlanBundle}
use Rattle.addr_project.specs.declared.model.Asset.{Asset}
use Rattle.addr_project.specs.Model.{Project}
use Rattle.addr_project.specs.Reach.{guid_cmp}
use Rattle.addr_walks.specs.Places.{EachAt}
use Rattle.addr_walks.specs.Rows.{AreBelow, LedTo}
use Rattle.addr_walks.specs.Walks.{IsListOf}
use Rattle.addr_layout.specs.declared.graph.Graph.{Graph}
use Rattle.addr_layout.specs.declared.model.LayBundle.{LayBundle}
use Rattle.addr_layout.specs.Homes.{home_at, IsNamedIn}
use Rattle.addr_layout.specs.Members.{IsNumbered, IsEntryOf, IsEntry, HasEntry}

-- a project's asset has the GUID
abbrev pub IsGuid : Project → Guid → Type 0
IsGuid p g = (n : ℕ) × IsNumbered p n g

-- the GUIDs of all assets, ascending
pub record AreGuids (p : Project) (guids : List Guid) : Type 0 where
  pub list : IsListOf guid_cmp (IsGuid p) guids
  pub as_many : length guids ≡ length p.assets
  pub few : length guids ≤ 65536

-- something stands beside each GUID, and fits it
pub record AreBeside {X : Type 0} (guids : List Guid) (fits : Guid → X → Type 0) (xs : List X) : Type 0 where
  pub as_many : length xs ≡ length guids
  pub each : (r : ℕ) (g : Guid) (x : X) → slice_get guids r ≡ Some g → slice_get xs r ≡ Some x → fits g x

-- ranks of GUIDs, in the order of these
abbrev pub AreRanks : List Guid → List Guid → List ℕ → Type 0
AreRanks guids refs ranks = AllZip (λ g r. slice_get guids r ≡ Some g) refs ranks

-- the ranks of an asset's references
abbrev pub AreRefRanks : Project → List Guid → Guid → List ℕ → Type 0
AreRefRanks p guids g ranks = (asset : Asset) × Contains p.assets asset × (asset.guid ≡ g) × AreRanks guids asset.refs ranks

-- the rank of an entry's asset
abbrev pub IsEntryRank : Project → List Guid → ℕ → ℕ → Type 0
IsEntryRank p guids x r = (g : Guid) × IsEntryOf p x g × (slice_get guids r ≡ Some g)

-- the ranks of a bundle's entries
abbrev pub AreSeeds : Project → Plan → List Guid → ℕ → List ℕ → Type 0
AreSeeds p plan guids b ranks = (bundle : PlanBundle) × (slice_get plan.bundles b ≡ Some bundle) × AllZip (IsEntryRank p guids) bundle.entries ranks

-- the bundle of an asset's entry, or none where it is no entry
abbrev pub IsBundleOf : Project → Plan → Guid → Option ℕ → Type 0
IsBundleOf p plan g None = ¬ IsEntry p g
IsBundleOf p plan g (Some c) = HasEntry p plan c g

-- no entry's bundle stands at a rank
abbrev pub is_free : List (Option ℕ) → ℕ → Bool
is_free bundles r = is_none (slice_index_or bundles r None)

-- the parts of the graph are those of the project and the placement
pub record IsGraph (p : Project) (plan : Plan) (graph : Graph) : Type 0 where
  pub guids : AreGuids p graph.guids
  pub numbers : AreBeside graph.guids (λ g n. IsNumbered p n g) graph.numbers
  pub refs : AreBeside graph.guids (AreRefRanks p graph.guids) graph.refs
  pub as_many : length graph.seeds ≡ length plan.bundles
  pub seeds : EachAt (AreSeeds p plan graph.guids) graph.seeds
  pub bundles : AreBeside graph.guids (IsBundleOf p plan) graph.bundles
  pub within : graph.within ≡ map (filter (is_free graph.bundles)) graph.refs

-- its lists are as long as they have to be, and its ranks are those of GUIDs
pub record IsSized (graph : Graph) : Type 0 where
  pub few : length graph.guids ≤ 65536
  pub numbers : length graph.numbers ≡ length graph.guids
  pub refs : length graph.refs ≡ length graph.guids
  pub within : length graph.within ≡ length graph.guids
  pub refs_below : AreBelow graph.refs (length graph.guids)
  pub within_below : AreBelow graph.within (length graph.guids)
  pub seeds_below : AreBelow graph.seeds (length graph.guids)

-- the number at a rank
abbrev pub number_at : Graph → ℕ → ℕ
number_at graph r = slice_index_or graph.numbers r 0

-- the references at a rank
abbrev pub refs_at : Graph → ℕ → List ℕ
refs_at graph r = slice_index_or graph.refs r []

-- the ranks of a bundle's entries
abbrev pub seeds_at : Graph → ℕ → List ℕ
seeds_at graph b = slice_index_or graph.seeds b []

-- a bundle is laid out by what a search from its entries found
pub record IsFound (graph : Graph) (b : ℕ) (lay : LayBundle) : Type 0 where
  pub found : List ℕ
  pub list : IsListOf nat_cmp (LedTo graph.within (seeds_at graph b)) found
  pub members : lay.members ≡ map (number_at graph) found
  pub refs : lay.refs ≡ map (λ r. map (home_at b graph.bundles) (refs_at graph r)) found
  pub direct : IsListOf nat_cmp (IsNamedIn lay.refs) lay.direct

-- what a bundle needs, by what a search from its entries found
abbrev pub IsDirect : Graph → ℕ → List ℕ → Type 0
IsDirect graph b direct = (lay : LayBundle) × IsFound graph b lay × (direct ≡ lay.direct)
