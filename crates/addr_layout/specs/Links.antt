-- Links of a placement: bundles and assets as numbers of one kind, the bundles first and behind them the assets by rank.
use Rattle.std.specs.Prelude.{ℕ, ◌+◌, ◌<◌, ◌≤◌, ◌↔◌, List, [], ◌∷◌, ◌++◌, map, length, Option, Some, None, slice_index_or}
use Rattle.std.specs.List.{flat_map}
use Rattle.addr_pack.specs.declared.bundles.Plan.{Plan}
use Rattle.addr_project.specs.Model.{Project}
use Rattle.addr_walks.specs.Rows.{AreBelow, LedBelow}
use Rattle.addr_walks.specs.Walks.{Leads}
use Rattle.addr_layout.specs.declared.graph.Graph.{Graph}
use Rattle.addr_layout.specs.Graph.{refs_at}
use Rattle.addr_layout.specs.Needs.{Needs}

-- behind so many bundles, a reference to an entry leads to the entry's bundle, and any other to the asset
abbrev pub link_from : ℕ → ℕ → Option ℕ → ℕ
link_from bundles r None = bundles + r
link_from bundles r (Some c) = c

-- where a reference to the asset at a rank leads
abbrev pub link_at : Graph → ℕ → ℕ
link_at graph r = link_from (length graph.seeds) r (slice_index_or graph.bundles r None)

-- where the references of the asset at a rank lead
abbrev pub links_at : Graph → ℕ → List ℕ
links_at graph r = map (link_at graph) (refs_at graph r)

-- a bundle leads to where the references of its entries lead, and an asset to where its own lead
abbrev pub links_of : Graph → List (List ℕ)
links_of graph = map (flat_map (links_at graph)) graph.seeds ++ map (map (link_at graph)) graph.refs

-- links lead from a bundle to one of so many bundles
abbrev pub IsLinked : List (List ℕ) → ℕ → ℕ → ℕ → Type 0
IsLinked links bundles b c = LedBelow links (b ∷ []) bundles c

-- rows lead from each bundle to exactly the bundles to which needs lead
pub record FollowsNeeds (p : Project) (plan : Plan) (rows : List (List ℕ)) : Type 0 where
  pub as_many : length plan.bundles ≤ length rows
  pub below : AreBelow rows (length rows)
  pub leads : (b c : ℕ) → b < length plan.bundles → IsLinked rows (length plan.bundles) b c ↔ Leads (Needs p plan) b c
