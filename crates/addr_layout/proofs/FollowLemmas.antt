-- Rows of what bundles need, and rows of links, lead from bundle to bundle as needs do; a search over such rows counts dependencies.
use Rattle.std.proofs.Common.{◌≡◌, ℕ, ◌<◌, ◌≤◌, ◌⊎◌, inl, inr, List, [], length, get_or, sym, subst, arith}
use Rattle.std.proofs.lemmas.List.Elements.{Contains-get_or}
use Rattle.std.proofs.lemmas.Map.Views.{length-le_from_below}
use Rattle.std.proofs.lemmas.Option.{slice_get-get_or, slice_get_within}
use Rattle.std.specs.List.{Contains}
use Rattle.std.specs.Ordering.{nat_cmp}
use Rattle.addr_pack.specs.declared.bundles.Plan.{Plan}
use Rattle.addr_project.specs.Kept.{IsKept}
use Rattle.addr_project.specs.Model.{Project}
use Rattle.addr_walks.specs.Closure.{IsDeps}
use Rattle.addr_walks.specs.Places.{EachAt}
use Rattle.addr_walks.specs.Rows.{Edge, IsSizeOf}
use Rattle.addr_walks.specs.Walks.{IsListOf, Leads}
use Rattle.addr_walks.proofs.Lists.{Contains-cases, Contains-here, Contains-none, IsListOf-same}
use Rattle.addr_walks.proofs.Walking.{kept-along, Leads-map}
use Rattle.addr_layout.specs.declared.graph.Graph.{Graph}
use Rattle.addr_layout.specs.Graph.{IsDirect, IsGraph}
use Rattle.addr_layout.specs.Links.{FollowsNeeds, IsLinked, links_of}
use Rattle.addr_layout.specs.Members.{IsShared}
use Rattle.addr_layout.specs.Needs.{Needs}
use Rattle.addr_layout.proofs.FoundLemmas.{found-full}
use Rattle.addr_layout.proofs.LinkLemmas.{are-below, bundle-below, linked-needs, links-many, needs-linked, size-deps}

-- ---- rows that follow needs

module _ (p : Project) (plan : Plan) (graph : Graph) (kept : IsKept p) (shared : IsShared p plan) (is : IsGraph p plan graph) where
  -- a bundle that is needed, or that needs one, is among the placement's
  needed-below : (b c : ℕ) → Needs p plan b c → c < length graph.seeds
  needed-below b c (apart, x, y, member, refers, has) = bundle-below p plan graph kept shared is c y has

  needing-below : (b c : ℕ) → Needs p plan b c → b < length graph.seeds
  needing-below b c (apart, x, y, (e, has, walk), refers, other) = bundle-below p plan graph kept shared is b e has

  pub direct-list : (b : ℕ) (row : List ℕ) → b < length graph.seeds → IsDirect graph b row → IsListOf nat_cmp (Needs p plan b) row
  direct-list b row inside (lay, found, same) = subst (IsListOf nat_cmp (Needs p plan b)) (sym same) (found-full p plan graph kept shared is b lay inside found).direct

  pub direct-follows : (rows : List (List ℕ)) → length rows ≡ length graph.seeds → EachAt (IsDirect graph) rows → FollowsNeeds p plan rows
  direct-follows rows long each = record {
    as_many = (let same = is.as_many in omega arith);
    below = record { each = λ b c edge. (let below = needed-below b c (edge-needs b c edge) in omega arith) };
    leads = λ b c inside. (needed b c, linked b c inside);
  }
    where
      edge-needs : (b c : ℕ) → Edge rows b c → Needs p plan b c
      edge-needs b c (row, at, here) = (direct-list b row (let within = slice_get_within rows b row at in omega arith) (each b row at)).within c here

      needs-edge : (b c : ℕ) → Needs p plan b c → Edge rows b c
      needs-edge b c needs =
          let inside = needing-below b c needs in
          let at = slice_get-get_or rows b [] (omega arith) in
          (get_or rows b [], at, (direct-list b (get_or rows b []) inside (each b (get_or rows b []) at)).all c needs)

      needed : (b c : ℕ) → IsLinked rows (length plan.bundles) b c → Leads (Needs p plan) b c
      needed b c (below, (s, here, walk)) = by_start (Contains-cases b [] s here)
        where
          by_start : (b ≡ s) ⊎ Contains [] s → Leads (Needs p plan) b c
          by_start (inl same) = Leads-map (Edge rows) (Needs p plan) (λ d. d) edge-needs b c (subst (λ d. Leads (Edge rows) d c) (sym same) walk)
          by_start (inr none) = absurd (Contains-none s none)

      linked : (b c : ℕ) → b < length plan.bundles → Leads (Needs p plan) b c → IsLinked rows (length plan.bundles) b c
      linked b c inside walk = (
        kept-along (Needs p plan) (λ d. d < length plan.bundles) (λ d e small needs. (let below = needed-below d e needs in let same = is.as_many in omega arith)) b c inside walk,
        (b, Contains-here b [], Leads-map (Needs p plan) (Edge rows) (λ d. d) needs-edge b c walk),
      )

  pub links-follow : FollowsNeeds p plan (links_of graph)
  links-follow = record {
    as_many = (let same = is.as_many in let many = links-many graph in omega arith);
    below = are-below p plan graph kept shared is;
    leads = λ b c inside. (
      (λ linked. linked-needs p plan graph kept shared is b c (placed b inside) (subst (λ n. IsLinked (links_of graph) n b c) (sym is.as_many) linked)),
      (λ walk. subst (λ n. IsLinked (links_of graph) n b c) is.as_many (needs-linked p plan graph kept shared is b c (placed b inside) walk)),
    );
  }
    where
      placed : (b : ℕ) → b < length plan.bundles → b < length graph.seeds
      placed b inside = let same = is.as_many in omega arith

-- ---- counts

-- as many dependencies as a search counts over rows that follow needs, and not more than there are bundles
pub deps-counted : (p : Project) (plan : Plan) (rows : List (List ℕ)) (bundles b n : ℕ) → FollowsNeeds p plan rows → bundles ≡ length plan.bundles → b < bundles → IsSizeOf (IsLinked rows bundles b) n
    → (n ≤ length plan.bundles) × ((deps : List ℕ) × IsDeps (Needs p plan) b deps × (n ≡ length deps))
deps-counted p plan rows bundles b n follows many within (found, list, size) = (few, size-deps (Needs p plan) b n (found, needed, size))
  where
    inside : b < length plan.bundles
    inside = omega arith

    few : n ≤ length plan.bundles
    few = let below = length-le_from_below bundles found list.rising (λ k d here. (list.within (get_or found k d) (Contains-get_or found k d here)).0) in omega arith

    needed : IsListOf nat_cmp (Leads (Needs p plan) b) found
    needed = IsListOf-same (IsLinked rows bundles b) (Leads (Needs p plan) b)
        (λ c linked. (follows.leads b c inside).0 (subst (λ k. IsLinked rows k b c) many linked))
        (λ c walk. subst (λ k. IsLinked rows k b c) (sym many) ((follows.leads b c inside).1 walk))
        found list
