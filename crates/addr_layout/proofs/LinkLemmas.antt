-- Links lead from a bundle to exactly the bundles that it depends on; a dependency list is as long as what its steps lead to is many.
use Rattle.std.proofs.Common.{◌≡◌, ◌≢◌, ℕ, zero, suc, ◌+◌, ◌<◌, ◌≤◌, ◌⊎◌, inl, inr, Bool, true, false, ◌==◌, not, List, [], ◌∷◌, ◌++◌, length, get_or, map, Option, Some, None, refl, sym, ap, subst, ◌∙◌, arith}
use Rattle.std.proofs.lemmas.Bool.{cases_eq, cases_lt, false≢true, ne_eqb, not_from_false}
use Rattle.std.proofs.lemmas.Cmp.{nat_eq_equiv}
use Rattle.std.proofs.lemmas.List.{get_or_past, length-append, length-map}
use Rattle.std.proofs.lemmas.List.Elements.{Contains-append_left, Contains-append_right, Contains-append_cases, Contains-get_or}
use Rattle.std.proofs.lemmas.Map.Made.{length-from_same_keys}
use Rattle.std.proofs.lemmas.Option.{get_or_from_slice_get, slice_get-get_or, slice_get_within}
use Rattle.std.specs.List.{All, Contains, filter, flat_map, slice_get}
use Rattle.std.specs.Ordering.{nat_cmp}
use Rattle.addr_base.specs.declared.ids.Guid.{Guid}
use Rattle.addr_pack.specs.declared.bundles.Plan.{Plan}
use Rattle.addr_pack.specs.declared.bundles.PlanBundle.{PlanBundle}
use Rattle.addr_project.specs.Kept.{IsKept}
use Rattle.addr_project.specs.Model.{Project}
use Rattle.addr_project.specs.Reach.{Refers}
use Rattle.addr_project.proofs.OnceLemmas.{to_map, from_map}
use Rattle.addr_walks.specs.Closure.{IsDeps, is_other}
use Rattle.addr_walks.specs.Rows.{AreBelow, Edge, IsSizeOf}
use Rattle.addr_walks.specs.Walks.{IsListOf, Leads}
use Rattle.addr_walks.specs.Walks.Leads.{stays, goes}
use Rattle.addr_walks.proofs.ClosureLemmas.{deps-distinct}
use Rattle.addr_walks.proofs.FoundLemmas.{distinct-sorted, same-answers}
use Rattle.addr_walks.proofs.Lists.{Contains-here, Contains-later, Contains-cases, Contains-none, Contains-map, map-Contains, IsListOf-filter, IsListOf-same, slice_get-append_left}
use Rattle.addr_walks.proofs.Walking.{kept-along, Leads-join}
use Rattle.addr_walks.proofs.Zips.{zip-here, zip-there}
use Rattle.addr_layout.specs.declared.graph.Graph.{Graph}
use Rattle.addr_layout.specs.Graph.{IsBundleOf, IsEntryRank, IsGraph}
use Rattle.addr_layout.specs.Links.{IsLinked, link_at, link_from, links_at, links_of}
use Rattle.addr_layout.specs.Members.{HasEntry, IsEntry, IsShared, Member, RefersWithin}
use Rattle.addr_layout.specs.Needs.{Needs}
use Rattle.addr_layout.proofs.GraphLemmas.{bundle-at, entry-one, refs-steps, sized}
use Rattle.addr_layout.proofs.PlacedLemmas.{one-bundle}
use Rattle.addr_layout.proofs.RankLemmas.{read-at, row-read, same-some}

-- ---- rows

-- what stands in a row that was read is below the rows' bound
pub row-below : (rows items : List (List ℕ)) (n i : ℕ) (row item : List ℕ) → AreBelow rows n → items ≡ rows → i < length items → row ≡ item → item ≡ get_or items i item → All (λ r. r < n) row
row-below rows items n i row item below same within is read = λ k d inside.
    let at = read-at items rows i row same within (row-read items i row item is read) in
    below.each i (get_or row k d) (row, at, Contains-get_or row k d inside)

slice_get-append_right : {X : Type 0} (xs ys : List X) (k : ℕ) (y : X) → slice_get ys k ≡ Some y → slice_get (xs ++ ys) (length xs + k) ≡ Some y
slice_get-append_right [] ys k y at = let same : 0 + k ≡ k = omega arith in rw same at
slice_get-append_right (x ∷ xs) ys k y at = let same : suc (length xs) + k ≡ suc (length xs + k) = omega arith in rw same (slice_get-append_right xs ys k y at)

slice_get-append_cases : {X : Type 0} (xs ys : List X) (k : ℕ) (x : X) → slice_get (xs ++ ys) k ≡ Some x → (slice_get xs k ≡ Some x) ⊎ ((j : ℕ) × (k ≡ length xs + j) × (slice_get ys j ≡ Some x))
slice_get-append_cases [] ys k x at = inr (k, omega arith, at)
slice_get-append_cases (y ∷ xs) ys zero x at = inl at
slice_get-append_cases {X} (y ∷ xs) ys (suc k) x at = further (slice_get-append_cases xs ys k x at)
  where
    further : (slice_get xs k ≡ Some x) ⊎ ((j : ℕ) × (k ≡ length xs + j) × (slice_get ys j ≡ Some x)) → (slice_get xs k ≡ Some x) ⊎ ((j : ℕ) × (suc k ≡ length (y ∷ xs) + j) × (slice_get ys j ≡ Some x))
    further (inl there) = inl there
    further (inr (j, is, there)) = inr (j, omega arith, there)

Contains-flat : {X Y : Type 0} (f : X → List Y) (xs : List X) (x : X) (y : Y) → Contains xs x → Contains (f x) y → Contains (flat_map f xs) y
Contains-flat f [] x y here inside = absurd (Contains-none x here)
Contains-flat f (z ∷ zs) x y here inside = by_case (Contains-cases z zs x here) (λ later. Contains-flat f zs x y later inside)
  where
    by_case : (z ≡ x) ⊎ Contains zs x → (Contains zs x → Contains (flat_map f zs) y) → Contains (f z ++ flat_map f zs) y
    by_case (inl same) more = Contains-append_left (f z) (flat_map f zs) y (subst (λ w. Contains (f w) y) (sym same) inside)
    by_case (inr later) more = Contains-append_right (f z) (flat_map f zs) y (more later)

flat-Contains : {X Y : Type 0} (f : X → List Y) (xs : List X) (y : Y) → Contains (flat_map f xs) y → (x : X) × Contains xs x × Contains (f x) y
flat-Contains f [] y here = absurd (Contains-none y here)
flat-Contains f (x ∷ xs) y here = by_case (Contains-append_cases (f x) (flat_map f xs) y here) (λ later. flat-Contains f xs y later)
  where
    by_case : Contains (f x) y ⊎ Contains (flat_map f xs) y → (Contains (flat_map f xs) y → (z : _) × Contains xs z × Contains (f z) y) → (z : _) × Contains (x ∷ xs) z × Contains (f z) y
    by_case (inl first) more = (x, Contains-here x xs, first)
    by_case (inr later) more = let found = more later in (found.0, Contains-later x xs found.0 found.1, found.2)

-- ---- links

module _ (graph : Graph) where
  abbrev bundle_rows : List (List ℕ)
  bundle_rows = map (flat_map (links_at graph)) graph.seeds

  abbrev asset_rows : List (List ℕ)
  asset_rows = map (map (link_at graph)) graph.refs

  bundles-many : length bundle_rows ≡ length graph.seeds
  bundles-many = length-map graph.seeds (flat_map (links_at graph))

  pub links-many : length (links_of graph) ≡ length graph.seeds + length graph.refs
  links-many =
      let bundles = bundles-many in
      let assets = length-map graph.refs (map (link_at graph)) in
      let whole = length-append bundle_rows asset_rows in
      omega arith

  -- where an entry's references lead, its bundle leads
  bundle-link : (b r s : ℕ) → Edge graph.seeds b r → Edge graph.refs r s → Edge (links_of graph) b (link_at graph s)
  bundle-link b r s (entries, at, entry) (refs, there, ref) =
      let row = get_or_from_slice_get graph.refs r refs [] there in (
        flat_map (links_at graph) entries,
        slice_get-append_left bundle_rows asset_rows b (flat_map (links_at graph) entries) (to_map (flat_map (links_at graph)) graph.seeds b entries at),
        Contains-flat (links_at graph) entries r (link_at graph s) entry (subst (λ xs. Contains (map (link_at graph) xs) (link_at graph s)) (sym row) (Contains-map (link_at graph) refs s ref)),
      )

  -- and where an asset's references lead, the asset leads
  asset-link : (r s : ℕ) → Edge graph.refs r s → Edge (links_of graph) (length graph.seeds + r) (link_at graph s)
  asset-link r s (refs, there, ref) = (
    map (link_at graph) refs,
    subst (λ n. slice_get (links_of graph) (n + r) ≡ Some (map (link_at graph) refs)) bundles-many (slice_get-append_right bundle_rows asset_rows r (map (link_at graph) refs) (to_map (map (link_at graph)) graph.refs r refs there)),
    Contains-map (link_at graph) refs s ref,
  )

  -- a rank with references has a row of them
  ref-edge : (r s : ℕ) → Contains (get_or graph.refs r []) s → Edge graph.refs r s
  ref-edge r s ref = by_place (cases_lt r (length graph.refs))
    where
      by_place : (r < length graph.refs) ⊎ (length graph.refs ≤ r) → Edge graph.refs r s
      by_place (inl within) = (get_or graph.refs r [], slice_get-get_or graph.refs r [] within, ref)
      by_place (inr past) = absurd (Contains-none s (subst (λ xs. Contains xs s) (get_or_past graph.refs r [] past) ref))

  -- each link is that of a reference, from the asset or from the bundle of its entry
  abbrev IsLink : ℕ → ℕ → Type 0
  IsLink v w = (r s : ℕ) × (Edge graph.seeds v r ⊎ (v ≡ length graph.seeds + r)) × Edge graph.refs r s × (link_at graph s ≡ w)

  link-cases : (v w : ℕ) → Edge (links_of graph) v w → IsLink v w
  link-cases v w (row, at, here) = by_place (slice_get-append_cases bundle_rows asset_rows v row at)
    where
      by_place : (slice_get bundle_rows v ≡ Some row) ⊎ ((r : ℕ) × (v ≡ length bundle_rows + r) × (slice_get asset_rows r ≡ Some row)) → IsLink v w
      by_place (inl there) =
          let (entries, seeds, is) = from_map (flat_map (links_at graph)) graph.seeds v row there in
          let (r, entry, inside) = flat-Contains (links_at graph) entries w (subst (λ xs. Contains xs w) (sym is) here) in
          let (s, ref, leads) = map-Contains (link_at graph) (get_or graph.refs r []) w inside in
          (r, s, inl (entries, seeds, entry), ref-edge r s ref, leads)
      by_place (inr (r, place, there)) =
          let (refs, at', is) = from_map (map (link_at graph)) graph.refs r row there in
          let (s, ref, leads) = map-Contains (link_at graph) refs w (subst (λ xs. Contains xs w) (sym is) here) in
          (r, s, inr (place ∙ ap (λ n. n + r) bundles-many), (refs, at', ref), leads)

-- ---- lists of dependencies

other-differs : (b c : ℕ) → is_other b c ≡ true → b ≢ c
other-differs b c other same = by_test (c == b) refl other
  where
    by_test : (t : Bool) → (c == b) ≡ t → not t ≡ true → ⊥
    by_test true is passes = false≢true passes
    by_test false is passes = false≢true (sym is ∙ (ap (λ d. d == b) (sym same) ∙ nat_eq_equiv.refl b))

differs-other : (b c : ℕ) → b ≢ c → is_other b c ≡ true
differs-other b c apart = not_from_false (c == b) (ne_eqb c b (λ same. apart (sym same)))

-- a dependency list is as long as what the steps lead to is many
pub size-deps : (step : ℕ → ℕ → Type 0) (b n : ℕ) → IsSizeOf (Leads step b) n → (deps : List ℕ) × IsDeps step b deps × (n ≡ length deps)
size-deps step b n (found, list, is) = (
  b ∷ filter (is_other b) found,
  deps,
  is ∙ length-from_same_keys nat_eq_equiv found (b ∷ filter (is_other b) found) (distinct-sorted found list.rising) (deps-distinct step b (b ∷ filter (is_other b) found) deps)
      (same-answers found (b ∷ filter (is_other b) found) into back),
)
  where
    rest : IsListOf nat_cmp (λ c. (b ≢ c) × Leads step b c) (filter (is_other b) found)
    rest = IsListOf-same (λ c. (is_other b c ≡ true) × Leads step b c) (λ c. (b ≢ c) × Leads step b c) (λ c (other, led). (other-differs b c other, led)) (λ c (apart, led). (differs-other b c apart, led))
        (filter (is_other b) found) (IsListOf-filter (Leads step b) (is_other b) found list)

    deps : IsDeps step b (b ∷ filter (is_other b) found)
    deps = (filter (is_other b) found, refl, rest)

    into : (c : ℕ) → Contains found c → Contains (b ∷ filter (is_other b) found) c
    into c here = by_place (cases_eq b c)
      where
        by_place : (b ≡ c) ⊎ (b ≡ c → ⊥) → Contains (b ∷ filter (is_other b) found) c
        by_place (inl same) = subst (Contains (b ∷ filter (is_other b) found)) same (Contains-here b (filter (is_other b) found))
        by_place (inr apart) = Contains-later b (filter (is_other b) found) c (rest.all c (apart, list.within c here))

    back : (c : ℕ) → Contains (b ∷ filter (is_other b) found) c → Contains found c
    back c here = by_case (Contains-cases b (filter (is_other b) found) c here)
      where
        by_case : (b ≡ c) ⊎ Contains (filter (is_other b) found) c → Contains found c
        by_case (inl same) = list.all c (subst (Leads step b) same stays)
        by_case (inr later) = list.all c (rest.within c later).1

-- ---- walks

module _ (p : Project) (plan : Plan) (graph : Graph) (kept : IsKept p) (shared : IsShared p plan) (is : IsGraph p plan graph) where
  -- the bundle of an entry is one of the placement's
  pub bundle-below : (b : ℕ) (g : Guid) → HasEntry p plan b g → b < length graph.seeds
  bundle-below b g (x, (bundle, at, here), entry) =
      let within = slice_get_within plan.bundles b bundle at in
      let same = is.as_many in
      omega arith

  -- where a reference to an asset leads by what is known of the asset
  to-entry : (s c : ℕ) (g : Guid) (o : Option ℕ) → IsBundleOf p plan g o → HasEntry p plan c g → link_from (length graph.seeds) s o ≡ c
  to-entry s c g None of has = absurd (of (has.0, has.2))
  to-entry s c g (Some d) of has = one-bundle p plan kept shared d c g of has

  to-asset : (s : ℕ) (g : Guid) (o : Option ℕ) → IsBundleOf p plan g o → ¬ IsEntry p g → link_from (length graph.seeds) s o ≡ length graph.seeds + s
  to-asset s g None of not-entry = refl
  to-asset s g (Some d) of not-entry = absurd (not-entry (of.0, of.2))

  -- ---- from needs to links

  -- links lead from a bundle to wherever the references of an asset lead
  abbrev LeadsOn : ℕ → Guid → Type 0
  LeadsOn b g = (r : ℕ) × (slice_get graph.guids r ≡ Some g) × ((s : ℕ) → Edge graph.refs r s → Leads (Edge (links_of graph)) b (link_at graph s))

  entry-leads : (b : ℕ) (g : Guid) → HasEntry p plan b g → LeadsOn b g
  entry-leads b g (x, (bundle, at, here), entry) =
      let inside = bundle-below b g (x, (bundle, at, here), entry) in
      let row = get_or graph.seeds b [] in
      let there = slice_get-get_or graph.seeds b [] inside in
      let seeds = is.seeds b row there in
      let same = same-some bundle seeds.0 (sym at ∙ seeds.1) in
      let seed = zip-here (IsEntryRank p graph.guids) seeds.0.entries row x seeds.2 (subst (λ (q : PlanBundle). Contains q.entries x) same here) in
      let ranked = seed.2.2 ∙ ap Some (entry-one p x seed.2.0 g seed.2.1 entry) in
      (seed.0, ranked, λ s edge. goes stays (bundle-link graph b seed.0 s (row, there, seed.1) edge))

  ref-leads : (b : ℕ) (x y : Guid) → LeadsOn b x → RefersWithin p x y → LeadsOn b y
  ref-leads b x y (r, ranked, leads) (refers, not-entry) =
      let (s, there, edge) = (refs-steps p plan graph kept is).down r x y ranked refers in
      let own = to-asset s y (get_or graph.bundles s None) (bundle-at p plan graph is s y there) not-entry in
      let walk = subst (Leads (Edge (links_of graph)) b) own (leads s edge) in
      (s, there, λ t next. goes walk (asset-link graph s t next))

  need-linked : (b c : ℕ) → Needs p plan b c → Leads (Edge (links_of graph)) b c
  need-linked b c (apart, x, y, (e, has, walk), refers, other) =
      let (r, ranked, leads) = kept-along (RefersWithin p) (LeadsOn b) (ref-leads b) e x (entry-leads b e has) walk in
      let (s, there, edge) = (refs-steps p plan graph kept is).down r x y ranked refers in
      subst (Leads (Edge (links_of graph)) b) (to-entry s c y (get_or graph.bundles s None) (bundle-at p plan graph is s y there) other) (leads s edge)

  pub needs-linked : (b c : ℕ) → b < length graph.seeds → Leads (Needs p plan) b c → IsLinked (links_of graph) (length graph.seeds) b c
  needs-linked b c inside walk =
      let (below, led) = kept-along (Needs p plan) (λ d. (d < length graph.seeds) × Leads (Edge (links_of graph)) b d) step b c (inside, stays) walk in
      (below, (b, Contains-here b [], led))
    where
      step : (d e : ℕ) → (d < length graph.seeds) × Leads (Edge (links_of graph)) b d → Needs p plan d e → (e < length graph.seeds) × Leads (Edge (links_of graph)) b e
      step d e (below, led) (apart, x, y, member, refers, has) = (bundle-below e y has, Leads-join (Edge (links_of graph)) b d e led (need-linked d e (apart, x, y, member, refers, has)))

  -- ---- from links to needs

  -- an asset at a rank is a member of a bundle to which needs lead
  abbrev Stands : ℕ → ℕ → Type 0
  Stands b r = (c : ℕ) × (g : Guid) × (slice_get graph.guids r ≡ Some g) × Leads (Needs p plan) b c × Member p plan c g

  -- a bundle to which needs lead, or an asset in one
  abbrev Comes : ℕ → ℕ → Type 0
  Comes b v = ((v < length graph.seeds) × Leads (Needs p plan) b v) ⊎ ((r : ℕ) × (v ≡ length graph.seeds + r) × Stands b r)

  -- a reference of a member leads to a bundle that is needed, or to another member
  from-member : (b s w c : ℕ) (g h : Guid) (o : Option ℕ) → Leads (Needs p plan) b c → Member p plan c g → Refers p g h → slice_get graph.guids s ≡ Some h → IsBundleOf p plan h o → link_from (length graph.seeds) s o ≡ w → Comes b w
  from-member b s w c g h None walk (e, has, within) refers ranked of leads = inr (s, sym leads, (c, h, ranked, walk, (e, has, goes within (refers, of))))
  from-member b s w c g h (Some d) walk member refers ranked of leads = inl (subst (λ x. (x < length graph.seeds) × Leads (Needs p plan) b x) leads (bundle-below d h of, by_number (cases_eq c d)))
    where
      by_number : (c ≡ d) ⊎ (c ≡ d → ⊥) → Leads (Needs p plan) b d
      by_number (inl same) = subst (Leads (Needs p plan) b) same walk
      by_number (inr apart) = goes walk (apart, g, h, member, refers, of)

  -- the asset whose reference a link is stands in a bundle to which needs lead
  comes-from : (b v r : ℕ) → Comes b v → Edge graph.seeds v r ⊎ (v ≡ length graph.seeds + r) → Stands b r
  comes-from b v r (inl (below, walk)) (inl (row, at, here)) =
      let seeds = is.seeds v row at in
      let entry = zip-there (IsEntryRank p graph.guids) seeds.0.entries row r seeds.2 here in
      (v, entry.2.0, entry.2.2, walk, (entry.2.0, (entry.0, (seeds.0, seeds.1, entry.1), entry.2.1), stays))
  comes-from b v r (inl (below, walk)) (inr place) = absurd (omega arith)
  comes-from b v r (inr (t, place, stands)) (inl (row, at, here)) = let inside = slice_get_within graph.seeds v row at in absurd (omega arith)
  comes-from b v r (inr (t, place, stands)) (inr also) = let same : t ≡ r = omega arith in subst (Stands b) same stands

  comes-on : (b v w : ℕ) → Comes b v → Edge (links_of graph) v w → Comes b w
  comes-on b v w comes link =
      let (r, s, from, edge, leads) = link-cases graph v w link in
      let (c, g, ranked, walk, member) = comes-from b v r comes from in
      let (h, there, refers) = (refs-steps p plan graph kept is).up r s g ranked edge in
      from-member b s w c g h (get_or graph.bundles s None) walk member refers there (bundle-at p plan graph is s h there) leads

  pub linked-needs : (b c : ℕ) → b < length graph.seeds → IsLinked (links_of graph) (length graph.seeds) b c → Leads (Needs p plan) b c
  linked-needs b c inside (below, (s, here, walk)) = by_end (kept-along (Edge (links_of graph)) (Comes b) (comes-on b) s c (by_start (Contains-cases b [] s here)) walk)
    where
      by_start : (b ≡ s) ⊎ Contains [] s → Comes b s
      by_start (inl same) = subst (Comes b) same (inl (inside, stays))
      by_start (inr none) = absurd (Contains-none s none)

      by_end : Comes b c → Leads (Needs p plan) b c
      by_end (inl (small, led)) = led
      by_end (inr (r, place, stands)) = absurd (omega arith)

  -- ---- bounds

  links-below : (v w : ℕ) → Edge (links_of graph) v w → w < length graph.seeds + length graph.guids
  links-below v w link = by_link (link-cases graph v w link)
    where
      none : Guid
      none = record { 0 = [] }

      by_owner : (s : ℕ) (h : Guid) (o : Option ℕ) → s < length graph.guids → IsBundleOf p plan h o → link_from (length graph.seeds) s o ≡ w → w < length graph.seeds + length graph.guids
      by_owner s h None small of leads = omega arith
      by_owner s h (Some d) small of leads = let below = bundle-below d h of in omega arith

      by_link : IsLink graph v w → w < length graph.seeds + length graph.guids
      by_link (r, s, from, edge, leads) =
          let small = (sized p plan graph is).refs_below.each r s edge in
          let ranked = slice_get-get_or graph.guids s none small in
          by_owner s (get_or graph.guids s none) (get_or graph.bundles s None) small (bundle-at p plan graph is s (get_or graph.guids s none) ranked) leads

  pub are-below : AreBelow (links_of graph) (length (links_of graph))
  are-below = record { each = λ v w edge. (let below = links-below v w edge in let many = links-many graph in let refs = is.refs.as_many in omega arith) }
