-- The rows of a project: their edges are its references, and the bundles beside its GUIDs are those of its entries.
use Rattle.std.proofs.Common.{◌≡◌, ℕ, ◌<◌, Bool, true, List, [], length, get_or, map, Option, Some, None, is_none, is_some, refl, sym, ap, subst, ◌∙◌, arith}
use Rattle.std.proofs.lemmas.Bool.{false≢true}
use Rattle.std.proofs.lemmas.List.{length-map}
use Rattle.std.proofs.lemmas.Option.{slice_get-get_or, slice_get_within, get_or_from_slice_get}
use Rattle.std.specs.List.{Contains, filter, slice_get}
use Rattle.addr_base.specs.declared.ids.Guid.{Guid}
use Rattle.addr_pack.specs.declared.bundles.Plan.{Plan}
use Rattle.addr_pack.specs.declared.bundles.PlanBundle.{PlanBundle}
use Rattle.addr_project.specs.declared.model.Asset.{Asset}
use Rattle.addr_project.specs.Kept.{IsKept}
use Rattle.addr_project.specs.Model.{Project}
use Rattle.addr_project.specs.Reach.{Refers}
use Rattle.addr_project.proofs.OnceLemmas.{to_map, from_map}
use Rattle.addr_walks.specs.Places.{EachAt}
use Rattle.addr_walks.specs.Rows.{AreBelow, Edge}
use Rattle.addr_walks.proofs.Lists.{slice_get-Contains, Contains-filter, filter-Contains}
use Rattle.addr_walks.proofs.Numbering.{AreSteps}
use Rattle.addr_walks.proofs.Zips.{zip-here, zip-there}
use Rattle.addr_layout.specs.declared.graph.Graph.{Graph}
use Rattle.addr_layout.specs.Graph.{AreGuids, AreBeside, AreRefRanks, AreSeeds, IsBundleOf, IsEntryRank, IsGraph, IsSized, is_free}
use Rattle.addr_layout.specs.Members.{HasEntry, IsEntry, IsEntryOf, IsShared, RefersWithin}
use Rattle.addr_layout.specs.Owners.{AreOwners}
use Rattle.addr_layout.proofs.RankLemmas.{one-rank, same-some}

-- ---- entries

pub entry-one : (p : Project) (x : ℕ) (g h : Guid) → IsEntryOf p x g → IsEntryOf p x h → g ≡ h
entry-one p x g h (d, at, (a, here, is)) (e, there, (b, also, was)) =
    let same : d ≡ e = same-some d e (sym at ∙ there) in
    let one : a ≡ b = same-some a b (sym here ∙ (ap (λ n. slice_get p.assets n) (ap (λ entry. entry.asset) same) ∙ also)) in
    sym is ∙ (ap (λ (asset : Asset). asset.guid) one ∙ was)

pub seeds-below : (p : Project) (plan : Plan) (guids : List Guid) (seeds : List (List ℕ)) → EachAt (AreSeeds p plan guids) seeds → AreBelow seeds (length guids)
seeds-below p plan guids seeds each = record { each = below }
  where
    below : (b r : ℕ) → Edge seeds b r → r < length guids
    below b r (row, at, here) =
        let bundle = each b row at in
        let entry = zip-there (IsEntryRank p guids) bundle.0.entries row r bundle.2 here in
        slice_get_within guids r entry.2.0 entry.2.2

pub bundles-are : (p : Project) (plan : Plan) (guids : List Guid) (seeds : List (List ℕ)) (owners : List (Option ℕ)) → AreGuids p guids → IsShared p plan → length seeds ≡ length plan.bundles → EachAt (AreSeeds p plan guids) seeds
    → length owners ≡ length guids → AreOwners seeds owners → AreBeside guids (IsBundleOf p plan) owners
bundles-are p plan guids seeds owners are shared as_many each long owned = record { as_many = long; each = beside }
  where
    has : (r c : ℕ) (g : Guid) → slice_get guids r ≡ Some g → Edge seeds c r → HasEntry p plan c g
    has r c g ranked (row, at, here) =
        let bundle = each c row at in
        let entry = zip-there (IsEntryRank p guids) bundle.0.entries row r bundle.2 here in
        let same = same-some entry.2.0 g (sym entry.2.2 ∙ ranked) in
        (entry.0, (bundle.0, bundle.1, entry.1), subst (IsEntryOf p entry.0) same entry.2.1)

    owned-somewhere : (r x : ℕ) (g : Guid) → slice_get guids r ≡ Some g → IsEntryOf p x g → is_some (get_or owners r None) ≡ true
    owned-somewhere r x g ranked entry =
        let placed = shared.each x (slice_get_within p.entries x entry.0 entry.1) in
        let within = slice_get_within plan.bundles placed.0 placed.1.0 placed.1.1 in
        let row = get_or seeds placed.0 [] in
        let at = slice_get-get_or seeds placed.0 [] (let same = as_many in omega arith) in
        let bundle = each placed.0 row at in
        let same : placed.1.0 ≡ bundle.0 = same-some placed.1.0 bundle.0 (sym placed.1.1 ∙ bundle.1) in
        let rank = zip-here (IsEntryRank p guids) bundle.0.entries row x bundle.2 (subst (λ (b : PlanBundle). Contains b.entries x) same placed.1.2) in
        let one = one-rank guids are.list.rising rank.0 r g (rank.2.2 ∙ ap Some (entry-one p x rank.2.0 g rank.2.1 entry)) ranked in
        owned.all r placed.0 (row, at, subst (Contains row) one rank.1)

    beside : (r : ℕ) (g : Guid) (o : Option ℕ) → slice_get guids r ≡ Some g → slice_get owners r ≡ Some o → IsBundleOf p plan g o
    beside r g None ranked at = λ (x, entry). false≢true (sym (ap is_some (get_or_from_slice_get owners r None None at)) ∙ owned-somewhere r x g ranked entry)
    beside r g (Some c) ranked at = has r c g ranked (owned.sound r c (get_or_from_slice_get owners r (Some c) None at))

-- ---- sizes

refs-below : (p : Project) (guids : List Guid) (refs : List (List ℕ)) → AreBeside guids (AreRefRanks p guids) refs → AreBelow refs (length guids)
refs-below p guids refs beside = record { each = below }
  where
    below : (r s : ℕ) → Edge refs r s → s < length guids
    below r s (row, at, here) =
        let none : Guid = record { 0 = [] } in
        let within = slice_get_within refs r row at in
        let long = beside.as_many in
        let found = beside.each r (get_or guids r none) row (slice_get-get_or guids r none (omega arith)) at in
        let ref = zip-there (λ g k. slice_get guids k ≡ Some g) found.0.refs row s found.3 here in
        slice_get_within guids s ref.0 ref.2

-- a row that a filter left, and the row from which it came
pub filtered-row : (free : ℕ → Bool) (refs : List (List ℕ)) (r s : ℕ) → Edge (map (filter free) refs) r s → (row : List ℕ) × (slice_get refs r ≡ Some row) × Contains row s × (free s ≡ true)
filtered-row free refs r s (kept, at, here) =
    let from = from_map (filter free) refs r kept at in
    let found = filter-Contains free from.0 s (subst (λ xs. Contains xs s) (sym from.2) here) in
    (from.0, from.1, found.0, found.1)

pub sized : (p : Project) (plan : Plan) (graph : Graph) → IsGraph p plan graph → IsSized graph
sized p plan graph is = record {
  few = is.guids.few;
  numbers = is.numbers.as_many;
  refs = is.refs.as_many;
  within = ap length is.within ∙ (length-map graph.refs (filter (is_free graph.bundles)) ∙ is.refs.as_many);
  refs_below = refs-below p graph.guids graph.refs is.refs;
  within_below = record { each = below };
  seeds_below = seeds-below p plan graph.guids graph.seeds is.seeds;
}
  where
    below : (r s : ℕ) → Edge graph.within r s → s < length graph.guids
    below r s edge =
        let row = filtered-row (is_free graph.bundles) graph.refs r s (subst (λ rows. Edge rows r s) is.within edge) in
        (refs-below p graph.guids graph.refs is.refs).each r s (row.0, row.1, row.2)

-- ---- steps

-- two assets with one GUID are the same
pub one-asset : (p : Project) → IsKept p → (a b : Asset) → Contains p.assets a → Contains p.assets b → a.guid ≡ b.guid → a ≡ b
one-asset p kept a b here there same =
    let at = slice_get-Contains p.assets a here in
    let also = slice_get-Contains p.assets b there in
    let place = kept.assets_once at.0 also.0 a.guid.0 (to_map (λ (x : Asset). x.guid.0) p.assets at.0 a at.1) (to_map (λ (x : Asset). x.guid.0) p.assets also.0 b also.1 ∙ ap (λ (g : Guid). Some g.0) (sym same)) in
    same-some a b (sym at.1 ∙ (ap (λ n. slice_get p.assets n) place ∙ also.1))

-- the bundle beside a GUID
pub bundle-at : (p : Project) (plan : Plan) (graph : Graph) → IsGraph p plan graph → (r : ℕ) (g : Guid) → slice_get graph.guids r ≡ Some g → IsBundleOf p plan g (get_or graph.bundles r None)
bundle-at p plan graph is r g ranked =
    let within = slice_get_within graph.guids r g ranked in
    let long = is.bundles.as_many in
    is.bundles.each r g (get_or graph.bundles r None) ranked (slice_get-get_or graph.bundles r None (omega arith))

free-no-entry : (p : Project) (plan : Plan) (g : Guid) (o : Option ℕ) → IsBundleOf p plan g o → is_none o ≡ true → ¬ IsEntry p g
free-no-entry p plan g None of free = of
free-no-entry p plan g (Some c) of free = absurd (false≢true free)

no-entry-free : (p : Project) (plan : Plan) (g : Guid) (o : Option ℕ) → IsBundleOf p plan g o → ¬ IsEntry p g → is_none o ≡ true
no-entry-free p plan g None of not-entry = refl
no-entry-free p plan g (Some c) of not-entry = absurd (not-entry (of.0, of.2))

pub refs-steps : (p : Project) (plan : Plan) (graph : Graph) → IsKept p → IsGraph p plan graph → AreSteps graph.guids (Refers p) graph.refs
refs-steps p plan graph kept is = record { up = up; down = down }
  where
    up : (r s : ℕ) (x : Guid) → slice_get graph.guids r ≡ Some x → Edge graph.refs r s → (y : Guid) × (slice_get graph.guids s ≡ Some y) × Refers p x y
    up r s x ranked (row, at, here) =
        let found = is.refs.each r x row ranked at in
        let ref = zip-there (λ g k. slice_get graph.guids k ≡ Some g) found.0.refs row s found.3 here in
        (ref.0, ref.2, (found.0, found.1, found.2, ref.1))

    down : (r : ℕ) (x y : Guid) → slice_get graph.guids r ≡ Some x → Refers p x y → (s : ℕ) × (slice_get graph.guids s ≡ Some y) × Edge graph.refs r s
    down r x y ranked (asset, in', named, refers) =
        let within = slice_get_within graph.guids r x ranked in
        let long = is.refs.as_many in
        let row = get_or graph.refs r [] in
        let at = slice_get-get_or graph.refs r [] (omega arith) in
        let found = is.refs.each r x row ranked at in
        let same = one-asset p kept asset found.0 in' found.1 (named ∙ sym found.2) in
        let ref = zip-here (λ g k. slice_get graph.guids k ≡ Some g) found.0.refs row y found.3 (subst (λ (a : Asset). Contains a.refs y) same refers) in
        (ref.0, ref.2, (row, at, ref.1))

pub within-steps : (p : Project) (plan : Plan) (graph : Graph) → IsKept p → IsGraph p plan graph → AreSteps graph.guids (RefersWithin p) graph.within
within-steps p plan graph kept is = record { up = up; down = down }
  where
    steps : AreSteps graph.guids (Refers p) graph.refs
    steps = refs-steps p plan graph kept is

    up : (r s : ℕ) (x : Guid) → slice_get graph.guids r ≡ Some x → Edge graph.within r s → (y : Guid) × (slice_get graph.guids s ≡ Some y) × RefersWithin p x y
    up r s x ranked edge =
        let row = filtered-row (is_free graph.bundles) graph.refs r s (subst (λ rows. Edge rows r s) is.within edge) in
        let next = steps.up r s x ranked (row.0, row.1, row.2) in
        (next.0, next.1, (next.2, free-no-entry p plan next.0 (get_or graph.bundles s None) (bundle-at p plan graph is s next.0 next.1) row.3))

    down : (r : ℕ) (x y : Guid) → slice_get graph.guids r ≡ Some x → RefersWithin p x y → (s : ℕ) × (slice_get graph.guids s ≡ Some y) × Edge graph.within r s
    down r x y ranked (refers, not-entry) =
        let next = steps.down r x y ranked refers in
        let free = no-entry-free p plan y (get_or graph.bundles next.0 None) (bundle-at p plan graph is next.0 y next.1) not-entry in
        let kept' = to_map (filter (is_free graph.bundles)) graph.refs r next.2.0 next.2.1 in
        (next.0, next.1, (filter (is_free graph.bundles) next.2.0, ap (λ rows. slice_get rows r) is.within ∙ kept', Contains-filter (is_free graph.bundles) next.2.0 next.0 next.2.2 free))
