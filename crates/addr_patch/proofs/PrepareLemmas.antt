-- From what the steps of preparing answer to an update that is prepared, or to the first limit that it passes.
use Rattle.std.proofs.Common.{◌≡◌, ◌<◌, ◌≤◌, ◌+◌, ◌^◌, ◌++◌, inl, inr, ℕ, Bool, true, List, [], ◌∷◌, length, get_or, map, Some, refl, sym, ap, subst, ◌∙◌, arith}
use Rattle.std.proofs.lemmas.Cmp.{eq_by_cmp_equiv, nat_list_cmp_total}
use Rattle.std.proofs.lemmas.List.{length-append, length-map}
use Rattle.std.proofs.lemmas.List.Elements.{Contains-append_left, Contains-append_right, Contains-get_or}
use Rattle.std.proofs.lemmas.Map.Keys.{IsDistinct-from_sorted}
use Rattle.std.proofs.lemmas.Map.Made.{is_member-Decides, length-le_from_is_member}
use Rattle.std.proofs.lemmas.Map.Text.{is_eq-slice_cmp}
use Rattle.std.proofs.lemmas.Map.Views.{length-le_from_below}
use Rattle.std.proofs.lemmas.Option.{slice_get-get_or, slice_get_within}
use Rattle.std.proofs.lemmas.Slice.Eq.{bytes_eq-Decides}
use Rattle.std.specs.Bool.{Decides}
use Rattle.std.specs.Cmp.Lexicographic.{slice_cmp}
use Rattle.std.specs.List.{Contains, slice_get}
use Rattle.std.specs.List.Sorted.{IsStrictlySortedBy}
use Rattle.std.specs.Ordering.{eq_by_cmp, nat_cmp}
use Rattle.addr_base.specs.Escapes.{escaped}
use Rattle.addr_images.specs.Limits.{Fits, RefusesCount, RefusesUpdate, UpdatePasses}
use Rattle.addr_images.specs.declared.limits.LimitErr.{LimitErr}
use Rattle.addr_images.specs.declared.limits.LimitErr.TheVariants as limits
use Rattle.addr_layout.proofs.DirectLemmas.{deps-same}
use Rattle.addr_layout.proofs.LimitLemmas.{few-entries}
use Rattle.addr_layout.proofs.RankLemmas.{same-some}
use Rattle.addr_layout.specs.Counts.{IsDepsCountOver, IsMembersCount}
use Rattle.addr_moving.specs.Kept.{AreKept, IsOfFixedGroup}
use Rattle.addr_needs.specs.Needed.{AreNeeds}
use Rattle.addr_pack.proofs.ListLemmas.{mapped_at}
use Rattle.addr_pack.specs.Laws.{FewBundles}
use Rattle.addr_pack.specs.Placement.{IsPlaced}
use Rattle.addr_pack.specs.declared.bundles.Plan.{Plan}
use Rattle.addr_pack.specs.declared.bundles.PlanBundle.{PlanBundle}
use Rattle.addr_project.specs.Kept.{IsKept}
use Rattle.addr_project.specs.Model.{Project}
use Rattle.addr_project.specs.declared.limit.Limit.{Limit}
use Rattle.addr_project.specs.declared.limit.Limit.TheVariants as limit
use Rattle.addr_project.specs.declared.model.Group.{Group}
use Rattle.addr_release.specs.Built.{IsFixedName}
use Rattle.addr_state.specs.Sound.{IsSound}
use Rattle.addr_state.specs.declared.model.State.{State}
use Rattle.addr_state.specs.declared.model.StateBundle.{StateBundle}
use Rattle.addr_update.specs.After.{NeedsAfter}
use Rattle.addr_update.specs.Laws.{EntriesSplit, PlansShare}
use Rattle.addr_update.specs.Moved.{Update, IsMovedNo, moved_name}
use Rattle.addr_update.specs.Placement.{IsKeptAs, IsSplit, IsUpdateBundle, IsUpdated, IsUpdatePlan, by_name}
use Rattle.addr_update.specs.declared.model.KeptBundle.{KeptBundle}
use Rattle.addr_walks.proofs.Lists.{Contains-here, Contains-later, Contains-map, Contains-slice_get, map-Contains, slice_get-Contains, sorted-map, sorted-once}
use Rattle.addr_walks.specs.Once.{AreOnce}
use Rattle.addr_walks.specs.Rows.{Edge}
use Rattle.addr_walks.specs.Walks.{IsListOf}
use Rattle.addr_patch.specs.FromCauses.{of_limit}
use Rattle.addr_patch.specs.Limits.{ReleasePasses}
use Rattle.addr_patch.specs.declared.error.UpdateErr.TheVariants.{TooLarge}
use Rattle.addr_patch.specs.within.Preparing.{IsDecided, RefusesPreparing}

-- ---- kept bundles

-- the group with the name of a fixed one is fixed
fixed-group : (p : Project) → IsKept p → (n : ℕ) (g : Group) (name : List ℕ) → slice_get p.groups n ≡ Some g → g.name ≡ name → IsFixedName p name → g.fixed ≡ true
fixed-group p kept n g name at named (h, here, fixed, other) =
    let there = slice_get-Contains p.groups h here in
    let same : n ≡ there.0 = kept.groups_once n there.0 name (mapped_at (λ (k : Group). k.name) p.groups n g at ∙ ap Some named) (mapped_at (λ (k : Group). k.name) p.groups there.0 h there.1 ∙ ap Some other) in
    let one : g ≡ h = same-some g h (sym at ∙ (ap (slice_get p.groups) same ∙ there.1)) in
    ap (λ (k : Group). k.fixed) one ∙ fixed

of-group : (u : Update) → IsKept u.project → IsSound u.state → (k : KeptBundle) (m : ℕ) (old : StateBundle) → IsKeptAs u k m old → IsOfFixedGroup u.project k
of-group u project sound k m old is =
    let (at, here, named) = is.stays in
    let front = (sound.formed m old at).name_front in
    record {
      group = is.group;
      at = is.group_at;
      fixed = fixed-group u.project project k.group is.group old.group is.group_at is.group_name named;
      begins = (front.0, is.name ∙ (front.1 ∙ ap (λ (name : List ℕ). (escaped name ++ 95 ∷ []) ++ front.0) (sym is.group_name)));
    }

pub state-once : (s : State) → IsSound s → AreOnce (map (λ (b : StateBundle). b.name) s.bundles)
state-once s sound = sorted-once nat_list_cmp_total (map (λ (b : StateBundle). b.name) s.bundles) sound.names_rise

-- what is kept can be placed
pub are-kept : (u : Update) → IsKept u.project → IsSound u.state → (kept : List KeptBundle) (moved : List ℕ) → IsSplit u kept moved → (AreOnce (map (λ (b : StateBundle). b.name) u.state.bundles) → AreOnce (map (λ (k : KeptBundle). k.name) kept))
    → AreKept u.project kept
are-kept u project sound kept moved split once = record {
  each = λ k here. (let (m, old, is) = split.bundles k here in of-group u project sound k m old is);
  once = once (state-once u.state sound);
}

-- so of lists that are the same
pub split-as : (u : Update) (kept mine : List KeptBundle) (moved own : List ℕ) → mine ≡ kept → own ≡ moved → IsSplit u kept moved → IsSplit u mine own
split-as u kept mine moved own same also split = subst (λ (ks : List KeptBundle). IsSplit u ks own) (sym same) (subst (IsSplit u kept) (sym also) split)

-- ---- few bundles

name-decides : (a b : List ℕ) → Decides (eq_by_cmp (slice_cmp nat_cmp) a b) (a ≡ b)
name-decides a b = subst (λ (t : Bool). Decides t (a ≡ b)) (sym (is_eq-slice_cmp a b)) (bytes_eq-Decides a b)

-- names that rise are no more than those among which they are
few-names : (xs ys : List (List ℕ)) → IsStrictlySortedBy (slice_cmp nat_cmp) xs → ((q : List ℕ) → Contains xs q → Contains ys q) → length xs ≤ length ys
few-names xs ys rising inside =
    length-le_from_is_member (eq_by_cmp_equiv nat_list_cmp_total) xs ys (IsDistinct-from_sorted (slice_cmp nat_cmp) xs rising)
    (λ q here. (is_member-Decides name-decides ys q).1 (inside q ((is_member-Decides name-decides xs q).0 here)))

abbrev bundle-name : PlanBundle → List ℕ
bundle-name b = b.name

abbrev old-name : StateBundle → List ℕ
old-name b = b.name

module _ (u : Update) (kept : List KeptBundle) (moved : List ℕ) (plan : Plan) (split : IsSplit u kept moved) (updated : IsUpdatePlan u.project u.now kept moved plan) where
  abbrev names : List (List ℕ)
  names = map bundle-name u.now.bundles ++ (moved_name ∷ map old-name u.state.bundles)

  one-of : (b : PlanBundle) → IsUpdateBundle u.project u.now kept moved b → Contains names b.name
  one-of b (inl (here, free)) = Contains-append_left (map bundle-name u.now.bundles) (moved_name ∷ map old-name u.state.bundles) b.name (Contains-map bundle-name u.now.bundles b here)
  one-of b (inr (inl (some, is))) =
      let same : moved_name ≡ b.name = sym (ap bundle-name is) in
      Contains-append_right (map bundle-name u.now.bundles) (moved_name ∷ map old-name u.state.bundles) b.name (subst (Contains (moved_name ∷ map old-name u.state.bundles)) same (Contains-here moved_name (map old-name u.state.bundles)))
  one-of b (inr (inr (k, here, is))) =
      let (m, old, as-kept) = split.bundles k here in
      let (at, fixed, named) = as-kept.stays in
      let same : old.name ≡ b.name = sym (ap bundle-name is ∙ as-kept.name) in
      Contains-append_right (map bundle-name u.now.bundles) (moved_name ∷ map old-name u.state.bundles) b.name
      (Contains-later moved_name (map old-name u.state.bundles) b.name (subst (Contains (map old-name u.state.bundles)) same (Contains-map old-name u.state.bundles old (Contains-slice_get u.state.bundles m old at))))

  among : (q : List ℕ) → Contains (map bundle-name plan.bundles) q → Contains names q
  among q here =
      let (b, there, is) = map-Contains bundle-name plan.bundles q here in
      subst (Contains names) is (one-of b (updated.within b there))

  pub few-plan : IsPlaced u.project u.now → FewBundles u.project → IsSound u.state → length plan.bundles < 2 ^ 31
  few-plan placed few sound =
      let rising = sorted-map by_name (slice_cmp nat_cmp) bundle-name plan.bundles (λ x y here there less. less) updated.rising in
      let fewer = few-names (map bundle-name plan.bundles) names rising among in
      let many = length-map plan.bundles bundle-name in
      let own = length-map u.now.bundles bundle-name in
      let old = length-map u.state.bundles old-name in
      let both = length-append (map bundle-name u.now.bundles) (moved_name ∷ map old-name u.state.bundles) in
      let now-few : length u.now.bundles ≤ 65536 = (few u.now placed).1 in
      let state-few : length u.state.bundles ≤ 65536 = sound.few in
      omega (arith, fewer, many, own, old, both, now-few, state-few)

-- few entries move
pub few-moved : (u : Update) → IsKept u.project → (moved : List ℕ) → IsListOf nat_cmp (IsMovedNo u) moved → length moved ≤ 65536
few-moved u project moved list =
    let entries = few-entries u.project project in
    let below = length-le_from_below (length u.project.entries) moved list.rising (λ k d inside. within (get_or moved k d) (list.within (get_or moved k d) (Contains-get_or moved k d inside))) in
    omega (arith, entries, below)
  where
    within : (x : ℕ) → IsMovedNo u x → x < length u.project.entries
    within x (a, g, (e, at, numbered, group), fixed, moves) = slice_get_within u.project.entries x e at

pub decided-from : (u : Update) → IsPlaced u.project u.now → IsSound u.state → EntriesSplit u.project → PlansShare u.project → FewBundles u.project → (kept : List KeptBundle) (moved : List ℕ) (plan : Plan) (count : ℕ)
    → IsSplit u kept moved → IsUpdatePlan u.project u.now kept moved plan → count ≡ length moved → IsDecided u (record { plan = plan; moved = count })
decided-from u placed sound splits shares few kept moved plan count split updated counted = record {
  kept = kept;
  moved = moved;
  split = split;
  updated = updated;
  few = few-plan u kept moved plan split updated placed few sound;
  shared = shares u.now plan kept moved placed ((splits u refl).1.can kept moved split) updated;
  counted = counted;
}

-- ---- needs

module _ (u : Update) (plan : Plan) (rows : List (List ℕ)) (are : AreNeeds u plan rows) where
  edge-after : (b c : ℕ) → Edge rows b c → NeedsAfter u plan b c
  edge-after b c (row, at, here) = (are.each b row at).within c here

  row-at : (b : ℕ) (bundle : PlanBundle) → slice_get plan.bundles b ≡ Some bundle → (row : List ℕ) × (slice_get rows b ≡ Some row)
  row-at b bundle at =
      let within : b < length rows = (let there = slice_get_within plan.bundles b bundle at in let many = are.as_many in omega (arith, there, many)) in
      (get_or rows b [], slice_get-get_or rows b [] within)

  after-edge : (b c : ℕ) → NeedsAfter u plan b c → Edge rows b c
  after-edge b c needs = let (row, at) = there needs in (row, at, (are.each b row at).all c needs)
    where
      there : NeedsAfter u plan b c → (row : List ℕ) × (slice_get rows b ≡ Some row)
      there (inl ((bundle, at, new), needed)) = row-at b bundle at
      there (inr ((bundle, at, kept), needed)) = row-at b bundle at

  -- counts over the rows are counts over what is needed
  pub count-after : (n : ℕ) → IsDepsCountOver (Edge rows) plan n → IsDepsCountOver (NeedsAfter u plan) plan n
  count-after n (lists, all, is) = (
    lists,
    record {
      as_many = all.as_many;
      each = λ b deps at. deps-same (Edge rows) (NeedsAfter u plan) edge-after after-edge b deps (all.each b deps at);
    },
    is,
  )

  pub fits-after : Fits (IsDepsCountOver (Edge rows) plan) limit.Deps → Fits (IsDepsCountOver (NeedsAfter u plan) plan) limit.Deps
  fits-after (n, counts, few) = (n, count-after n counts, few)

-- ---- the first limit that is passed

module _ (u : Update) (plan : Plan) (updated : IsUpdated u plan) where
  pub members-refused : (e : LimitErr) → RefusesCount (IsMembersCount u.project plan) limit.Members e → RefusesPreparing u (of_limit e)
  members-refused (limits.TooLarge which n) (is, passes) = subst (λ (w : Limit). RefusesPreparing u (TooLarge w n)) (sym is) (plan, updated, passes)
  members-refused limits.NoMemory refused = tt

  pub release-refused : (rows : List (List ℕ)) (e : LimitErr) → AreNeeds u plan rows → RefusesUpdate u.project plan (Edge rows) e → RefusesPreparing u (of_limit e)
  release-refused rows (limits.TooLarge which n) are refused = (plan, updated, by_limit which refused)
    where
      by_limit : (w : Limit) → UpdatePasses u.project plan (Edge rows) w n → ReleasePasses u plan w n
      by_limit limit.Members passes = passes
      by_limit limit.Deps (members, (counts, more)) = (members, (count-after u plan rows are n counts, more))
      by_limit limit.BundleBytes (members, deps, passes) = (members, fits-after u plan rows are deps, passes)
      by_limit _ passes = absurd passes
  release-refused rows limits.NoMemory are refused = tt
