-- Rows of needs: one more row, what a kept bundle's file names, and what the rows are of an update.
use Rattle.std.proofs.Common.{◌≡◌, ℕ, ◌+◌, ◌<◌, ◌⊎◌, inl, inr, Bool, true, false, List, [], ◌∷◌, ◌++◌, length, get_or, Option, Some, None, refl, sym, ap, subst, ◌∙◌, arith}
use Rattle.std.proofs.lemmas.List.{length_push}
use Rattle.std.proofs.lemmas.Option.{slice_get-get_or, slice_get_within}
use Rattle.std.specs.Bool.{MatchBool}
use Rattle.std.specs.List.{Contains, slice_get}
use Rattle.std.specs.Ordering.{nat_cmp}
use Rattle.addr_cab.specs.Lookup.{Held, object_bytes}
use Rattle.addr_cab.specs.declared.object.ObjectOut.{ObjectOut}
use Rattle.addr_cab.specs.declared.object.ObjectRow.{ObjectRow}
use Rattle.addr_layout.proofs.DirectLemmas as direct
use Rattle.addr_layout.proofs.RankLemmas.{same-some}
use Rattle.addr_layout.specs.Direct.{direct_lists}
use Rattle.addr_layout.specs.KeptBundles.{HaveDirect, IsKeptAt}
use Rattle.addr_layout.specs.Layout.{IsBare, IsFull, IsLayout}
use Rattle.addr_layout.specs.Needs.{Needs}
use Rattle.addr_layout.specs.declared.model.LayBundle.{LayBundle}
use Rattle.addr_layout.specs.declared.model.Layout.{Layout}
use Rattle.addr_pack.specs.Placement.{IsPlaced}
use Rattle.addr_pack.specs.declared.bundles.Plan.{Plan}
use Rattle.addr_pack.specs.declared.bundles.PlanBundle.{PlanBundle}
use Rattle.addr_project.proofs.OnceLemmas.{from_map, to_map}
use Rattle.addr_project.specs.Model.{Project}
use Rattle.addr_update.specs.After.{IsOldAt, NeedsAfter}
use Rattle.addr_update.specs.Moved.{IsUnfixed, Update}
use Rattle.addr_update.specs.Placement.{IsUpdated, kept_bundle, moved_bundle}
use Rattle.addr_update.specs.declared.model.KeptBundle.{KeptBundle}
use Rattle.addr_walks.proofs.Lists.{Contains-map, Contains-slice_get, IsListOf-same, map-Contains, slice_get-Contains, slice_get-push_cases}
use Rattle.addr_walks.proofs.Zips.{zip-left, zip-right}
use Rattle.addr_walks.specs.Rows.{AreBelow}
use Rattle.addr_walks.specs.Walks.{IsListOf}
use Rattle.addr_needs.specs.Needed.{AreNeeds, AreOfUpdate}
use Rattle.addr_needs.specs.Numbers.{AreNumbers}
use Rattle.addr_needs.specs.within.Naming.{AreRowsAt, FileNames, IsRowAt, ObjectNames}

-- ---- one row

-- what the file of the bundle with a number names
pub file-some : (plan : Plan) (cabs : List Held) (number : Option ℕ) (m b : ℕ) (held : Held) (row : List ℕ) → number ≡ Some m → slice_get cabs m ≡ Some held
    → IsListOf nat_cmp (ObjectNames plan b held.rows) row → IsListOf nat_cmp (FileNames plan cabs number b) row
file-some plan cabs number m b held row is at list = IsListOf-same (ObjectNames plan b held.rows) (FileNames plan cabs number b) (λ c names. (m, is, held, at, names)) back row list
  where
    back : (c : ℕ) → FileNames plan cabs number b c → ObjectNames plan b held.rows c
    back c (n, also, other, there, names) =
        let same : n ≡ m = same-some n m (sym also ∙ is) in
        let one : other ≡ held = same-some other held (sym there ∙ (ap (slice_get cabs) same ∙ at)) in
        subst (λ (h : Held). ObjectNames plan b h.rows c) one names

module _ (plan : Plan) (layout : Layout) (cabs : List Held) (numbers : List (Option ℕ)) where
  pub rows-none : AreRowsAt plan layout cabs numbers 0 []
  rows-none = record { many = refl; each = λ b bundle number row at number-at there. absurd (cc there) }

  pub rows-more : (k : ℕ) (bundle : PlanBundle) (number : Option ℕ) (row : List ℕ) (rows new : List (List ℕ)) → slice_get plan.bundles k ≡ Some bundle → slice_get numbers k ≡ Some number
      → IsRowAt plan layout cabs number k bundle.kept row → new ≡ rows ++ row ∷ [] → AreRowsAt plan layout cabs numbers k rows → AreRowsAt plan layout cabs numbers (k + 1) new
  rows-more k bundle number row rows new at number-at is same are = subst (AreRowsAt plan layout cabs numbers (k + 1)) (sym same) (record {
    many = (let more = length_push rows row in let old = are.many in omega (arith, more, old));
    each = λ b other n found there n-there found-at. by_side b other n found there n-there (slice_get-push_cases rows row b found found-at);
  })
    where
      by_side : (b : ℕ) (other : PlanBundle) (n : Option ℕ) (found : List ℕ) → slice_get plan.bundles b ≡ Some other → slice_get numbers b ≡ Some n
          → (slice_get rows b ≡ Some found) ⊎ ((b ≡ length rows) × (row ≡ found)) → IsRowAt plan layout cabs n b other.kept found
      by_side b other n found there n-there (inl old) = are.each b other n found there n-there old
      by_side b other n found there n-there (inr (last, one)) =
          let place : k ≡ b = sym (last ∙ are.many) in
          let same-bundle : bundle ≡ other = same-some bundle other (sym at ∙ (ap (slice_get plan.bundles) place ∙ there)) in
          let same-number : number ≡ n = same-some number n (sym number-at ∙ (ap (slice_get numbers) place ∙ n-there)) in
          subst (λ (x : PlanBundle). IsRowAt plan layout cabs n b x.kept found) same-bundle
          (subst (λ (x : Option ℕ). IsRowAt plan layout cabs x b bundle.kept found) same-number
          (subst (λ x. IsRowAt plan layout cabs number x bundle.kept found) place
          (subst (IsRowAt plan layout cabs number k bundle.kept) one is)))

-- ---- the numbers of kept bundles

-- each kept bundle of an update's placement is one of the state that stays
pub has-old : (u : Update) (plan : Plan) → IsPlaced u.project u.now → IsUpdated u plan → (b : ℕ) → IsKeptAt plan b → (m : ℕ) × IsOldAt u plan b m
has-old u plan placed (kept, moved, split, updated) b (bundle, at, is-kept) = by_case (updated.within bundle (Contains-slice_get plan.bundles b bundle at))
  where
    by_case : (Contains u.now.bundles bundle × IsUnfixed u.project bundle.group) ⊎ (((moved ≡ [] → ⊥) × (bundle ≡ moved_bundle u.project moved)) ⊎ ((k : KeptBundle) × Contains kept k × (bundle ≡ kept_bundle k))) → (m : ℕ) × IsOldAt u plan b m
    by_case (inl (here, free)) =
        let own = slice_get-Contains u.now.bundles bundle here in
        absurd (cc (sym is-kept ∙ (placed.classes own.0 bundle own.1).new))
    by_case (inr (inl (some, is))) = absurd (cc (sym is-kept ∙ ap (λ (x : PlanBundle). x.kept) is))
    by_case (inr (inr (k, here, is))) =
        let was = split.bundles k here in (
          was.0,
          record {
            bundle = bundle;
            at = at;
            kept = is-kept;
            old = was.1;
            stays = was.2.stays;
            name = ap (λ (x : PlanBundle). x.name) is ∙ was.2.name;
          },
        )

module _ (u : Update) (plan : Plan) (numbers : List (Option ℕ)) (are : AreNumbers u.state plan numbers) where
  -- the number of such a bundle is told
  pub number-is : (b m : ℕ) → IsOldAt u plan b m → slice_get numbers b ≡ Some (Some m)
  number-is b m is =
      let beside = zip-left _ plan.bundles numbers are b is.bundle is.at in
      beside.1 ∙ ap Some ((beside.2 m).1 (is.kept, (is.old, is.stays.0, sym is.name)))

  -- and what is told is such a bundle's
  pub is-old : IsPlaced u.project u.now → IsUpdated u plan → (b m : ℕ) → slice_get numbers b ≡ Some (Some m) → IsOldAt u plan b m
  is-old placed updated b m at =
      let beside = zip-right _ plan.bundles numbers are b (Some m) at in
      let named = (beside.2 m).0 refl in
      let old = has-old u plan placed updated b (beside.0, beside.1, named.0) in
      let same : old.0 ≡ m = same-some old.0 m (same-some (Some old.0) (Some m) (sym (number-is b old.0 old.1) ∙ at)) in
      subst (IsOldAt u plan b) same old.1

-- ---- all rows

module _ (p : Project) (plan : Plan) (layout : Layout) (cabs : List Held) (numbers : List (Option ℕ)) (rows : List (List ℕ)) (laid : IsLayout p plan layout)
    (many : length numbers ≡ length plan.bundles) (are : AreRowsAt plan layout cabs numbers (length plan.bundles) rows) where
  row-at : (b : ℕ) (bundle : PlanBundle) (row : List ℕ) → slice_get plan.bundles b ≡ Some bundle → slice_get rows b ≡ Some row
      → (number : Option ℕ) × (slice_get numbers b ≡ Some number) × IsRowAt plan layout cabs number b bundle.kept row
  row-at b bundle row at there =
      let within = slice_get_within plan.bundles b bundle at in
      let number-at = slice_get-get_or numbers b None (omega (arith, many, within)) in
      (get_or numbers b None, number-at, are.each b bundle (get_or numbers b None) row at number-at there)

  bundle-at : (b : ℕ) (row : List ℕ) → slice_get rows b ≡ Some row → (bundle : PlanBundle) × (slice_get plan.bundles b ≡ Some bundle)
  bundle-at b row there =
      let within = slice_get_within rows b row there in
      let as-many = are.many in
      (get_or plan.bundles b none, slice_get-get_or plan.bundles b none (omega (arith, as-many, within)))
    where
      none : PlanBundle
      none = record { name = []; group = 0; kept = false; entries = [] }

  new-row : (kept : Bool) (number : Option ℕ) (b : ℕ) (row : List ℕ) → kept ≡ false → IsRowAt plan layout cabs number b kept row → slice_get (direct_lists layout) b ≡ Some row
  new-row true number b row new is = absurd (cc new)
  new-row false number b row new is = is

  kept-row : (kept : Bool) (number : Option ℕ) (b : ℕ) (row : List ℕ) → kept ≡ true → IsRowAt plan layout cabs number b kept row → IsListOf nat_cmp (FileNames plan cabs number b) row
  kept-row false number b row kept is = absurd (cc kept)
  kept-row true number b row kept is = is

  pub direct-rows : HaveDirect plan layout rows
  direct-rows = record { as_many = are.many; new = λ b lay (bundle, at, new) lay-at. one b lay bundle at new lay-at }
    where
      one : (b : ℕ) (lay : LayBundle) (bundle : PlanBundle) → slice_get plan.bundles b ≡ Some bundle → bundle.kept ≡ false → slice_get layout.bundles b ≡ Some lay → slice_get rows b ≡ Some lay.direct
      one b lay bundle at new lay-at =
          let within = slice_get_within plan.bundles b bundle at in
          let as-many = are.many in
          let there = slice_get-get_or rows b [] (omega (arith, as-many, within)) in
          let found = row-at b bundle (get_or rows b []) at there in
          there ∙ (sym (new-row bundle.kept found.0 b (get_or rows b []) new found.2) ∙ to_map (λ (l : LayBundle). l.direct) layout.bundles b lay lay-at)

  pub rows-below : AreBelow rows (length rows)
  rows-below = record { each = λ b c (row, there, here). one b c row there here }
    where
      as-many : length rows ≡ length plan.bundles
      as-many = are.many

      named : {number : Option ℕ} {b : ℕ} (c : ℕ) → FileNames plan cabs number b c → c < length plan.bundles
      named c (m, is, held, at, (o, inside, (r, among, (apart, name, home, bundle, place, digits)))) = slice_get_within plan.bundles c bundle place

      by_kept : (kept : Bool) (number : Option ℕ) (b c : ℕ) (row : List ℕ) → IsRowAt plan layout cabs number b kept row → Contains row c → c < length plan.bundles
      by_kept true number b c row list here =
          named c (list.within c here)
      by_kept false number b c row is here =
          let below = (direct.below p plan layout laid).each b c (row, is, here) in
          let same = direct.as-many p plan layout laid in
          omega (arith, below, same)

      one : (b c : ℕ) (row : List ℕ) → slice_get rows b ≡ Some row → Contains row c → c < length rows
      one b c row there here =
          let bundle = bundle-at b row there in
          let found = row-at b bundle.0 row bundle.1 there in
          let small = by_kept bundle.0.kept found.0 b c row found.2 here in
          omega (arith, small, as-many)

  module _ (u : Update) (of : AreOfUpdate u p plan numbers cabs) where
    -- a new bundle's row
    full-row : (kept : Bool) (b : ℕ) (lay : LayBundle) → kept ≡ false → MatchBool kept (IsBare lay) (IsFull p plan b lay) → IsListOf nat_cmp (Needs p plan b) lay.direct
    full-row true b lay new bare = absurd (cc new)
    full-row false b lay new full = full.direct

    new-needs : (b : ℕ) (bundle : PlanBundle) (row : List ℕ) → slice_get plan.bundles b ≡ Some bundle → bundle.kept ≡ false → slice_get (direct_lists layout) b ≡ Some row → IsListOf nat_cmp (NeedsAfter u plan b) row
    new-needs b bundle row at new there =
        let lay = from_map (λ (l : LayBundle). l.direct) layout.bundles b row there in
        let is = laid.laid b lay.0 lay.1 in
        IsListOf-same (Needs p plan b) (NeedsAfter u plan b) to from row
        (subst (IsListOf nat_cmp (Needs p plan b)) lay.2 (full-row is.0.kept b lay.0 (ap (λ (x : PlanBundle). x.kept) (same-some is.0 bundle (sym is.1 ∙ at)) ∙ new) is.2))
      where
        to : (c : ℕ) → Needs p plan b c → NeedsAfter u plan b c
        to c needs = inl ((bundle, at, new), subst (λ (q : Project). Needs q plan b c) (sym of.project) needs)

        from : (c : ℕ) → NeedsAfter u plan b c → Needs p plan b c
        from c (inl (fresh, needs)) = subst (λ (q : Project). Needs q plan b c) of.project needs
        from c (inr ((other, place, kept), needs)) = absurd (cc (sym new ∙ (ap (λ (x : PlanBundle). x.kept) (same-some bundle other (sym at ∙ place)) ∙ kept)))

    -- a kept bundle's row
    kept-needs : (b : ℕ) (bundle : PlanBundle) (number : Option ℕ) (row : List ℕ) → slice_get plan.bundles b ≡ Some bundle → bundle.kept ≡ true → slice_get numbers b ≡ Some number
        → IsListOf nat_cmp (FileNames plan cabs number b) row → IsListOf nat_cmp (NeedsAfter u plan b) row
    kept-needs b bundle number row at kept number-at list = IsListOf-same (FileNames plan cabs number b) (NeedsAfter u plan b) to from row list
      where
        out : Held → ObjectRow → ObjectOut
        out held o = record { guid = o.guid; bytes = object_bytes held o; refs = o.refs }

        to : (c : ℕ) → FileNames plan cabs number b c → NeedsAfter u plan b c
        to c (m, is, held, place, (o, here, (r, among, (apart, name, home, other, there, digits)))) =
            let was = zip-right _ u.was cabs of.shows m held place in
            let old = is-old u plan numbers of.numbers of.placed of.updated b m (number-at ∙ ap Some is) in
            let inside : Contains was.0.objects (out held o) = subst (λ (os : List ObjectOut). Contains os (out held o)) (sym was.2) (Contains-map (out held) held.rows o here) in
            inr ((bundle, at, kept), (apart, m, old, (was.0, was.1, out held o, inside, r, among, name, home, other, there, digits)))

        from : (c : ℕ) → NeedsAfter u plan b c → FileNames plan cabs number b c
        from c (inl ((other, place, new), needs)) = absurd (cc (sym new ∙ (ap (λ (x : PlanBundle). x.kept) (same-some other bundle (sym place ∙ at)) ∙ kept)))
        from c (inr (is-kept, (apart, m, old, (opened, was-at, o, inside, r, among, name, home, other, there, digits)))) =
            let beside = zip-left _ u.was cabs of.shows m opened was-at in
            let held = beside.0 in
            let object = map-Contains (out held) held.rows o (subst (λ (os : List ObjectOut). Contains os o) beside.2 inside) in
            let number-is : number ≡ Some m = same-some number (Some m) (sym number-at ∙ number-is u plan numbers of.numbers b m old) in
            (m, number-is, held, beside.1, (object.0, object.1, (r, subst (λ (x : ObjectOut). Contains x.refs r) (sym object.2) among, (apart, name, home, other, there, digits))))

    pub rows-needs : AreNeeds u plan rows
    rows-needs = record { as_many = are.many; each = λ b row there. one b row there (bundle-at b row there) }
      where
        by_kept : (t : Bool) (b : ℕ) (bundle : PlanBundle) (row : List ℕ) → slice_get plan.bundles b ≡ Some bundle → bundle.kept ≡ t → (number : Option ℕ) → slice_get numbers b ≡ Some number
            → IsRowAt plan layout cabs number b bundle.kept row → IsListOf nat_cmp (NeedsAfter u plan b) row
        by_kept true b bundle row at kept number number-at is = kept-needs b bundle number row at kept number-at (kept-row bundle.kept number b row kept is)
        by_kept false b bundle row at new number number-at is = new-needs b bundle row at new (new-row bundle.kept number b row new is)

        one : (b : ℕ) (row : List ℕ) → slice_get rows b ≡ Some row → (bundle : PlanBundle) × (slice_get plan.bundles b ≡ Some bundle) → IsListOf nat_cmp (NeedsAfter u plan b) row
        one b row there (bundle, at) =
            let found = row-at b bundle row at there in
            by_kept bundle.kept b bundle row at refl found.0 found.1 found.2
