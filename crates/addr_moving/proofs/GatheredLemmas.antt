-- The bundles of an update's placement have names of their own, and are exactly those that are gathered.
use Rattle.std.proofs.Common.{◌≡◌, ◌≢◌, ◌<◌, ◌+◌, ◌++◌, ℕ, ◌⊎◌, inl, inr, Bool, true, false, not, List, [], ◌∷◌, length, get_or, map, take, codes, Option, Some, None, Less, refl, sym, ap, subst, ◌∙◌, append_assoc, arith}
use Rattle.std.proofs.lemmas.Bool.{false≢true}
use Rattle.std.proofs.lemmas.List.{take_more, map-append}
use Rattle.std.proofs.lemmas.List.Elements.{Contains-append_cases, Contains-append_left, Contains-append_right, filter-append}
use Rattle.std.proofs.lemmas.List.Sorted.{Contains-permutation, IsPermutation-sym}
use Rattle.std.proofs.lemmas.Map.Keys.{IsDistinct-from_apart, IsDistinct-from_sorted}
use Rattle.std.proofs.lemmas.Option.{slice_get-get_or}
use Rattle.std.specs.Cmp.Lexicographic.{bytes_decides, slice_cmp}
use Rattle.std.specs.List.{AllByRecursion, Contains, filter, slice_get}
use Rattle.std.specs.List.Sorted.{IsPermutation, IsSortedBy, IsStrictlySortedBy}
use Rattle.std.specs.Ordering.{eq_by_cmp, is_lt, nat_cmp}
use Rattle.addr_base.specs.Escapes.{escaped, escaped_byte}
use Rattle.addr_layout.proofs.RankLemmas.{same-some}
use Rattle.addr_moving.specs.Kept.{AreKept}
use Rattle.addr_moving.specs.within.Gathered.{gathered, is_free, is_unfixed, moved_bundles}
use Rattle.addr_moving.proofs.NameLemmas.{NamedApart, apart-append, apart-sorted, differ, rises}
use Rattle.addr_pack.specs.BundleNames.{BeginsWith, beginning, moved_name}
use Rattle.addr_pack.specs.Laws.{BeginningsTell, GroupNames}
use Rattle.addr_pack.specs.Placement.{IsPlaced}
use Rattle.addr_pack.specs.declared.bundles.Plan.{Plan}
use Rattle.addr_pack.specs.declared.bundles.PlanBundle.{PlanBundle}
use Rattle.addr_pack.proofs.ListLemmas.{holds_at, mapped_at, unmapped_at}
use Rattle.addr_pack.proofs.NameLemmas.{texts_apart}
use Rattle.addr_project.specs.Kept.{IsKept}
use Rattle.addr_project.specs.Model.{Project}
use Rattle.addr_project.specs.Faults.{is_reserved}
use Rattle.addr_project.specs.declared.model.Group.{Group}
use Rattle.addr_update.specs.Moved.{IsUnfixed}
use Rattle.addr_update.specs.Placement.{IsUpdateBundle, by_name, kept_bundle, moved_bundle}
use Rattle.addr_update.specs.declared.model.KeptBundle.{KeptBundle}
use Rattle.addr_walks.specs.Walks.{IsListOf}
use Rattle.addr_walks.proofs.Lists.{Contains-filter, Contains-here, Contains-cases, Contains-map, Contains-none, IsListOf-filter, filter-Contains, map-Contains, slice_get-Contains}

-- ---- names

reserved_spelled : moved_name ≡ escaped (codes "Content Update") ++ (95 ∷ codes "assets_all")
unfolding escaped_byte
reserved_spelled = refl

-- a name that begins as those of a group do, cut where the group's name ends
cut-name : (g : Group) (name rest : List ℕ) → name ≡ beginning g ++ rest → name ≡ escaped g.name ++ (95 ∷ rest)
cut-name g name rest is = is ∙ append_assoc (escaped g.name) (95 ∷ []) rest

-- is not that of the moved entries' bundle
not-moved : (g : Group) (name : List ℕ) → is_reserved g ≡ false → BeginsWith (beginning g) name → name ≢ moved_name
not-moved g name free (rest, begins) moved =
    let cut = texts_apart g.name (codes "Content Update") (95 ∷ rest) (95 ∷ codes "assets_all") (inr (rest, refl)) (inr (codes "assets_all", refl)) (sym (cut-name g name rest begins) ∙ moved ∙ reserved_spelled) in
    false≢true (sym free ∙ (bytes_decides g.name (codes "Content Update")).1 cut.0)

-- ---- the project's own in the order of names

all-names : (b : PlanBundle) (xs : List PlanBundle) → AllByRecursion (λ n. slice_cmp nat_cmp b.name n ≡ Less) (map (λ (x : PlanBundle). x.name) xs) → AllByRecursion (λ y. by_name b y ≡ Less) xs
all-names b [] all = tt
all-names b (x ∷ xs) all = (all.0, all-names b xs all.1)

names-rise : (xs : List PlanBundle) → IsStrictlySortedBy (slice_cmp nat_cmp) (map (λ (x : PlanBundle). x.name) xs) → IsStrictlySortedBy by_name xs
unfolding IsStrictlySortedBy
names-rise [] rising = tt
names-rise (x ∷ xs) rising = (all-names x xs rising.0, names-rise xs rising.1)

in-moved : (p : Project) (xs : List ℕ) (b : PlanBundle) → Contains (moved_bundles p xs) b → (xs ≢ []) × (b ≡ moved_bundle p xs)
in-moved p [] b here = absurd (Contains-none b here)
in-moved p (x ∷ xs) b here = ((λ none. absurd (cc none)), by_place (Contains-cases (moved_bundle p (x ∷ xs)) [] b here))
  where
    by_place : (moved_bundle p (x ∷ xs) ≡ b) ⊎ Contains [] b → b ≡ moved_bundle p (x ∷ xs)
    by_place (inl same) = sym same
    by_place (inr none) = absurd (Contains-none b none)

moved-in : (p : Project) (xs : List ℕ) (b : PlanBundle) → xs ≢ [] → b ≡ moved_bundle p xs → Contains (moved_bundles p xs) b
moved-in p [] b some is = absurd (some refl)
moved-in p (x ∷ xs) b some is = subst (Contains (moved_bundles p (x ∷ xs))) (sym is) (Contains-here (moved_bundle p (x ∷ xs)) [])

pub moved-there : (p : Project) (xs : List ℕ) (b : PlanBundle) → (length xs ≡ 0 → ⊥) → b ≡ moved_bundle p xs → b ∷ [] ≡ moved_bundles p xs
moved-there p [] b some is = absurd (some refl)
moved-there p (x ∷ xs) b some is = ap (λ (c : PlanBundle). c ∷ []) is

moved-apart : (p : Project) (xs : List ℕ) → NamedApart (moved_bundles p xs)
moved-apart p [] = IsDistinct-from_apart (eq_by_cmp by_name) [] (λ i j d less small. absurd (omega (arith, less, small)))
moved-apart p (x ∷ xs) = IsDistinct-from_apart (eq_by_cmp by_name) (moved_bundle p (x ∷ xs) ∷ []) (λ i j d less small. absurd (omega (arith, less, small)))

module _ (p : Project) (project : IsKept p) (names : GroupNames p) (tell : BeginningsTell p) (now : Plan) (placed : IsPlaced p now) (kept : List KeptBundle) (are : AreKept p kept) (moved : List ℕ) where
  -- ---- what is free

  free-group : (o : Option Group) → is_free o ≡ true → (g : Group) × (o ≡ Some g) × (g.fixed ≡ false)
  free-group None is = absurd (false≢true is)
  free-group (Some g) is = (g, refl, not-true g.fixed is)
    where
      not-true : (t : Bool) → not t ≡ true → t ≡ false
      not-true false passes = refl
      not-true true passes = absurd (false≢true passes)

  unfixed : (b : PlanBundle) → is_unfixed p b ≡ true → IsUnfixed p b.group
  unfixed b is = free-group (slice_get p.groups b.group) is

  is-unfixed : (b : PlanBundle) → IsUnfixed p b.group → is_unfixed p b ≡ true
  is-unfixed b (g, at, free) = ap is_free at ∙ ap not free

  -- ---- names of different kinds differ

  own-kept : (b : PlanBundle) (k : KeptBundle) → Contains now.bundles b → IsUnfixed p b.group → Contains kept k → b.name ≡ k.name → ⊥
  own-kept b k here (g, at, free) there same =
      let number = slice_get-Contains now.bundles b here in
      let named = names now placed number.0 b number.1 in
      let of = are.each k there in
      let one = tell b.group k.group named.group of.group b.name named.at of.at named.begins (subst (BeginsWith (beginning of.group)) (sym same) of.begins) in
      let groups : g ≡ of.group = same-some g of.group (sym at ∙ (ap (slice_get p.groups) one ∙ of.at)) in
      false≢true (sym free ∙ (ap (λ (h : Group). h.fixed) groups ∙ of.fixed))

  own-moved : (b : PlanBundle) → Contains now.bundles b → b.name ≢ moved_name
  own-moved b here = let number = slice_get-Contains now.bundles b here in (names now placed number.0 b number.1).not_moved

  kept-moved : (k : KeptBundle) → Contains kept k → k.name ≢ moved_name
  kept-moved k here = let of = are.each k here in not-moved of.group k.name (holds_at (λ (g : Group). is_reserved g ≡ false) p.groups k.group of.group project.none_reserved of.at) of.begins

  -- ---- each kind has names that differ

  abbrev free : List PlanBundle
  free = filter (is_unfixed p) now.bundles

  abbrev stay : List PlanBundle
  stay = map kept_bundle kept

  free-apart : NamedApart free
  free-apart = IsDistinct-from_sorted by_name free (IsListOf-filter (Contains now.bundles) (is_unfixed p) now.bundles (record { rising = names-rise now.bundles placed.by_name; within = λ x here. here; all = λ x here. here })).rising

  kept-name : (i : ℕ) (b : PlanBundle) → slice_get stay i ≡ Some b → slice_get (map (λ (k : KeptBundle). k.name) kept) i ≡ Some b.name
  kept-name i b at =
      let from = unmapped_at kept_bundle kept i b at in
      mapped_at (λ (k : KeptBundle). k.name) kept i from.0 from.1 ∙ ap (λ (x : PlanBundle). Some x.name) from.2

  stay-apart : NamedApart stay
  stay-apart = IsDistinct-from_apart (eq_by_cmp by_name) stay (λ i j d less small.
      let x = get_or stay i d in
      let y = get_or stay j d in
      let first = kept-name i x (slice_get-get_or stay i d (omega (arith, less, small))) in
      let second = kept-name j y (slice_get-get_or stay j d small) in
      differ x y (λ same. let one = are.once i j x.name first (second ∙ ap Some (sym same)) in absurd (omega (arith, less, one))))

  free-moved : (x y : PlanBundle) → Contains free x → Contains (moved_bundles p moved) y → x.name ≡ y.name → ⊥
  free-moved x y here there same =
      let own = filter-Contains (is_unfixed p) now.bundles x here in
      own-moved x own.0 (same ∙ ap (λ (b : PlanBundle). b.name) (in-moved p moved y there).1)

  with-kept : (x y : PlanBundle) → Contains (free ++ moved_bundles p moved) x → Contains stay y → x.name ≡ y.name → ⊥
  with-kept x y here there same = by_kind (Contains-append_cases free (moved_bundles p moved) x here)
    where
      from : (k : KeptBundle) × Contains kept k × (kept_bundle k ≡ y)
      from = map-Contains kept_bundle kept y there

      named : from.0.name ≡ y.name
      named = ap (λ (b : PlanBundle). b.name) from.2

      by_kind : Contains free x ⊎ Contains (moved_bundles p moved) x → ⊥
      by_kind (inl own) = (let is = filter-Contains (is_unfixed p) now.bundles x own in own-kept x from.0 is.0 (unfixed x is.1) from.1 (same ∙ sym named))
      by_kind (inr other) = kept-moved from.0 from.1 (named ∙ (sym same ∙ ap (λ (b : PlanBundle). b.name) (in-moved p moved x other).1))

  all-apart : NamedApart (gathered p now kept moved)
  all-apart = apart-append (free ++ moved_bundles p moved) stay (apart-append free (moved_bundles p moved) free-apart (moved-apart p moved) free-moved) stay-apart with-kept

  -- ---- what is gathered

  within : (b : PlanBundle) → Contains (gathered p now kept moved) b → IsUpdateBundle p now kept moved b
  within b here = by_kept (Contains-append_cases (free ++ moved_bundles p moved) stay b here)
    where
      by_own : Contains free b ⊎ Contains (moved_bundles p moved) b → IsUpdateBundle p now kept moved b
      by_own (inl own) = (let is = filter-Contains (is_unfixed p) now.bundles b own in inl (is.0, unfixed b is.1))
      by_own (inr other) = inr (inl (in-moved p moved b other))

      by_kept : Contains (free ++ moved_bundles p moved) b ⊎ Contains stay b → IsUpdateBundle p now kept moved b
      by_kept (inl first) = by_own (Contains-append_cases free (moved_bundles p moved) b first)
      by_kept (inr later) = (let from = map-Contains kept_bundle kept b later in inr (inr (from.0, from.1, sym from.2)))

  all : (b : PlanBundle) → IsUpdateBundle p now kept moved b → Contains (gathered p now kept moved) b
  all b (inl (here, open')) = Contains-append_left (free ++ moved_bundles p moved) stay b (Contains-append_left free (moved_bundles p moved) b (Contains-filter (is_unfixed p) now.bundles b here (is-unfixed b open')))
  all b (inr (inl (some, is))) = Contains-append_left (free ++ moved_bundles p moved) stay b (Contains-append_right free (moved_bundles p moved) b (moved-in p moved b some is))
  all b (inr (inr (k, here, is))) = Contains-append_right (free ++ moved_bundles p moved) stay b (subst (Contains stay) (sym is) (Contains-map kept_bundle kept k here))

  pub plan-lists : (sorted : List PlanBundle) → IsPermutation (gathered p now kept moved) sorted → IsSortedBy (λ x y. is_lt (by_name x y)) sorted → IsListOf by_name (IsUpdateBundle p now kept moved) sorted
  plan-lists sorted moves up = record {
    rising = rises sorted up (apart-sorted (gathered p now kept moved) sorted moves all-apart);
    within = λ b here. within b (Contains-permutation sorted (gathered p now kept moved) b (IsPermutation-sym (gathered p now kept moved) sorted moves) here);
    all = λ b is. Contains-permutation (gathered p now kept moved) sorted b moves (all b is);
  }

-- ---- gathering, step by step

pub unfixed-more : (p : Project) (xs : List PlanBundle) (i : ℕ) (x : PlanBundle) (old new : List PlanBundle) → i < length xs → x ≡ get_or xs i x → old ≡ filter (is_unfixed p) (take i xs) → new ≡ old ++ filter (is_unfixed p) (x ∷ [])
    → new ≡ filter (is_unfixed p) (take (i + 1) xs)
unfixed-more p xs i x old new small read sofar is =
    let longer : take (i + 1) xs ≡ take i xs ++ x ∷ [] = take_more xs i x small ∙ ap (λ z. take i xs ++ z ∷ []) (sym read) in
    is ∙ (ap (λ zs. zs ++ filter (is_unfixed p) (x ∷ [])) sofar ∙ (sym (filter-append (is_unfixed p) (take i xs) (x ∷ [])) ∙ ap (filter (is_unfixed p)) (sym longer)))

pub kept-more : (start : List PlanBundle) (ks : List KeptBundle) (i : ℕ) (k : KeptBundle) (b : PlanBundle) (old new : List PlanBundle) → i < length ks → k ≡ get_or ks i k → old ≡ start ++ map kept_bundle (take i ks) → b ≡ kept_bundle k
    → new ≡ old ++ b ∷ [] → new ≡ start ++ map kept_bundle (take (i + 1) ks)
kept-more start ks i k b old new small read sofar is pushed =
    let longer : take (i + 1) ks ≡ take i ks ++ k ∷ [] = take_more ks i k small ∙ ap (λ z. take i ks ++ z ∷ []) (sym read) in
    let mapped : map kept_bundle (take (i + 1) ks) ≡ map kept_bundle (take i ks) ++ kept_bundle k ∷ [] = ap (map kept_bundle) longer ∙ map-append kept_bundle (take i ks) (k ∷ []) in
    pushed ∙ (ap (λ zs. zs ++ b ∷ []) sofar ∙ (append_assoc start (map kept_bundle (take i ks)) (b ∷ []) ∙ (ap (λ z. start ++ (map kept_bundle (take i ks) ++ z ∷ [])) is ∙ ap (λ zs. start ++ zs) (sym mapped))))
