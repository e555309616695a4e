-- Kept entries by the bundles of the state: one more entry, one more bundle, and what they are of an update.
use Rattle.std.proofs.Common.{◌≡◌, ◌≢◌, ◌<◌, ◌≤◌, ◌+◌, ◌⊎◌, inl, inr, ℕ, zero, suc, true, List, [], ◌∷◌, ◌++◌, length, map, slice_set, Option, Some, None, refl, sym, ap, subst, ◌∙◌, arith}
use Rattle.std.proofs.lemmas.Bool.{cases_eq, cases_order}
use Rattle.std.proofs.lemmas.List.{map-append}
use Rattle.std.proofs.lemmas.List.Elements.{Contains-append_left, Contains-push, Contains-push_cases}
use Rattle.std.proofs.lemmas.Option.{slice_get_within}
use Rattle.std.specs.List.{AllZip, Contains, slice_get}
use Rattle.std.specs.List.Sorted.{IsStrictlySortedBy}
use Rattle.std.specs.Ordering.{nat_cmp}
use Rattle.addr_layout.proofs.RankLemmas.{same-some}
use Rattle.addr_locate.specs.Rows.{Rows}
use Rattle.addr_pack.specs.declared.bundles.Plan.{Plan}
use Rattle.addr_project.specs.declared.model.Group.{Group}
use Rattle.addr_project.specs.Model.{Project}
use Rattle.addr_release.specs.Built.{IsFixedName}
use Rattle.addr_release.specs.Opened.{Opened}
use Rattle.addr_state.specs.declared.model.State.{State}
use Rattle.addr_state.specs.declared.model.StateBundle.{StateBundle}
use Rattle.addr_update.specs.declared.model.KeptBundle.{KeptBundle}
use Rattle.addr_update.specs.declared.model.Why.{Why}
use Rattle.addr_update.specs.Moved.{IsKeptNo, Stays, Update}
use Rattle.addr_update.specs.Placement.{IsKeptAs, IsSplit}
use Rattle.addr_pack.proofs.ListLemmas.{mapped_at}
use Rattle.addr_release.proofs.NameLemmas.{once-push}
use Rattle.addr_walks.specs.Once.{AreOnce}
use Rattle.addr_walks.proofs.Lists.{map-Contains, Contains-none, Contains-slice_get, EachAt-none, IsListOf-same, slice_get-push_cases}
use Rattle.addr_walks.proofs.Zips.{zip-left}
use Rattle.addr_walks.specs.Places.{EachAt}
use Rattle.addr_walks.specs.Walks.{IsListOf}
use Rattle.addr_moves.specs.declared.fate.Fate.{Fate}
use Rattle.addr_moves.specs.declared.fate.Fate.TheVariants.{Free, Kept, Moves}
use Rattle.addr_moves.specs.Fates.{AreFates, comparing}
use Rattle.addr_moves.specs.Stays.{StaysAs}
use Rattle.addr_moves.specs.within.Split.{AreKeptRows, IsKeptFrom, KeptBelow, KeptUpTo, PutsKept, with_kept}
use Rattle.addr_moves.specs.within.Told.{ListsMoved}
use Rattle.addr_moves.proofs.ToldLemmas.{fate-kept, kept-fate, list-more, moved-list}

set-own : {X : Type 0} (xs : List X) (k : ℕ) (v : X) → k < length xs → slice_get (slice_set xs k v) k ≡ Some v
set-own [] k v small = absurd (omega arith)
set-own (x ∷ xs) zero v small = refl
set-own (x ∷ xs) (suc k) v small = set-own xs k v (omega arith)

set-other : {X : Type 0} (xs : List X) (k c : ℕ) (v : X) → k ≢ c → slice_get (slice_set xs k v) c ≡ slice_get xs c
set-other [] k c v other = refl
set-other (x ∷ xs) zero zero v other = absurd (other refl)
set-other (x ∷ xs) zero (suc c) v other = refl
set-other (x ∷ xs) (suc k) zero v other = refl
set-other (x ∷ xs) (suc k) (suc c) v other = set-other xs k c v (λ same. other (ap suc same))

-- ---- one entry

kept-number : Fate → ℕ
kept-number Free = 0
kept-number (Kept m) = m
kept-number (Moves why) = 0

same-kept : (m n : ℕ) → Kept m ≡ Kept n → m ≡ n
unfolding kept-number
same-kept m n same = ap kept-number same

pub puts-nothing : (fate : Fate) (x : ℕ) (rows : List (List ℕ)) → ((m : ℕ) → m < length rows → fate ≡ Kept m → ⊥) → PutsKept fate x rows rows
puts-nothing fate x rows never m row at = inl (never m (slice_get_within rows m row at), at)

pub puts-one : (x : ℕ) (rows : List (List ℕ)) (k : ℕ) (here : List ℕ) → slice_get rows k ≡ Some here → PutsKept (Kept k) x rows (slice_set rows k (here ++ x ∷ []))
puts-one x rows k here at m row there = by_number (cases_eq k m)
  where
    small : k < length rows
    small = slice_get_within rows k here at

    by_number : (k ≡ m) ⊎ (k ≡ m → ⊥) → ((Kept k ≡ Kept m → ⊥) × (slice_get rows m ≡ Some row)) ⊎ ((Kept k ≡ Kept m) × ((before : List ℕ) × (slice_get rows m ≡ Some before) × (row ≡ before ++ x ∷ [])))
    by_number (inl same) = inr (
      ap Kept same,
      (
        here,
        ap (slice_get rows) (sym same) ∙ at,
        same-some row (here ++ x ∷ []) (sym there ∙ (ap (slice_get (slice_set rows k (here ++ x ∷ []))) (sym same) ∙ set-own rows k (here ++ x ∷ []) small)),
      ),
    )
    by_number (inr other) = inl ((λ is. other (same-kept k m is)), sym (set-other rows k m (here ++ x ∷ []) other) ∙ there)

module _ (fates : List Fate) where
  empty-list : (m : ℕ) → IsListOf nat_cmp (KeptBelow fates 0 m) []
  unfolding IsStrictlySortedBy
  empty-list m = record { rising = tt; within = λ x here. absurd (Contains-none x here); all = λ x (less, at). absurd (omega (arith, less)) }

  pub rows-none : AreKeptRows fates 0 []
  rows-none = EachAt-none (λ m row. IsListOf nat_cmp (KeptBelow fates 0 m) row)

  pub rows-empty : (rows new : List (List ℕ)) (row : List ℕ) → row ≡ [] → new ≡ rows ++ row ∷ [] → AreKeptRows fates 0 rows → AreKeptRows fates 0 new
  rows-empty rows new row empty is each m other at = by_side (slice_get-push_cases rows row m other (ap (λ xs. slice_get xs m) (sym is) ∙ at))
    where
      by_side : (slice_get rows m ≡ Some other) ⊎ ((m ≡ length rows) × (row ≡ other)) → IsListOf nat_cmp (KeptBelow fates 0 m) other
      by_side (inl old) = each m other old
      by_side (inr (last, same)) = subst (IsListOf nat_cmp (KeptBelow fates 0 m)) (sym empty ∙ same) (empty-list m)

  or-last : (k m x : ℕ) → KeptBelow fates (k + 1) m x → KeptBelow fates k m x ⊎ (k ≡ x)
  or-last k m x (less, at) = by_order (cases_order x k)
    where
      by_order : (x ≡ k) ⊎ ((x < k) ⊎ (k < x)) → KeptBelow fates k m x ⊎ (k ≡ x)
      by_order (inl same) = inr (sym same)
      by_order (inr (inl before)) = inl (before, at)
      by_order (inr (inr after)) = absurd (omega (arith, less, after))

  pub rows-more : (k : ℕ) (fate : Fate) (rows new : List (List ℕ)) → slice_get fates k ≡ Some fate → PutsKept fate k rows new → AreKeptRows fates k rows → AreKeptRows fates (k + 1) new
  rows-more k fate rows new at puts each m row there = by_side (puts m row there)
    where
      same-below : (x : ℕ) → (fate ≡ Kept m → ⊥) → KeptBelow fates (k + 1) m x → KeptBelow fates k m x ⊎ (k ≡ x) → KeptBelow fates k m x
      same-below x never is (inl before) = before
      same-below x never (less, held) (inr same) = absurd (never (same-some fate (Kept m) (sym at ∙ (ap (slice_get fates) same ∙ held))))

      by_side : ((fate ≡ Kept m → ⊥) × (slice_get rows m ≡ Some row)) ⊎ ((fate ≡ Kept m) × ((before : List ℕ) × (slice_get rows m ≡ Some before) × (row ≡ before ++ k ∷ []))) → IsListOf nat_cmp (KeptBelow fates (k + 1) m) row
      by_side (inl (never, old)) = IsListOf-same (KeptBelow fates k m) (KeptBelow fates (k + 1) m) (λ x (less, held). (omega (arith, less), held)) (λ x is. same-below x never is (or-last k m x is)) row (each m row old)
      by_side (inr (is, (before, old, same))) = subst (IsListOf nat_cmp (KeptBelow fates (k + 1) m)) (sym same)
          (list-more (KeptBelow fates k m) (KeptBelow fates (k + 1) m) k before (λ x (less, held). less) (λ x (less, held). (omega (arith, less), held)) (omega arith, at ∙ ap Some is) (or-last k m) (each m before old))

  pub rows-all : (k : ℕ) (rows : List (List ℕ)) → length fates ≤ k → AreKeptRows fates k rows → AreKeptRows fates (length fates) rows
  rows-all k rows all each m row at = IsListOf-same (KeptBelow fates k m) (KeptBelow fates (length fates) m) (λ x (less, held). (slice_get_within fates x (Kept m) held, held)) (λ x (less, held). (omega (arith, less, all), held)) row (each m row at)

  -- ---- one bundle

  module _ (s : State) (p : Project) where
    pub kept-none : KeptUpTo s p fates 0 []
    kept-none = record {
      within = λ b here. absurd (Contains-none b here);
      all = λ m old less at here named. absurd (omega (arith, less));
      below = λ b here. absurd (Contains-none b here);
      once = λ state i j x at there. absurd (omega (arith, slice_get_within [] i x at));
    }

    row-list : (m : ℕ) (row : List ℕ) → IsListOf nat_cmp (KeptBelow fates (length fates) m) row → IsListOf nat_cmp (λ x. slice_get fates x ≡ Some (Kept m)) row
    row-list m row list = IsListOf-same (KeptBelow fates (length fates) m) (λ x. slice_get fates x ≡ Some (Kept m)) (λ x is. is.1) (λ x held. (slice_get_within fates x (Kept m) held, held)) row list

    -- a kept bundle has the name of one of the first bundles of the state
    abbrev IsNamedBelow : ℕ → KeptBundle → Type 0
    IsNamedBelow k b = (m : ℕ) × (old : StateBundle) × (m < k) × (slice_get s.bundles m ≡ Some old) × (b.name ≡ old.name)

    later : (k : ℕ) (kept : List KeptBundle) → ((b : KeptBundle) → Contains kept b → IsNamedBelow k b) → (b : KeptBundle) → Contains kept b → IsNamedBelow (k + 1) b
    later k kept below b here = let (m, old, less, at, same) = below b here in (m, old, omega (arith, less), at, same)

    apart-name : (k : ℕ) (old : StateBundle) → slice_get s.bundles k ≡ Some old → (kept : List KeptBundle) → ((b : KeptBundle) → Contains kept b → IsNamedBelow k b) → AreOnce (map (λ (b : StateBundle). b.name) s.bundles)
        → Contains (map (λ (b : KeptBundle). b.name) kept) old.name → ⊥
    apart-name k old at kept below state here =
        let from = map-Contains (λ (b : KeptBundle). b.name) kept old.name here in
        let (m, other, less, there, same) = below from.0 from.1 in
        let one : m ≡ k = state m k old.name (mapped_at (λ (b : StateBundle). b.name) s.bundles m other there ∙ ap Some (sym same ∙ from.2)) (mapped_at (λ (b : StateBundle). b.name) s.bundles k old at) in
        absurd (omega (arith, less, one))

    pub kept-more : (k : ℕ) (old : StateBundle) (group : Option ℕ) (row : List ℕ) (kept : List KeptBundle) → slice_get s.bundles k ≡ Some old → StaysAs s.fixed p old group
        → IsListOf nat_cmp (KeptBelow fates (length fates) k) row → KeptUpTo s p fates k kept → KeptUpTo s p fates (k + 1) (with_kept old group row kept)
    kept-more k old None row kept at never list up = record {
      within = up.within;
      all = λ m b less there here named. by_order m b less there here named (cases_order m k);
      below = λ b here. later k kept up.below b here;
      once = up.once;
    }
      where
        by_order : (m : ℕ) (b : StateBundle) → m < k + 1 → slice_get s.bundles m ≡ Some b → Contains s.fixed b.group → IsFixedName p b.group → (m ≡ k) ⊎ ((m < k) ⊎ (k < m))
            → (c : KeptBundle) × Contains kept c × IsKeptFrom s p fates c m b
        by_order m b less there here named (inl same) =
            let one : old ≡ b = same-some old b (sym at ∙ (ap (slice_get s.bundles) (sym same) ∙ there)) in
            absurd (never (subst (λ (x : StateBundle). Contains s.fixed x.group) (sym one) here) (subst (λ (x : StateBundle). IsFixedName p x.group) (sym one) named))
        by_order m b less there here named (inr (inl before)) = up.all m b before there here named
        by_order m b less there here named (inr (inr after)) = absurd (omega (arith, less, after))
    kept-more k old (Some n) row kept at (among, group) list up = record {
      within = λ b here. by_side b (Contains-push_cases kept new b here);
      all = λ m b less there here named. by_order m b less there here named (cases_order m k);
      below = λ b here. at_end b (Contains-push_cases kept new b here);
      once = λ state. subst AreOnce (sym (map-append name kept (new ∷ []))) (once-push (map name kept) old.name (up.once state) (apart-name k old at kept up.below state));
    }
      where
        new : KeptBundle
        new = record { name = old.name; group = n; entries = row }

        own : IsKeptFrom s p fates new k old
        own = record { at = at; named = among; name = refl; group = group.0; group_at = group.1; fixed = group.2; group_name = group.3; entries = row-list k row list }

        name : KeptBundle → List ℕ
        name b = b.name

        at_end : (b : KeptBundle) → Contains kept b ⊎ (new ≡ b) → IsNamedBelow (k + 1) b
        at_end b (inl here) = later k kept up.below b here
        at_end b (inr same) = (k, old, omega arith, at, ap name (sym same))

        by_side : (b : KeptBundle) → Contains kept b ⊎ (new ≡ b) → (m : ℕ) × (x : StateBundle) × IsKeptFrom s p fates b m x
        by_side b (inl here) = up.within b here
        by_side b (inr same) = (k, old, subst (λ c. IsKeptFrom s p fates c k old) same own)

        by_order : (m : ℕ) (b : StateBundle) → m < k + 1 → slice_get s.bundles m ≡ Some b → Contains s.fixed b.group → IsFixedName p b.group → (m ≡ k) ⊎ ((m < k) ⊎ (k < m))
            → (c : KeptBundle) × Contains (kept ++ new ∷ []) c × IsKeptFrom s p fates c m b
        by_order m b less there here named (inl same) =
            let one : old ≡ b = same-some old b (sym at ∙ (ap (slice_get s.bundles) (sym same) ∙ there)) in
            (new, Contains-push kept new, subst (λ i. IsKeptFrom s p fates new i b) (sym same) (subst (IsKeptFrom s p fates new k) one own))
        by_order m b less there here named (inr (inl before)) =
            let from = up.all m b before there here named in
            (from.0, Contains-append_left kept (new ∷ []) from.0 from.1, from.2)
        by_order m b less there here named (inr (inr after)) = absurd (omega (arith, less, after))

    pub kept-all : (k : ℕ) (kept : List KeptBundle) → length s.bundles ≤ k → KeptUpTo s p fates k kept → KeptUpTo s p fates (length s.bundles) kept
    kept-all k kept all up = record {
      within = up.within;
      all = λ m old less at here named. up.all m old (omega (arith, less, all)) at here named;
      below = λ b here. (let (m, old, less, at, same) = up.below b here in (m, old, slice_get_within s.bundles m old at, at, same));
      once = up.once;
    }

    -- ---- of an update

    module _ (was : List Opened) (r : Rows) (now : Plan) (are : AreFates (comparing s was r p now) fates) where
      u : Update
      u = comparing s was r p now

      kept-as : (b : KeptBundle) (m : ℕ) (old : StateBundle) → IsKeptFrom s p fates b m old → IsKeptAs (comparing s was r p now) b m old
      kept-as b m old from = record {
        stays = (from.at, from.named, (from.group, Contains-slice_get p.groups b.group from.group from.group_at, from.fixed, from.group_name));
        name = from.name;
        group = from.group;
        group_at = from.group_at;
        group_name = from.group_name;
        entries = IsListOf-same (λ x. slice_get fates x ≡ Some (Kept m)) (IsKeptNo (comparing s was r p now) m) (λ x held. fate-kept (comparing s was r p now) fates are x m held) (λ x no. kept-fate (comparing s was r p now) fates are x m no) b.entries from.entries;
      }

      pub split-from : (kept : List KeptBundle) (moved : List ℕ) → KeptUpTo s p fates (length s.bundles) kept → ListsMoved fates (length fates) moved → IsSplit (comparing s was r p now) kept moved
      split-from kept moved up list = record {
        bundles = λ b here. (let from = up.within b here in (from.0, from.1, kept-as b from.0 from.1 from.2));
        all = λ m old (at, here, named). (let from = up.all m old (slice_get_within s.bundles m old at) at here named in (from.0, from.1, kept-as from.0 m old from.2));
        moves = moved-list (comparing s was r p now) fates are moved list;
      }
