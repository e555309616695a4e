-- The unfolding from the numbers that a search finds.
use Rattle.std.proofs.Common.{◌≡◌, ◌<◌, ◌≤◌, ℕ, List, [], ◌∷◌, get_or, Option, Some, Less, Equal, Greater, refl, ap, ap₂, subst, sym, ◌∙◌, ◌⊎◌, inl, inr, arith}
use Rattle.std.specs.List.{AllZip, Contains, slice_get}
use Rattle.std.specs.List.Sorted.{IsStrictlySortedBy}
use Rattle.std.specs.Ordering.{MatchOrdering, nat_cmp}
use Rattle.std.proofs.lemmas.Bool.{cases_order}
use Rattle.std.proofs.Common.{Bool, true, false}
use Rattle.std.proofs.lemmas.Bool.Decides.{nat_tests}
use Rattle.std.specs.declared.cmp.Ordering.{Ordering}
use Rattle.std.specs.Str.{bytes_eq}
use Rattle.std.proofs.lemmas.Bool.{false≢true}
use Rattle.std.proofs.lemmas.Cmp.{tied_itself, ranked}
use Rattle.std.proofs.lemmas.List.Elements.{recursion_from_All, Contains-get_or}
use Rattle.std.proofs.lemmas.Map.Keys.{sorted_tail}
use Rattle.std.proofs.lemmas.Option.{get_or_from_slice_get}
use Rattle.std.proofs.lemmas.Slice.Eq.{bytes_eq-Decides}
use Rattle.addr_walks.proofs.Zips.{zip-here, zip-there}
use Rattle.addr_walks.proofs.Lists.{above-head}
use Rattle.addr_base.specs.declared.ids.Guid.{Guid}
use Rattle.addr_cab.specs.declared.object.ObjectOut.{ObjectOut}
use Rattle.addr_layout.specs.Agreement.{Place, place}
use Rattle.addr_layout.proofs.GuidLemmas.{guid_total, same-guid}
use Rattle.addr_layout.proofs.RankLemmas.{same-some}
use Rattle.addr_project.specs.Reach.{Item, guid_cmp, item_cmp}
use Rattle.addr_walks.specs.Rows.{Edge, LedTo}
use Rattle.addr_walks.specs.Walks.{IsListOf, Leads}
use Rattle.addr_walks.specs.Walks.Leads.{stays, goes}
use Rattle.addr_walks.proofs.Lists.{Contains-here, Contains-later, Contains-cases, Contains-none}
use Rattle.addr_release.specs.Opened.{Opened, Holds, Jumps, ShowsAt, item_of_object, IsWhole, Taken, IsUnfolding}
use Rattle.addr_release.proofs.NamedLemmas.{one-home}
use Rattle.addr_resolve.specs.Graph.{Before, Finds, IsComplete, IsFirst, IsGraph, ShowsNumber, place_at}
use Rattle.addr_resolve.specs.declared.graph.PlaceRow.{PlaceRow}

abbrev pub no-place : PlaceRow
no-place = record { guid = record { 0 = [] }; bundle = 0 }

pub nat-less : (x y : ℕ) → nat_cmp x y ≡ Less → x < y
nat-less x y less = by_order (nat_cmp x y) (ranked x y (nat_cmp x y) refl) less
  where
    by_order : (o : Ordering) → MatchOrdering o (x < y) (x ≡ y) (y < x) → o ≡ Less → x < y
    by_order Less holds same = holds
    by_order Equal holds same = absurd (cc same)
    by_order Greater holds same = absurd (cc same)

pub less-nat : (x y : ℕ) → x < y → nat_cmp x y ≡ Less
less-nat x y less = grind (arith, nat_tests)

-- the first of some ascending numbers that passes a test
pub first-with : (test : ℕ → Bool) (xs : List ℕ) → IsStrictlySortedBy nat_cmp xs → (n : ℕ) → Contains xs n → test n ≡ true
    → (m : ℕ) × Contains xs m × (test m ≡ true) × ((k : ℕ) → Contains xs k → k < m → test k ≡ true → ⊥) × (m ≤ n)
first-with test [] rising n here passes = absurd (Contains-none n here)
first-with test (x ∷ xs) rising n here passes = by_test (test x) refl (Contains-cases x xs n here) (λ later. first-with test xs (sorted_tail nat_cmp x xs rising) n later passes)
  where
    above : (k : ℕ) → Contains (x ∷ xs) k → x ≤ k
    above k among = by_case (Contains-cases x xs k among)
      where
        by_case : (x ≡ k) ⊎ Contains xs k → x ≤ k
        by_case (inl same) = omega arith
        by_case (inr later) = let less = nat-less x k (above-head nat_cmp x xs k rising later) in omega arith

    further : test x ≡ false → (m : ℕ) × Contains xs m × (test m ≡ true) × ((k : ℕ) → Contains xs k → k < m → test k ≡ true → ⊥) × (m ≤ n) → (m : ℕ) × Contains (x ∷ xs) m × (test m ≡ true) × ((k : ℕ) → Contains (x ∷ xs) k → k < m → test k ≡ true → ⊥) × (m ≤ n)
    further fails (m, among, is, least, upto) = (m, Contains-later x xs m among, is, λ k beside less too. by_place k (Contains-cases x xs k beside) less too, upto)
      where
        by_place : (k : ℕ) → (x ≡ k) ⊎ Contains xs k → k < m → test k ≡ true → ⊥
        by_place k (inl same) less too = false≢true (sym fails ∙ (ap test same ∙ too))
        by_place k (inr later) less too = least k later less too

    by_test : (t : Bool) → test x ≡ t → (x ≡ n) ⊎ Contains xs n → (Contains xs n → (m : ℕ) × Contains xs m × (test m ≡ true) × ((k : ℕ) → Contains xs k → k < m → test k ≡ true → ⊥) × (m ≤ n)) → (m : ℕ) × Contains (x ∷ xs) m × (test m ≡ true) × ((k : ℕ) → Contains (x ∷ xs) k → k < m → test k ≡ true → ⊥) × (m ≤ n)
    by_test true is place more = (x, Contains-here x xs, is, λ k among less too. (let low = above k among in omega arith), above n here)
    by_test false is (inl same) more = absurd (false≢true (sym is ∙ (ap test same ∙ passes)))
    by_test false is (inr later) more = further is (more later)

-- partners of ascending numbers ascend, where two of them do
zip-sorted : {B : Type 0} {cmp : B → B → Ordering} (R : ℕ → B → Type 0) (xs : List ℕ) (ys : List B) → ((m n : ℕ) (i j : B) → Contains xs m → Contains xs n → R m i → R n j → m < n → cmp i j ≡ Less) → IsStrictlySortedBy nat_cmp xs → AllZip R xs ys → IsStrictlySortedBy cmp ys
unfolding IsStrictlySortedBy
zip-sorted R [] [] keeps rising zipped = tt
zip-sorted R [] (y ∷ ys) keeps rising zipped = absurd zipped
zip-sorted R (x ∷ xs) [] keeps rising zipped = absurd zipped
zip-sorted {B} {cmp} R (x ∷ xs) (y ∷ ys) keeps rising zipped = (
  recursion_from_All (λ z. cmp y z ≡ Less) ys (λ k d within. above (get_or ys k d) (Contains-get_or ys k d within)),
  zip-sorted R xs ys (λ m n i j here there. keeps m n i j (Contains-later x xs m here) (Contains-later x xs n there)) rising.1 zipped.1,
)
  where
    above : (z : B) → Contains ys z → cmp y z ≡ Less
    above z here =
        let from = zip-there R xs ys z zipped.1 here in
        keeps x from.0 y z (Contains-here x xs) (Contains-later x xs from.0 from.1) zipped.0 from.2 (nat-less x from.0 (above-head nat_cmp x xs from.0 rising from.1))

module _ (files : List Opened) (places : List PlaceRow) (rows : List (List ℕ)) (lost : List (Option Guid)) (graph : IsGraph files places rows lost) where
  -- walks over numbers find what walks over places find
  walk-up : (m n : ℕ) (q : PlaceRow) → slice_get places m ≡ Some q → Leads (Edge rows) m n → (s : PlaceRow) × (slice_get places n ≡ Some s) × Leads (Finds files) (place_at q) (place_at s)
  walk-up m n q at stays = (q, at, stays)
  walk-up m n q at (goes {x = x} {y = y} before last) =
      let sofar = walk-up m x q at before in
      let next = graph.up x y sofar.0 sofar.1 last in
      (next.0, next.1, goes sofar.2 next.2)

  walk-down : (m : ℕ) (q : PlaceRow) (s : Place) → slice_get places m ≡ Some q → Leads (Finds files) (place_at q) s → (n : ℕ) × (row : PlaceRow) × (slice_get places n ≡ Some row) × (place_at row ≡ s) × Leads (Edge rows) m n
  walk-down m q s at stays = (m, q, at, refl, stays)
  walk-down m q s at (goes {x = x} {y = y} before last) =
      let sofar = walk-down m q x at before in
      let step = graph.down sofar.0 sofar.1 y sofar.2 (subst (λ w. Finds files w y) (sym sofar.3) last) in
      (step.0, step.1, step.2, step.3, goes sofar.4 step.4)

  module _ (first : ℕ) (start : PlaceRow) (begins : slice_get places first ≡ Some start) (found : List ℕ) (list : IsListOf nat_cmp (LedTo rows (first ∷ [])) found) where
    led : (n : ℕ) → Contains found n → Leads (Edge rows) first n
    led n here = by_seed (list.within n here)
      where
        by_seed : LedTo rows (first ∷ []) n → Leads (Edge rows) first n
        by_seed (seed, among, walk) = by_case (Contains-cases first [] seed among)
          where
            by_case : (first ≡ seed) ⊎ Contains [] seed → Leads (Edge rows) first n
            by_case (inl same) = subst (λ k. Leads (Edge rows) k n) (sym same) walk
            by_case (inr none) = absurd (Contains-none seed none)

    -- a number that is found is that of a place to which what is found leads
    pub found-place : (n : ℕ) → Contains found n → (q : PlaceRow) × (slice_get places n ≡ Some q) × Leads (Finds files) (place_at start) (place_at q)
    found-place n here = walk-up first n start begins (led n here)

    pub place-found : (s : Place) → Leads (Finds files) (place_at start) s → (n : ℕ) × (row : PlaceRow) × (slice_get places n ≡ Some row) × (place_at row ≡ s) × Contains found n
    place-found s walk =
        let down = walk-down first start s begins walk in
        (down.0, down.1, down.2, down.3, list.all down.0 (first, Contains-here first [], down.4))

    pub jumps : (q s : Place) → Leads (Finds files) q s → Leads (Jumps files) q s
    jumps q s stays = stays
    jumps q s (goes {x = x} {y = y} before last) = goes (jumps q x before) last.0

    module _ (complete : (n : ℕ) (q : PlaceRow) → Contains found n → slice_get places n ≡ Some q → IsComplete files (place_at q)) where
      -- where nothing is missed, each reference leads to something that is held
      holds-end : (s : Place) → Leads (Finds files) (place_at start) s → (o : ObjectOut) × Holds files s o
      holds-end s stays = graph.held first start begins
      holds-end s (goes {x = x} {y = y} before last) = last.1

      complete-at : (s : Place) → Leads (Finds files) (place_at start) s → IsComplete files s
      complete-at s walk = let at = place-found s walk in subst (IsComplete files) at.3 (complete at.0 at.1 at.4 at.2)

      finds : (s : Place) → Leads (Jumps files) (place_at start) s → Leads (Finds files) (place_at start) s
      finds s stays = stays
      finds s (goes {x = x} {y = y} before (o, holds, r, here, guid, leads)) =
          let sofar = finds x before in
          let to = complete-at x sofar o r holds here in
          let same : to.0 ≡ y.bundle = one-home files x.bundle r.home to.0 y.bundle to.1 leads in
          let there : place to.0 r.guid ≡ y = ap₂ place same guid in
          goes sofar ((o, holds, r, here, guid, leads), subst (λ w. (x : ObjectOut) × Holds files w x) there to.2)

      pub whole : IsWhole files (place_at start)
      whole s walk =
          let way = finds s walk in
          let held = holds-end s way in
          (held.0, held.1, λ r here. let to = complete-at s way held.0 r held.1 here in (to.0, to.1))

      -- ---- the least bundle

      order-of : (m n : ℕ) (q s : PlaceRow) → slice_get places m ≡ Some q → slice_get places n ≡ Some s → q.guid ≡ s.guid → q.bundle < s.bundle → m < n
      order-of m n q s at there same less = by_order (cases_order m n)
        where
          back : Before s q → ⊥
          back (inl less') = let tie : guid_cmp s.guid q.guid ≡ Equal = ap (guid_cmp s.guid) same ∙ tied_itself guid_total s.guid in let clash : Less ≡ Equal = sym less' ∙ tie in absurd (cc clash)
          back (inr (guid, below)) = omega arith

          by_order : (m ≡ n) ⊎ ((m < n) ⊎ (n < m)) → m < n
          by_order (inl is) = absurd (let one : q ≡ s = same-some q s (sym at ∙ (ap (slice_get places) is ∙ there)) in let bundles = ap (λ (x : PlaceRow). x.bundle) one in omega arith)
          by_order (inr (inl before)) = before
          by_order (inr (inr after)) = absurd (back (graph.ordered n m s q there at after))

      pub first-taken : (n : ℕ) (i : Item) → IsFirst places found n → ShowsNumber files places n i → Taken files (place_at start) i
      first-taken n i (here, least) (q, at, guid, shows) =
          let found-at = found-place n here in
          let same : found-at.0 ≡ q = same-some found-at.0 q (sym found-at.1 ∙ at) in
          let walk : Leads (Finds files) (place_at start) (place_at q) = subst (λ w. Leads (Finds files) (place_at start) (place_at w)) same found-at.2 in
          let own : place_at q ≡ place q.bundle i.guid = ap (place q.bundle) guid in (
            q.bundle,
            subst (Leads (Jumps files) (place_at start)) own (jumps (place_at start) (place_at q) walk),
            subst (λ w. ShowsAt files w i) own shows,
            λ c less way. absurd (
                let down = place-found (place c i.guid) (finds (place c i.guid) way) in
                let row-guid : down.1.guid ≡ q.guid = ap (λ (w : Place). w.guid) down.3 ∙ sym guid in
                let bundle : down.1.bundle ≡ c = ap (λ (w : Place). w.bundle) down.3 in
                let before = order-of down.0 n down.1 q down.2 at row-guid (omega (arith, less, bundle)) in
                least down.0 down.1 q down.4 before down.2 at row-guid),
          )

      module _ (one : (q : Place) (x y : ObjectOut) → Holds files q x → Holds files q y → x ≡ y) where
        test : Item → ℕ → Bool
        test i n = bytes_eq (get_or places n no-place).guid.0 i.guid.0

        test-at : (i : Item) (n : ℕ) (q : PlaceRow) → slice_get places n ≡ Some q → q.guid ≡ i.guid → test i n ≡ true
        unfolding test
        test-at i n q at guid = (bytes_eq-Decides (get_or places n no-place).guid.0 i.guid.0).1 (ap (λ (x : PlaceRow). x.guid.0) (get_or_from_slice_get places n q no-place at) ∙ ap (λ (g : Guid). g.0) guid)

        at-test : (i : Item) (n : ℕ) (q : PlaceRow) → slice_get places n ≡ Some q → test i n ≡ true → q.guid ≡ i.guid
        unfolding test
        at-test i n q at passes = same-guid q.guid i.guid (ap (λ (x : PlaceRow). x.guid.0) (sym (get_or_from_slice_get places n q no-place at)) ∙ (bytes_eq-Decides (get_or places n no-place).guid.0 i.guid.0).0 passes)

        -- what the walk takes is what the first place with its GUID shows
        taken-first : (i : Item) → Taken files (place_at start) i → (n : ℕ) × IsFirst places found n × ShowsNumber files places n i
        taken-first i (b, way, shows, low) =
            let there = place-found (place b i.guid) (finds (place b i.guid) way) in
            let guid : there.1.guid ≡ i.guid = ap (λ (w : Place). w.guid) there.3 in
            let bundle : there.1.bundle ≡ b = ap (λ (w : Place). w.bundle) there.3 in
            let least = first-with (test i) found list.rising there.0 there.4 (test-at i there.0 there.1 there.2 guid) in
            let at = found-place least.0 least.1 in
            let own : at.0.guid ≡ i.guid = at-test i least.0 at.0 at.1 least.2 in
            let walk : Leads (Jumps files) (place_at start) (place at.0.bundle i.guid) = subst (Leads (Jumps files) (place_at start)) (ap (place at.0.bundle) own) (jumps (place_at start) (place_at at.0) at.2) in
            let first : IsFirst places found least.0 = (least.1, λ m q s here before q-at s-at same. least.3 m here before (test-at i m q q-at (same ∙ (ap (λ (x : PlaceRow). x.guid) (same-some s at.0 (sym s-at ∙ at.1)) ∙ own)))) in
            (least.0, first, (at.0, at.1, own, subst (λ w. ShowsAt files w i) (ap (place at.0.bundle) (sym own)) (by_bundle at.0.bundle (cases_order at.0.bundle b) walk (no-later least.0 there.0 at.0 there.1 at.1 there.2 least.4 (own ∙ sym guid) bundle))))
          where
            no-later : (m n : ℕ) (q s : PlaceRow) → slice_get places m ≡ Some q → slice_get places n ≡ Some s → m ≤ n → q.guid ≡ s.guid → s.bundle ≡ b → b < q.bundle → ⊥
            no-later m n q s q-at s-at upto same is above = (let before = order-of n m s q s-at q-at (sym same) (omega (arith, is, above)) in omega (arith, before, upto))

            by_bundle : (c : ℕ) → (c ≡ b) ⊎ ((c < b) ⊎ (b < c)) → Leads (Jumps files) (place_at start) (place c i.guid) → (b < c → ⊥) → ShowsAt files (place c i.guid) i
            by_bundle c (inl same) walk upto = subst (λ n. ShowsAt files (place n i.guid) i) (sym same) shows
            by_bundle c (inr (inl less)) walk upto = low c less walk
            by_bundle c (inr (inr above)) walk upto = absurd (upto above)

        -- a place shows one item
        shows-one : (q : Place) (i j : Item) → ShowsAt files q i → ShowsAt files q j → i ≡ j
        shows-one q i j (o, holds, is) (x, also, are) = is ∙ (ap item_of_object (one q o x holds also) ∙ sym are)

        pub unfolds : (picks : List ℕ) (items : List Item) → IsListOf nat_cmp (IsFirst places found) picks → AllZip (ShowsNumber files places) picks items → IsUnfolding files (place_at start) items
        unfolds picks items firsts shown = record {
          whole = whole;
          lists = record {
            rising = zip-sorted (ShowsNumber files places) picks items keeps firsts.rising shown;
            within = λ i here. (let from = zip-there (ShowsNumber files places) picks items i shown here in first-taken from.0 i (firsts.within from.0 from.1) from.2);
            all = λ i taken.
                let first = taken-first i taken in
                let at = zip-here (ShowsNumber files places) picks items first.0 shown (firsts.all first.0 first.1) in
                let same : at.2.0 ≡ first.2.0 = same-some at.2.0 first.2.0 (sym at.2.1 ∙ first.2.1) in
                subst (Contains items) (shows-one (place_at first.2.0) at.0 i (subst (λ w. ShowsAt files (place_at w) at.0) same at.2.3) first.2.3) at.1;
          };
        }
          where
            keeps : (m n : ℕ) (i j : Item) → Contains picks m → Contains picks n → ShowsNumber files places m i → ShowsNumber files places n j → m < n → item_cmp i j ≡ Less
            keeps m n i j here there (q, q-at, q-guid, q-shows) (s, s-at, s-guid, s-shows) less = by_order (graph.ordered m n q s q-at s-at less)
              where
                by_order : Before q s → item_cmp i j ≡ Less
                by_order (inl below) = ap₂ guid_cmp (sym q-guid) (sym s-guid) ∙ below
                by_order (inr (same, bundles)) = absurd ((firsts.within n there).1 m q s (firsts.within m here).0 less q-at s-at same)
