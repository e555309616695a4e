-- The ways of entries by the numbers of their places: which are clean, and what has changed on the others.
use Rattle.std.proofs.Common.{◌≡◌, ◌↔◌, ◌<◌, ◌≤◌, ◌⊎◌, inl, inr, ℕ, List, [], ◌∷◌, length, map, Option, Some, None, refl, sym, ap, ap₂, subst, ◌∙◌, arith}
use Rattle.std.proofs.lemmas.Option.{slice_get_within}
use Rattle.std.specs.List.{AllZip, Contains, slice_get}
use Rattle.std.specs.Ordering.{nat_cmp}
use Rattle.addr_base.specs.Images.{Object}
use Rattle.addr_base.specs.declared.ids.Guid.{Guid}
use Rattle.addr_base.specs.declared.images.RefTo.{RefTo}
use Rattle.addr_cab.specs.Lookup.{Held}
use Rattle.addr_cab.specs.declared.object.ObjectOut.{ObjectOut}
use Rattle.addr_layout.proofs.RankLemmas.{same-some}
use Rattle.addr_layout.specs.Agreement.{Place, place}
use Rattle.addr_layout.specs.Members.{IsShared}
use Rattle.addr_locate.specs.Rows.{Rows}
use Rattle.addr_locate.specs.declared.rows.BundleRow.{BundleRow}
use Rattle.addr_pack.specs.declared.bundles.Plan.{Plan}
use Rattle.addr_project.specs.Kept.{IsKept}
use Rattle.addr_project.specs.Model.{Project}
use Rattle.addr_project.specs.Reach.{Reaches}
use Rattle.addr_release.proofs.FaithfulLemmas.{has-assets}
use Rattle.addr_release.proofs.ImageLemmas.{beside}
use Rattle.addr_release.proofs.NamedLemmas.{one-home}
use Rattle.addr_release.specs.Opened.{Opened, Holds, Jumps, LeadsTo}
use Rattle.addr_resolve.specs.Graph.{Finds, IsComplete, IsGraph, place_at}
use Rattle.addr_resolve.specs.Items.{AreNamed, HoldOne, Lends, ShowsCabs}
use Rattle.addr_resolve.specs.declared.graph.PlaceRow.{PlaceRow}
use Rattle.addr_state.specs.declared.model.State.{State}
use Rattle.addr_update.proofs.CleanLemmas.{clean-led, clean-same}
use Rattle.addr_update.proofs.DecidedLemmas.{Decided, as-now, at-of, by-decided, guid-of, led-on, some-of}
use Rattle.addr_update.proofs.SplitLemmas.{one-first}
use Rattle.addr_update.specs.Clean.{HasCleanWay, IsClean}
use Rattle.addr_update.specs.Doubtful.{IsDoubtful}
use Rattle.addr_update.specs.Leading.{AreAway, IsAwayAt}
use Rattle.addr_update.specs.Moved.{HasChanged, IsAsNow, IsLedAway, IsLedOn, IsOld, OnWay, Update}
use Rattle.addr_walks.proofs.Lists.{Contains-cases, Contains-here, Contains-none, Contains-slice_get, slice_get-Contains}
use Rattle.addr_walks.proofs.Zips.{zip-left}
use Rattle.addr_walks.specs.Rows.{Edge, LedTo}
use Rattle.addr_walks.specs.Walks.{IsListOf, Leads}
use Rattle.addr_walks.specs.Walks.Leads.{stays, goes}
use Rattle.addr_moves.specs.Fates.{comparing}
use Rattle.addr_moves.specs.Firsts.{number_under}
use Rattle.addr_moves.specs.declared.looks.Homes.{Homes}
use Rattle.addr_moves.specs.within.Changing.{AreSeen, IsSpoiltAmong}
use Rattle.addr_moves.specs.within.Homes.{AreHomes}
use Rattle.addr_moves.specs.within.Looks.{AreSpoils, IsAwayOf, IsSpoilsOf, IsSpoiltBy}
use Rattle.addr_moves.specs.within.Ways.{AreBadBelow, IsGoodAt}
use Rattle.addr_moves.proofs.PlaceLemmas.{away-at, built-now, home-leads, leads-home, lent-held, now-built}

-- whether a place holds something
holds-of : (was : List Opened) (q : Place) → Decided ((o : ObjectOut) × Holds was q o)
holds-of was q = by_file (at-of (λ (file : Opened). (o : ObjectOut) × Contains file.objects o × (o.guid ≡ q.guid)) (λ file. some-of (λ (o : ObjectOut). o.guid ≡ q.guid) (λ o. guid-of o.guid q.guid) file.objects) (slice_get was q.bundle))
  where
    by_file : Decided ((file : Opened) × (slice_get was q.bundle ≡ Some file) × ((o : ObjectOut) × Contains file.objects o × (o.guid ≡ q.guid))) → Decided ((o : ObjectOut) × Holds was q o)
    by_file (inl (file, at, (o, here, guid))) = inl (o, (file, at, here, guid))
    by_file (inr fails) = inr (λ (o, (file, at, here, guid)). fails (file, at, (o, here, guid)))

pub row-at : (row : PlaceRow) (c : ℕ) (g : Guid) → place_at row ≡ place c g → row ≡ record { guid = g; bundle = c }
row-at row c g same = λ i. record { guid = (same i).guid; bundle = (same i).bundle }

-- a place is spoilt under a GUID: it isn't as the project has it, or a reference of it leads to nothing
abbrev pub IsSpoiltAt : Update → Place → Guid → Type 0
IsSpoiltAt u q g = ((q.guid ≡ g) × (IsAsNow u q → ⊥)) ⊎ ((c : ℕ) × Jumps u.was q (place c g) × ((o : ObjectOut) → Holds u.was (place c g) o → ⊥))

module _ (s : State) (was : List Opened) (r : Rows) (p : Project) (now : Plan) (kept : IsKept p) (shared : IsShared p now)
    (cabs : List Held) (shows : ShowsCabs was cabs) (one : HoldOne was) (bundles : List BundleRow) (named : AreNamed was bundles)
    (h : Homes) (homes : AreHomes s p now bundles h)
    (places : List PlaceRow) (rows : List (List ℕ)) (lost : List (Option Guid)) (graph : IsGraph was places rows lost)
    (spoils : List (List Guid)) (are-spoils : AllZip (IsSpoilsOf p cabs h places) places spoils)
    (away : List (Option Guid)) (are-away : AllZip (IsAwayOf cabs h) places away) where
  u : Update
  u = comparing s was r p now

  -- ---- what is spoilt

  spoilt-to : (q : PlaceRow) (x : Object) (gs : List Guid) → Lends cabs q x → AreSpoils p h places q x gs → (g : Guid) → Contains gs g → IsSpoiltAt (comparing s was r p now) (place_at q) g
  spoilt-to q x gs lends are g here = by_kind (are.within g here)
    where
      by_kind : IsSpoiltBy p h places q x g → IsSpoiltAt (comparing s was r p now) (place_at q) g
      by_kind (inl (same, other)) = inl (same, λ as-is. other (now-built s was r p now kept shared cabs shows one bundles named h homes q x lends as-is))
      by_kind (inr (ref, among, (c, to, nowhere), guid)) =
          let held = lent-held was cabs shows q x lends in
          inr (
            c,
            (held.0, held.1, ref, subst (λ (rs : List RefTo). Contains rs ref) (sym held.3) among, guid, leads-home was bundles (number_under h.names) named homes.names q.bundle ref.home c to),
            λ o holds. (
                let at = graph.all (place c g) o holds in
                let row : at.1 ≡ record { guid = ref.guid; bundle = c } = row-at at.1 c ref.guid (at.3 ∙ ap (place c) (sym guid)) in
                nowhere (subst (Contains places) row (Contains-slice_get places at.0 at.1 at.2))),
          )

  spoilt-from : (q : PlaceRow) (x : Object) (gs : List Guid) → Lends cabs q x → AreSpoils p h places q x gs → (g : Guid) → IsSpoiltAt (comparing s was r p now) (place_at q) g → Contains gs g
  spoilt-from q x gs lends are g (inl (same, other)) = are.all g (inl (same, λ built. other (built-now s was r p now kept shared cabs shows one bundles named h homes q x lends built)))
  spoilt-from q x gs lends are g (inr (c, (o, holds, ref, here, guid, leads), never)) =
      let held = lent-held was cabs shows q x lends in
      let same : o ≡ held.0 = one (place_at q) o held.0 holds held.1 in
      let among = subst (λ (rs : List RefTo). Contains rs ref) held.3 (subst (λ (y : ObjectOut). Contains y.refs ref) same here) in
      are.all g (inr (ref, among, (c, home-leads was bundles (number_under h.names) named homes.names q.bundle ref.home c leads, nowhere), guid))
    where
      nowhere : Contains places (record { guid = ref.guid; bundle = c }) → ⊥
      nowhere there =
          let at = slice_get-Contains places (record { guid = ref.guid; bundle = c }) there in
          let some = graph.held at.0 (record { guid = ref.guid; bundle = c }) at.1 in
          never some.0 (subst (λ (d : Guid). Holds was (place c d) some.0) guid some.1)

  -- what stands beside a place
  spoils-beside : (n : ℕ) (q : PlaceRow) → slice_get places n ≡ Some q → (gs : List Guid) × (slice_get spoils n ≡ Some gs) × ((g : Guid) → Contains gs g → IsSpoiltAt (comparing s was r p now) (place_at q) g) × ((g : Guid) → IsSpoiltAt (comparing s was r p now) (place_at q) g → Contains gs g)
  spoils-beside n q at =
      let gs = zip-left (IsSpoilsOf p cabs h places) places spoils are-spoils n q at in
      (gs.0, gs.1, spoilt-to q gs.2.0 gs.0 gs.2.1 gs.2.2, spoilt-from q gs.2.0 gs.0 gs.2.1 gs.2.2)

  pub away-are : AreAway (comparing s was r p now) places away
  away-are n q l at there =
      let beside-it = zip-left (IsAwayOf cabs h) places away are-away n q at in
      let same : beside-it.0 ≡ l = same-some beside-it.0 l (sym beside-it.1 ∙ there) in
      subst (IsAwayAt (comparing s was r p now) (place_at q)) same (away-at s was r p now kept shared cabs shows one bundles named h homes q beside-it.0 beside-it.2)

  -- ---- clean places

  complete-at : (n : ℕ) (q : PlaceRow) → slice_get places n ≡ Some q → IsGoodAt spoils away lost n → IsComplete was (place_at q)
  complete-at n q at good = graph.missed n q None at good.2

  clean-at : (n : ℕ) (q : PlaceRow) → slice_get places n ≡ Some q → IsGoodAt spoils away lost n → IsClean (comparing s was r p now) (place_at q)
  clean-at n q at good = (
    by-decided (as-now (comparing s was r p now) (place_at q)) (λ never. nothing-spoilt never),
    λ o ref holds here. (
      by-decided (led-on (comparing s was r p now) (place_at q) ref ref.home refl) (λ fails. nothing-away o ref holds here fails),
      (let to = complete-at n q at good o ref holds here in (to.0, to.1)),
    ),
  )
    where
      nothing-spoilt : (IsAsNow (comparing s was r p now) (place_at q) → ⊥) → ⊥
      nothing-spoilt never =
          let gs = spoils-beside n q at in
          let empty : gs.0 ≡ [] = same-some gs.0 [] (sym gs.1 ∙ good.0) in
          Contains-none q.guid (subst (λ (xs : List Guid). Contains xs q.guid) empty (gs.3 q.guid (inl (refl, never))))

      nothing-away : (o : ObjectOut) (ref : RefTo) → Holds was (place_at q) o → Contains o.refs ref → (IsLedOn (comparing s was r p now) (place_at q) ref → ⊥) → ⊥
      nothing-away o ref holds here fails = away-are n q None at good.1 ref.guid (o, holds, ref, here, refl, fails)

  module _ (bad : List ℕ) (are-bad : AreBadBelow spoils away lost (length places) bad) where
    good-at : (m n : ℕ) (q : PlaceRow) → slice_get places n ≡ Some q → (IsDoubtful rows bad m → ⊥) → Leads (Edge rows) m n → IsGoodAt spoils away lost n
    good-at m n q at clear walk = are-bad.good n (slice_get_within places n q at) (λ here. clear (n, here, walk))

    way-down : (m : ℕ) (q : PlaceRow) → slice_get places m ≡ Some q → (IsDoubtful rows bad m → ⊥) → (t : Place) → Leads (Jumps was) (place_at q) t
        → (n : ℕ) × (row : PlaceRow) × (slice_get places n ≡ Some row) × (place_at row ≡ t) × Leads (Edge rows) m n
    way-down m q at clear t stays = (m, q, at, refl, stays)
    way-down m q at clear t (goes {x = x} {y = y} before (o, holds, ref, here, guid, leads)) =
        let sofar = way-down m q at clear x before in
        let good = good-at m sofar.0 sofar.1 sofar.2 clear sofar.4 in
        let own : Holds was (place_at sofar.1) o = subst (λ w. Holds was w o) (sym sofar.3) holds in
        let to = complete-at sofar.0 sofar.1 sofar.2 good o ref own here in
        let bundle : x.bundle ≡ sofar.1.bundle = ap (λ (w : Place). w.bundle) (sym sofar.3) in
        let home : LeadsTo was sofar.1.bundle ref.home t.bundle = subst (λ b. LeadsTo was b ref.home t.bundle) bundle leads in
        let same : to.0 ≡ t.bundle = one-home was sofar.1.bundle ref.home to.0 t.bundle to.1 home in
        let there : place to.0 ref.guid ≡ t = ap₂ place same guid in
        let held : (w : ObjectOut) × Holds was t w = subst (λ w. (v : ObjectOut) × Holds was w v) there to.2 in
        let step = graph.down sofar.0 sofar.1 t sofar.2 ((o, own, ref, here, guid, home), held) in
        (step.0, step.1, step.2, step.3, goes sofar.4 step.4)

    -- an entry from whose old place no bad one is reached
    pub clear-stays : (m : ℕ) (q : PlaceRow) → slice_get places m ≡ Some q → (IsDoubtful rows bad m → ⊥) → IsOld (comparing s was r p now) q.guid q.bundle
        → (d : Guid) → (HasChanged (comparing s was r p now) q.guid d → ⊥) × (IsLedAway (comparing s was r p now) q.guid d → ⊥)
    clear-stays m q at clear old d = (
      clean-same (comparing s was r p now) (has-assets p kept) q.guid q.bundle old clean d,
      clean-led (comparing s was r p now) (has-assets p kept) q.guid q.bundle old clean d,
    )
      where
        clean : HasCleanWay (comparing s was r p now) q.bundle q.guid
        clean t walk =
            let down = way-down m q at clear t walk in
            subst (IsClean (comparing s was r p now)) down.3 (clean-at down.0 down.1 down.2 (good-at m down.0 down.1 down.2 clear down.4))

  -- ---- what has changed

  -- a place of the way is among those that are found, or holds nothing and is led to from one of them
  abbrev IsSeenAt : List ℕ → Place → Type 0
  IsSeenAt found t = (n : ℕ) × (row : PlaceRow) × Contains found n × (slice_get places n ≡ Some row) × (place_at row ≡ t)

  abbrev IsGapAt : List ℕ → Place → Type 0
  IsGapAt found t = (n : ℕ) × (row : PlaceRow) × Contains found n × (slice_get places n ≡ Some row) × Jumps was (place_at row) t × ((o : ObjectOut) → Holds was t o → ⊥)

  module _ (first : ℕ) (start : PlaceRow) (begins : slice_get places first ≡ Some start) (old : IsOld (comparing s was r p now) start.guid start.bundle)
      (found : List ℕ) (list : IsListOf nat_cmp (LedTo rows (first ∷ [])) found) where
    held-down : (t : Place) (o : ObjectOut) → Leads (Jumps was) (place_at start) t → Holds was t o → (n : ℕ) × (row : PlaceRow) × (slice_get places n ≡ Some row) × (place_at row ≡ t) × Leads (Edge rows) first n
    held-down t o stays holds = (first, start, begins, refl, stays)
    held-down t o (goes {x = x} {y = y} before jump) holds =
        let sofar = held-down x jump.0 before jump.1 in
        let step = graph.down sofar.0 sofar.1 t sofar.2 (subst (λ w. Finds was w t) (sym sofar.3) (jump, (o, holds))) in
        (step.0, step.1, step.2, step.3, goes sofar.4 step.4)

    numbers-up : (n : ℕ) → Leads (Edge rows) first n → (q : PlaceRow) × (slice_get places n ≡ Some q) × Leads (Jumps was) (place_at start) (place_at q)
    numbers-up n stays = (start, begins, stays)
    numbers-up n (goes {x = x} {y = y} before last) =
        let sofar = numbers-up x before in
        let step = graph.up x n sofar.0 sofar.1 last in
        (step.0, step.1, goes sofar.2 step.2.0)

    own-walk : (n : ℕ) → LedTo rows (first ∷ []) n → Leads (Edge rows) first n
    own-walk n (seed, here, walk) = by_start (Contains-cases first [] seed here)
      where
        by_start : (first ≡ seed) ⊎ Contains [] seed → Leads (Edge rows) first n
        by_start (inl same) = subst (λ k. Leads (Edge rows) k n) (sym same) walk
        by_start (inr none) = absurd (Contains-none seed none)

    found-on : (n : ℕ) → Contains found n → (q : PlaceRow) × (slice_get places n ≡ Some q) × OnWay (comparing s was r p now) start.guid (place_at q)
    found-on n here = let up = numbers-up n (own-walk n (list.within n here)) in (up.0, up.1, (start.bundle, old, up.2))

    held-found : (t : Place) (o : ObjectOut) → Leads (Jumps was) (place_at start) t → Holds was t o → IsSeenAt found t
    held-found t o walk holds = let at = held-down t o walk holds in (at.0, at.1, list.all at.0 (first, Contains-here first [], at.4), at.2, at.3)

    place-found : (t : Place) → Leads (Jumps was) (place_at start) t → IsSeenAt found t ⊎ IsGapAt found t
    place-found t stays = inl (first, start, list.all first (first, Contains-here first [], stays), begins, refl)
    place-found t (goes {x = x} {y = y} before jump) = by_held (holds-of was t)
      where
        by_held : Decided ((o : ObjectOut) × Holds was t o) → IsSeenAt found t ⊎ IsGapAt found t
        by_held (inl (o, holds)) = inl (held-found t o (goes before jump) holds)
        by_held (inr never) =
            let at = held-found x jump.0 before jump.1 in
            inr (at.0, at.1, at.2, at.3, subst (λ w. Jumps was w t) (sym at.4) jump, λ o holds. never (o, holds))

    -- an asset is changed where no place that is found has its GUID, or one is spoilt under it
    pub changed-to : (d : Guid) → HasChanged (comparing s was r p now) start.guid d → Reaches p start.guid d × (((n : ℕ) → Contains found n → (g : Guid) → AreSeen places n g → g ≡ d → ⊥) ⊎ IsSpoiltAmong spoils found d)
    changed-to d (reach, inl none) = (reach, inl (λ n here g (row, at, guid) same. none-at n here row at (guid ∙ same)))
      where
        none-at : (n : ℕ) → Contains found n → (row : PlaceRow) → slice_get places n ≡ Some row → row.guid ≡ d → ⊥
        none-at n here row at guid =
            let on = found-on n here in
            none (place_at on.0) on.2 (ap (λ (x : PlaceRow). x.guid) (same-some on.0 row (sym on.1 ∙ at)) ∙ guid)
    changed-to d (reach, inr (q, (m, other, way), guid, fails)) = (reach, inr (by_place (place-found q (subst (λ k. Leads (Jumps was) (place k start.guid) q) (one-first (comparing s was r p now) start.guid m start.bundle other old) way))))
      where
        by_place : IsSeenAt found q ⊎ IsGapAt found q → IsSpoiltAmong spoils found d
        by_place (inl (n, row, here, at, same)) =
            let gs = spoils-beside n row at in
            (n, here, gs.0, gs.1, gs.3 d (inl (ap (λ (w : Place). w.guid) same ∙ guid, λ as-is. fails (subst (IsAsNow (comparing s was r p now)) same as-is))))
        by_place (inr (n, row, here, at, jump, never)) =
            let gs = spoils-beside n row at in
            let own : q ≡ place q.bundle d = ap (place q.bundle) guid in
            (n, here, gs.0, gs.1, gs.3 d (inr (q.bundle, subst (Jumps was (place_at row)) own jump, λ o holds. never o (subst (λ w. Holds was w o) (sym own) holds))))

    spoilt-on : (d : Guid) → IsSpoiltAmong spoils found d → (q : Place) × OnWay (comparing s was r p now) start.guid q × (q.guid ≡ d) × (IsAsNow (comparing s was r p now) q → ⊥)
    unfolding numbers-up found-on own-walk
    spoilt-on d (n, here, gs, at, among) = by_kind (beside-it.2 d (subst (λ (xs : List Guid). Contains xs d) (same-some gs beside-it.0 (sym at ∙ beside-it.1)) among))
      where
        on : (q : PlaceRow) × (slice_get places n ≡ Some q) × OnWay (comparing s was r p now) start.guid (place_at q)
        on = found-on n here

        beside-it : (gs : List Guid) × (slice_get spoils n ≡ Some gs) × ((g : Guid) → Contains gs g → IsSpoiltAt (comparing s was r p now) (place_at (found-on n here).0) g) × ((g : Guid) → IsSpoiltAt (comparing s was r p now) (place_at (found-on n here).0) g → Contains gs g)
        beside-it = spoils-beside n (found-on n here).0 (found-on n here).1

        by_kind : IsSpoiltAt (comparing s was r p now) (place_at (found-on n here).0) d → (q : Place) × OnWay (comparing s was r p now) start.guid q × (q.guid ≡ d) × (IsAsNow (comparing s was r p now) q → ⊥)
        by_kind (inl (same, fails)) = (place_at (found-on n here).0, (found-on n here).2, same, fails)
        by_kind (inr (c, jump, never)) =
            let up = numbers-up n (own-walk n (list.within n here)) in
            (place c d, (start.bundle, old, goes up.2 jump), refl, λ as-is. never as-is.0.0 as-is.0.1)

    -- and the other way round
    pub changed-from : (d : Guid) → Reaches p start.guid d → (((n : ℕ) → Contains found n → (g : Guid) → AreSeen places n g → g ≡ d → ⊥) ⊎ IsSpoiltAmong spoils found d) → Decided (IsSpoiltAmong spoils found d) → HasChanged (comparing s was r p now) start.guid d
    changed-from d reach either (inl spoilt) = (reach, inr (spoilt-on d spoilt))
    changed-from d reach (inr spoilt) (inr none) = absurd (none spoilt)
    changed-from d reach (inl unseen) (inr none) = (reach, inl (λ q (m, other, way) guid. not-there q guid (place-found q (subst (λ k. Leads (Jumps was) (place k start.guid) q) (one-first (comparing s was r p now) start.guid m start.bundle other old) way))))
      where
        not-there : (q : Place) → q.guid ≡ d → IsSeenAt found q ⊎ IsGapAt found q → ⊥
        not-there q guid (inl (n, row, here, at, same)) = unseen n here row.guid (row, at, refl) (ap (λ (w : Place). w.guid) same ∙ guid)
        not-there q guid (inr (n, row, here, at, jump, never)) =
            let gs = spoils-beside n row at in
            let own : q ≡ place q.bundle d = ap (place q.bundle) guid in
            none (n, here, gs.0, gs.1, gs.3 d (inr (q.bundle, subst (Jumps was (place_at row)) own jump, λ o holds. never o (subst (λ w. Holds was w o) (sym own) holds))))
