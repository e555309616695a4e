-- Why an entry with an old bundle moves, from what is found on its way and what the project reaches.
use Rattle.std.proofs.Common.{◌≡◌, ◌<◌, ◌≤◌, ◌+◌, ◌⊎◌, inl, inr, ℕ, List, [], ◌∷◌, length, get_or, map, All, Option, Some, None, Err, Less, Equal, Greater, MatchOption, refl, sym, ap, subst, ◌∙◌, arith}
use Rattle.std.proofs.lemmas.Bool.{cases_lt}
use Rattle.std.proofs.lemmas.Cmp.{nat_cmp_total, tied_itself}
use Rattle.std.proofs.lemmas.List.Sorted.{searchable_from_sorted}
use Rattle.std.proofs.lemmas.Map.Keys.{Less-from_sorted}
use Rattle.std.proofs.lemmas.Option.{slice_get_within}
use Rattle.std.specs.List.{AllZip, Contains, slice_get}
use Rattle.std.specs.List.Sorted.{IsBinarySearchResult, IsPartitionPoint, IsSortedBy, IsStrictlySortedBy}
use Rattle.std.specs.Ordering.{is_lt, nat_cmp, ordering_reverse}
use Rattle.addr_base.specs.declared.ids.Guid.{Guid}
use Rattle.addr_cab.specs.Lookup.{Held}
use Rattle.addr_cab.specs.declared.object.ObjectOut.{ObjectOut}
use Rattle.addr_layout.proofs.RankLemmas.{same-some}
use Rattle.addr_layout.specs.Agreement.{Place, place}
use Rattle.addr_layout.specs.Members.{IsNumbered, IsShared}
use Rattle.addr_locate.specs.Rows.{Rows}
use Rattle.addr_locate.specs.declared.rows.BundleRow.{BundleRow}
use Rattle.addr_pack.specs.declared.bundles.Plan.{Plan}
use Rattle.addr_project.specs.Kept.{IsKept}
use Rattle.addr_project.specs.Model.{Project}
use Rattle.addr_project.specs.Reach.{Reaches}
use Rattle.addr_release.specs.Opened.{Opened, Holds, Jumps}
use Rattle.addr_resolve.specs.Graph.{IsGraph, place_at}
use Rattle.addr_resolve.specs.Items.{AreNamed, HoldOne, ShowsCabs}
use Rattle.addr_resolve.specs.declared.graph.PlaceRow.{PlaceRow}
use Rattle.addr_state.specs.declared.model.State.{State}
use Rattle.addr_update.proofs.DecidedLemmas.{Decided, at-of, guid-of, some-of}
use Rattle.addr_update.proofs.SplitLemmas.{one-first}
use Rattle.addr_update.proofs.LeadingLemmas.{found-below}
use Rattle.addr_update.specs.declared.model.Why.{Why}
use Rattle.addr_update.specs.declared.model.Why.TheVariants.{Before, Unknown, Changed, Led}
use Rattle.addr_update.specs.Leading.{AreAway, TellsLedAt}
use Rattle.addr_update.specs.Moved.{HasChanged, IsAsNow, IsLedAway, IsOld, OnWay}
use Rattle.addr_walks.proofs.Lists.{Contains-cases, Contains-here, Contains-none, Contains-slice_get}
use Rattle.addr_walks.specs.Rows.{AreBelow, Edge, LedTo}
use Rattle.addr_walks.specs.Walks.{IsListOf, Leads}
use Rattle.addr_walks.specs.Walks.Leads.{stays, goes}
use Rattle.addr_moves.specs.Fates.{comparing}
use Rattle.addr_moves.specs.declared.known.Known.{Known}
use Rattle.addr_moves.specs.within.Changing.{AreSeen, IsChangedAmong, IsOffWay, IsSpoiltAmong}
use Rattle.addr_moves.specs.within.Known.{IsKnown, TellsWhy}
use Rattle.addr_moves.specs.within.Leasts.{IsLeastWhere}
use Rattle.addr_moves.specs.within.Walked.{IsClear, IsLedFrom, IsStart, IsWay}
use Rattle.addr_moves.proofs.AssetLemmas.{reach-down, reach-up}
use Rattle.addr_moves.proofs.LeastLemmas.{least-same}
use Rattle.addr_moves.proofs.ChangeLemmas.{one-guid}
use Rattle.addr_moves.proofs.WayLemmas.{away-are, changed-from, changed-to, clear-stays, row-at}

-- whether a GUID is spoilt at one of some places
spoilt-decided : (spoils : List (List Guid)) (found : List ℕ) (d : Guid) → Decided (IsSpoiltAmong spoils found d)
spoilt-decided spoils found d = by_number (some-of (λ n. (gs : List Guid) × (slice_get spoils n ≡ Some gs) × Contains gs d) (λ n. at-of (λ (gs : List Guid). Contains gs d) (λ gs. among gs) (slice_get spoils n)) found)
  where
    by_number : Decided ((n : ℕ) × Contains found n × ((gs : List Guid) × (slice_get spoils n ≡ Some gs) × Contains gs d)) → Decided (IsSpoiltAmong spoils found d)
    by_number (inl (n, here, (gs, at, in'))) = inl (n, here, gs, at, in')
    by_number (inr none) = inr (λ (n, here, gs, at, in'). none (n, here, (gs, at, in')))

    among : (gs : List Guid) → Decided (Contains gs d)
    among gs = by_some (some-of (λ (g : Guid). g ≡ d) (λ g. guid-of g d) gs)
      where
        by_some : Decided ((g : Guid) × Contains gs g × (g ≡ d)) → Decided (Contains gs d)
        by_some (inl (g, here, same)) = inl (subst (Contains gs) same here)
        by_some (inr none) = inr (λ here. none (d, here, refl))

own-walk : (rows : List (List ℕ)) (first n : ℕ) → LedTo rows (first ∷ []) n → Leads (Edge rows) first n
own-walk rows first n (seed, here, walk) = by_start (Contains-cases first [] seed here)
  where
    by_start : (first ≡ seed) ⊎ Contains [] seed → Leads (Edge rows) first n
    by_start (inl same) = subst (λ k. Leads (Edge rows) k n) (sym same) walk
    by_start (inr none) = absurd (Contains-none seed none)

module _ (s : State) (was : List Opened) (r : Rows) (p : Project) (now : Plan) (kept : IsKept p) (shared : IsShared p now)
    (cabs : List Held) (shows : ShowsCabs was cabs) (bundles : List BundleRow) (named : AreNamed was bundles)
    (k : Known) (known : IsKnown s p now cabs bundles k)
    (asset : ℕ) (a : Guid) (numbered : IsNumbered p asset a) (m : ℕ) (old : IsOld (comparing s was r p now) a m)
    (reached : List ℕ) (reach : IsListOf nat_cmp (LedTo k.refs (asset ∷ [])) reached) where
  -- what is reached by number
  up : (n : ℕ) (d : Guid) → Contains reached n → IsNumbered p n d → Reaches p a d
  up n d here is =
      let walk = reach-up p kept known.find known.numbers k.refs known.refs asset n a numbered (own-walk k.refs asset n (reach.within n here)) in
      subst (Reaches p a) (one-guid p n walk.0 d walk.1 is) walk.2

  down : (d : Guid) → Reaches p a d → (n : ℕ) × Contains reached n × IsNumbered p n d
  down d walk =
      let at = reach-down p kept known.find known.numbers k.refs known.refs asset a d numbered walk in
      (at.0, reach.all at.0 (asset, Contains-here asset [], at.2), at.1)

  -- ---- where the start holds something

  module _ (first : ℕ) (begins : slice_get k.places first ≡ Some (record { guid = a; bundle = m })) (found : List ℕ) (list : IsListOf nat_cmp (LedTo k.rows (first ∷ [])) found) where
    some-to : (d : Guid) → IsChangedAmong p k.places k.spoils reached found d → HasChanged (comparing s was r p now) a d
    some-to d (n, here, is, off) =
        changed-from s was r p now kept shared cabs shows (known.one was shows) bundles named known.homes known.are_homes k.places k.rows known.lost (known.graph was named shows) k.spoils known.spoils k.away known.away
        first (record { guid = a; bundle = m }) begins old found list d (up n d here is) off (spoilt-decided k.spoils found d)

    some-from : (d : Guid) → HasChanged (comparing s was r p now) a d → IsChangedAmong p k.places k.spoils reached found d
    some-from d changed =
        let is = changed-to s was r p now kept shared cabs shows (known.one was shows) bundles named known.homes known.are_homes k.places k.rows known.lost (known.graph was named shows) k.spoils known.spoils k.away known.away
        first (record { guid = a; bundle = m }) begins old found list d changed in
        let at = down d is.0 in
        (at.0, at.1, at.2, is.1)

  -- ---- where it holds nothing

  module _ (nowhere : Contains k.places (record { guid = a; bundle = m }) → ⊥) where
    not-held : (o : ObjectOut) → Holds was (place m a) o → ⊥
    not-held o holds =
        let at = (known.graph was named shows).all (place m a) o holds in
        nowhere (subst (Contains k.places) (row-at at.1 m a at.3) (Contains-slice_get k.places at.0 at.1 at.2))

    stays-there : (t : Place) → Leads (Jumps was) (place m a) t → t ≡ place m a
    stays-there t stays = refl
    stays-there t (goes {x = x} {y = y} before jump) = absurd (not-held jump.0 (subst (λ w. Holds was w jump.0) (stays-there x before) jump.1))

    none-to : (d : Guid) → IsChangedAmong p k.places k.spoils reached [] d → HasChanged (comparing s was r p now) a d
    none-to d (n, here, is, off) = (up n d here is, by_guid (guid-of a d))
      where
        by_guid : Decided (a ≡ d) → ((q : Place) → OnWay (comparing s was r p now) a q → q.guid ≡ d → ⊥) ⊎ ((q : Place) × OnWay (comparing s was r p now) a q × (q.guid ≡ d) × (IsAsNow (comparing s was r p now) q → ⊥))
        by_guid (inl same) = inr (place m a, (m, old, stays), same, λ as-is. not-held as-is.0.0 as-is.0.1)
        by_guid (inr other) = inl (λ q (b, also, way) guid. other (
            let walk = subst (λ c. Leads (Jumps was) (place c a) q) (one-first (comparing s was r p now) a b m also old) way in
            sym (ap (λ (w : Place). w.guid) (stays-there q walk)) ∙ guid))

    none-from : (d : Guid) → HasChanged (comparing s was r p now) a d → IsChangedAmong p k.places k.spoils reached [] d
    none-from d changed = let at = down d changed.0 in (at.0, at.1, at.2, inl (λ n here g seen same. Contains-none n here))

  -- ---- together

  change-to : (start : Option ℕ) (found : List ℕ) → IsStart k.places a m start → IsWay k.rows start found → (d : Guid) → IsChangedAmong p k.places k.spoils reached found d → HasChanged (comparing s was r p now) a d
  change-to None found nowhere way d is = none-to nowhere d (subst (λ (ns : List ℕ). IsChangedAmong p k.places k.spoils reached ns d) way is)
  change-to (Some n) found begins list d is = some-to n begins found list d is

  change-from : (start : Option ℕ) (found : List ℕ) → IsStart k.places a m start → IsWay k.rows start found → (d : Guid) → HasChanged (comparing s was r p now) a d → IsChangedAmong p k.places k.spoils reached found d
  change-from None found nowhere way d changed = subst (λ (ns : List ℕ). IsChangedAmong p k.places k.spoils reached ns d) (sym way) (none-from nowhere d changed)
  change-from (Some n) found begins list d changed = some-from n begins found list d changed

  pub changed-tells : (start : Option ℕ) (found : List ℕ) (least : Option Guid) → IsStart k.places a m start → IsWay k.rows start found → IsLeastWhere (IsChangedAmong p k.places k.spoils reached found) least → IsLeastWhere (HasChanged (comparing s was r p now) a) least
  changed-tells start found least at way is = least-same (IsChangedAmong p k.places k.spoils reached found) (HasChanged (comparing s was r p now) a) (change-to start found at way) (change-from start found at way) least is

  -- where the start holds nothing, the entry has changed itself
  pub itself-changed : (nowhere : Contains k.places (record { guid = a; bundle = m }) → ⊥) → HasChanged (comparing s was r p now) a a
  itself-changed nowhere = (stays, inr (place m a, (m, old, stays), refl, λ as-is. not-held nowhere as-is.0.0 as-is.0.1))

  -- ---- the reason

  away-known : AreAway (comparing s was r p now) k.places k.away
  away-known = away-are s was r p now kept shared cabs shows (known.one was shows) bundles named known.homes known.are_homes k.places k.rows known.lost (known.graph was named shows) k.spoils known.spoils k.away known.away

  least-led : (start : Option ℕ) (why : Option Why) → IsStart k.places a m start → IsLedFrom k.rows k.away start why → ((d : Guid) → HasChanged (comparing s was r p now) a d → ⊥) → TellsWhy (comparing s was r p now) a why
  least-led None why nowhere led none = absurd (none a (itself-changed nowhere))
  least-led (Some n) None begins led none = (none, led (comparing s was r p now) k.places known.lost (record { guid = a; bundle = m }) (known.graph was named shows) away-known begins old)
  least-led (Some n) (Some Before) begins led none = absurd led
  least-led (Some n) (Some Unknown) begins led none = absurd led
  least-led (Some n) (Some (Changed d)) begins led none = absurd led
  least-led (Some n) (Some (Led d)) begins led none = (none, led (comparing s was r p now) k.places known.lost (record { guid = a; bundle = m }) (known.graph was named shows) away-known begins old)

  pub tells-changed : (start : Option ℕ) (found : List ℕ) (d : Guid) → IsStart k.places a m start → IsWay k.rows start found → IsLeastWhere (IsChangedAmong p k.places k.spoils reached found) (Some d) → TellsWhy (comparing s was r p now) a (Some (Changed d))
  tells-changed start found d at way is = changed-tells start found (Some d) at way is

  pub tells-led : (start : Option ℕ) (found : List ℕ) (why : Option Why) → IsStart k.places a m start → IsWay k.rows start found → IsLeastWhere (IsChangedAmong p k.places k.spoils reached found) None → IsLedFrom k.rows k.away start why → TellsWhy (comparing s was r p now) a why
  tells-led start found why at way none led = least-led start why at led (changed-tells start found None at way none)

-- ---- where no bad place is reached

pub clear-tells : (s : State) (was : List Opened) (r : Rows) (p : Project) (now : Plan) → IsKept p → IsShared p now → (cabs : List Held) → ShowsCabs was cabs → (bundles : List BundleRow) → AreNamed was bundles
    → (k : Known) → IsKnown s p now cabs bundles k → (a : Guid) (m : ℕ) (start : Option ℕ) → IsStart k.places a m start → IsClear k.doubted start → IsOld (comparing s was r p now) a m → TellsWhy (comparing s was r p now) a None
clear-tells s was r p now kept shared cabs shows bundles named k known a m None at (n, is, out) old = absurd (cc is)
clear-tells s was r p now kept shared cabs shows bundles named k known a m (Some n) at (i, is, out) old = (λ d. (both d).0, λ d. (both d).1)
  where
    number : n ≡ i
    number = same-some n i is

    both : (d : Guid) → (HasChanged (comparing s was r p now) a d → ⊥) × (IsLedAway (comparing s was r p now) a d → ⊥)
    both d = clear-stays s was r p now kept shared cabs shows (known.one was shows) bundles named known.homes known.are_homes k.places k.rows known.lost (known.graph was named shows) k.spoils known.spoils k.away known.away
        known.bad known.are_bad n (record { guid = a; bundle = m }) at (λ doubtful. out (subst (Contains k.doubted) number (known.doubted.all n doubtful))) old d

pub start-at : (places : List PlaceRow) (a : Guid) (m : ℕ) (o : Option ℕ) → MatchOption o (Contains places (record { guid = a; bundle = m }) → ⊥) (λ n. slice_get places n ≡ Some (record { guid = a; bundle = m })) → IsStart places a m o
start-at places a m None is = is
start-at places a m (Some n) is = is

pub start-below : (places : List PlaceRow) (a : Guid) (m : ℕ) (o : Option ℕ) → IsStart places a m o → (n : ℕ) → o ≡ Some n → n < length places
start-below places a m None at n is = absurd (cc is)
start-below places a m (Some k) at n is = subst (λ i. i < length places) (same-some k n is) (slice_get_within places k (record { guid = a; bundle = m }) at)

-- numbers that are found are those of rows
pub reached-below : (rows : List (List ℕ)) (seed n : ℕ) (found : List ℕ) → AreBelow rows (length rows) → seed < length rows → length rows ≡ n → IsListOf nat_cmp (LedTo rows (seed ∷ [])) found → All (λ k. k < n) found
reached-below rows seed n found below within same list = λ i d small. subst (λ len. get_or found i d < len) same (found-below rows seed found below within list i d small)

pub way-below : (rows : List (List ℕ)) (start : Option ℕ) (n : ℕ) (found : List ℕ) → AreBelow rows (length rows) → ((i : ℕ) → start ≡ Some i → i < length rows) → length rows ≡ n → IsWay rows start found → All (λ k. k < n) found
way-below rows None n found below within same way = subst (All (λ k. k < n)) (sym way) (λ i d small. absurd (omega (arith, small)))
way-below rows (Some i) n found below within same way = reached-below rows i n found below (within i refl) same way

-- ---- a number is looked up

sorted-weakly : (xs : List ℕ) → IsStrictlySortedBy nat_cmp xs → IsSortedBy (λ a b. is_lt (nat_cmp a b)) xs
sorted-weakly xs rising k d low within =
    let up = Less-from_sorted nat_cmp xs k (k + 1) d rising (omega arith) within in
    ap is_lt (nat_cmp_total.antisymm (get_or xs (k + 1) d) (get_or xs k d) ∙ ap ordering_reverse up)

pub number-is-found : (xs : List ℕ) (x at : ℕ) → IsStrictlySortedBy nat_cmp xs → Contains xs x → IsBinarySearchResult (λ y. nat_cmp y x) xs (Err at) → ⊥
number-is-found xs x at rising (k, within, is) result = by_place (cases_lt k at)
  where
    split : IsPartitionPoint (λ y. nat_cmp y x ≡ Less) (λ y. nat_cmp y x ≡ Greater) xs at
    split = result (searchable_from_sorted nat_cmp_total (λ y. y) xs x (sorted-weakly xs rising))

    tied : nat_cmp (get_or xs k x) x ≡ Equal
    tied = ap (λ y. nat_cmp y x) is ∙ tied_itself nat_cmp_total x

    by_place : (k < at) ⊎ (at ≤ k) → ⊥
    by_place (inl before) = cc (sym (split.0 k x (omega arith) before) ∙ tied)
    by_place (inr after) = cc (sym (split.1 k x after within) ∙ tied)

-- ---- where the tables are read

pub led-none : (rows read : List (List ℕ)) (away taken : List (Option Guid)) (start : Option ℕ) (n : ℕ) (o : Option Guid) → start ≡ Some n → read ≡ rows → taken ≡ away → o ≡ None → TellsLedAt read taken n o → IsLedFrom rows away start None
led-none rows read away taken start n o begins first second is tells =
    subst (λ at. IsLedFrom rows away at None) (sym begins) (subst (λ rs. TellsLedAt rs away n None) first (subst (λ as'. TellsLedAt read as' n None) second (subst (TellsLedAt read taken n) is tells)))

pub led-some : (rows read : List (List ℕ)) (away taken : List (Option Guid)) (start : Option ℕ) (n : ℕ) (o : Option Guid) (d : Guid) → start ≡ Some n → read ≡ rows → taken ≡ away → o ≡ Some d → TellsLedAt read taken n o → IsLedFrom rows away start (Some (Led d))
led-some rows read away taken start n o d begins first second is tells =
    subst (λ at. IsLedFrom rows away at (Some (Led d))) (sym begins) (subst (λ rs. TellsLedAt rs away n (Some d)) first (subst (λ as'. TellsLedAt read as' n (Some d)) second (subst (TellsLedAt read taken n) is tells)))

pub read-least : (p : Project) (places places' : List PlaceRow) (spoils spoils' : List (List Guid)) (reached reached' found found' : List ℕ) (least least' : Option Guid) → places' ≡ places → spoils' ≡ spoils → reached' ≡ reached → found' ≡ found → least' ≡ least
    → IsLeastWhere (IsChangedAmong p places' spoils' reached' found') least' → IsLeastWhere (IsChangedAmong p places spoils reached found) least
read-least p places places' spoils spoils' reached reached' found found' least least' a b c d e is =
    subst (λ (x : List PlaceRow). IsLeastWhere (IsChangedAmong p x spoils reached found) least) a
    (subst (λ (x : List (List Guid)). IsLeastWhere (IsChangedAmong p places' x reached found) least) b
    (subst (λ (x : List ℕ). IsLeastWhere (IsChangedAmong p places' spoils' x found) least) c
    (subst (λ (x : List ℕ). IsLeastWhere (IsChangedAmong p places' spoils' reached' x) least) d
    (subst (λ (x : Option Guid). IsLeastWhere (IsChangedAmong p places' spoils' reached' found') x) e is))))

pub read-start : (places read : List PlaceRow) (guid a : Guid) (m : ℕ) (o : Option ℕ) → read ≡ places → guid ≡ a → MatchOption o (Contains read (record { guid = guid; bundle = m }) → ⊥) (λ n. slice_get read n ≡ Some (record { guid = guid; bundle = m })) → IsStart places a m o
read-start places read guid a m o same own is = subst (λ (g : Guid). IsStart places g m o) own (subst (λ (ps : List PlaceRow). IsStart ps guid m o) same (start-at read guid m o is))
