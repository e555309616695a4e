-- What is seen at a place is what is compared there.
use Rattle.std.proofs.Common.{◌≡◌, ◌↔◌, ◌<◌, ◌≤◌, ◌⊎◌, inl, inr, ℕ, Bool, true, false, List, [], ◌∷◌, length, get_or, map, Option, Some, None, refl, sym, ap, subst, ◌∙◌, arith}
use Rattle.std.proofs.lemmas.Bool.{cases_order, false≢true}
use Rattle.std.proofs.lemmas.Grind.{common_steps}
use Rattle.std.proofs.lemmas.List.Quantifiers.{position-Some}
use Rattle.std.proofs.lemmas.List.Sums.{fails_before_first}
use Rattle.std.proofs.lemmas.Option.{get_or_from_slice_get, slice_get-get_or, slice_get_within}
use Rattle.std.specs.Cmp.Lexicographic.{bytes_decides}
use Rattle.std.specs.List.{AllZip, Contains, position, position_or_len, slice_get}
use Rattle.std.specs.Str.{bytes_eq}
use Rattle.addr_base.specs.Ids.{hex_of}
use Rattle.addr_base.specs.Images.{Object}
use Rattle.addr_base.specs.declared.ids.Digest.{Digest}
use Rattle.addr_base.specs.declared.ids.Guid.{Guid}
use Rattle.addr_base.specs.declared.images.Home.{Home}
use Rattle.addr_base.specs.declared.images.Home.TheVariants.{Own, Other}
use Rattle.addr_base.specs.declared.images.RefTo.{RefTo}
use Rattle.addr_cab.specs.Lookup.{Held}
use Rattle.addr_cab.specs.Objects.{objects_of}
use Rattle.addr_cab.specs.declared.object.ObjectOut.{ObjectOut}
use Rattle.addr_layout.proofs.PlacedLemmas.{one-entry}
use Rattle.addr_layout.proofs.RankLemmas.{same-some}
use Rattle.addr_layout.specs.Agreement.{Place, place}
use Rattle.addr_layout.specs.Members.{IsShared}
use Rattle.addr_locate.specs.Rows.{Rows}
use Rattle.addr_locate.specs.declared.rows.BundleRow.{BundleRow}
use Rattle.addr_pack.specs.declared.bundles.Plan.{Plan}
use Rattle.addr_pack.specs.declared.bundles.PlanBundle.{PlanBundle}
use Rattle.addr_project.proofs.OnceLemmas.{from_map, to_map}
use Rattle.addr_project.specs.Kept.{IsKept}
use Rattle.addr_project.specs.declared.model.Asset.{Asset}
use Rattle.addr_project.specs.declared.model.Group.{Group}
use Rattle.addr_project.specs.Model.{Project}
use Rattle.addr_project.specs.Reach.{Item, item_of}
use Rattle.addr_release.specs.Names.{digest_from}
use Rattle.addr_release.specs.Opened.{Opened, Holds, Jumps, LeadsTo, item_of_object}
use Rattle.addr_resolve.proofs.CabLemmas.{held-object}
use Rattle.addr_resolve.specs.Graph.{place_at}
use Rattle.addr_resolve.specs.Items.{AreNamed, HoldOne, Lends, ShowsCabs}
use Rattle.addr_resolve.specs.declared.graph.PlaceRow.{PlaceRow}
use Rattle.addr_state.specs.declared.model.State.{State}
use Rattle.addr_state.specs.declared.model.StateBundle.{StateBundle}
use Rattle.addr_update.specs.Leading.{IsAwayAt, IsAwayFrom}
use Rattle.addr_update.specs.Moved.{IsAsNow, IsLedOn, Update}
use Rattle.addr_walks.proofs.Lists.{Contains-slice_get, slice_get-Contains}
use Rattle.addr_walks.proofs.Zips.{zip-left, zip-right}
use Rattle.addr_moves.specs.Fates.{comparing}
use Rattle.addr_moves.specs.Firsts.{AreFirsts, IsFirstAt, number_under}
use Rattle.addr_moves.specs.Stays.{StaysAs}
use Rattle.addr_moves.specs.declared.looks.Homes.{Homes}
use Rattle.addr_moves.specs.within.Anew.{IsAnewAt, name_under}
use Rattle.addr_moves.specs.within.Homes.{AreHomes}
use Rattle.addr_moves.specs.within.Leasts.{IsLeastWhere}
use Rattle.addr_moves.specs.within.Looks.{AnewAt, IsAwayBy, IsAwayOf, IsBuiltBy, IsGapBy, LedOnBy, StaysAt, home_of}
use Rattle.addr_moves.proofs.LeastLemmas.{least-same}

-- ---- the first bundle with a name

first-one : (texts : List (List ℕ)) (text : List ℕ) (o other : Option ℕ) → IsFirstAt texts text o → IsFirstAt texts text other → o ≡ other
first-one texts text None None first second = refl
first-one texts text None (Some n) first second = absurd (first (Contains-slice_get texts n text second.0))
first-one texts text (Some m) None first second = absurd (second (Contains-slice_get texts m text first.0))
first-one texts text (Some m) (Some n) first second = by_order (cases_order m n)
  where
    by_order : (m ≡ n) ⊎ ((m < n) ⊎ (n < m)) → Some m ≡ Some n
    by_order (inl same) = ap Some same
    by_order (inr (inl less)) = absurd (second.1 m less first.0)
    by_order (inr (inr less)) = absurd (first.1 n less second.0)

position-None : {X : Type 0} (p : X → Bool) (xs : List X) (k : ℕ) (d : X) → position p xs ≡ None → k < length xs → p (get_or xs k d) ≡ false
position-None p xs k d none within =
    let past : length xs ≤ position_or_len p xs = grind (arith, common_steps) in
    fails_before_first p xs k d (omega (arith, past, within))

module _ (was : List Opened) (rows : List BundleRow) (named : AreNamed was rows) (text : List ℕ) where
  has_name : Opened → Bool
  has_name file = bytes_eq file.name text

  nothing : Opened
  nothing = record { name = []; objects = [] }

  -- where the rows have the text, the files do
  file-named : (k : ℕ) → slice_get (map (λ (row : BundleRow). row.name) rows) k ≡ Some text → (k < length was) × (bytes_eq (get_or was k nothing).name text ≡ true)
  unfolding nothing
  file-named k at =
      let row = from_map (λ (row : BundleRow). row.name) rows k text at in
      let file = zip-right (λ (file : Opened) (row : BundleRow). file.name ≡ row.name) was rows named k row.0 row.1 in
      (slice_get_within was k file.0 file.1, (bytes_decides (get_or was k nothing).name text).1 (ap (λ (f : Opened). f.name) (get_or_from_slice_get was k file.0 nothing file.1) ∙ (file.2 ∙ row.2)))

  row-named : (k : ℕ) → k < length was → bytes_eq (get_or was k nothing).name text ≡ true → slice_get (map (λ (row : BundleRow). row.name) rows) k ≡ Some text
  unfolding nothing
  row-named k within is =
      let row = zip-left (λ (file : Opened) (row : BundleRow). file.name ≡ row.name) was rows named k (get_or was k nothing) (slice_get-get_or was k nothing within) in
      to_map (λ (row : BundleRow). row.name) rows k row.0 row.1 ∙ ap Some (sym row.2 ∙ (bytes_decides (get_or was k nothing).name text).0 is)

  position-first : (o : Option ℕ) → position (λ (file : Opened). bytes_eq file.name text) was ≡ o → IsFirstAt (map (λ (row : BundleRow). row.name) rows) text o
  position-first None is = λ here. (
      let at = slice_get-Contains (map (λ (row : BundleRow). row.name) rows) text here in
      let file = file-named at.0 at.1 in
      false≢true (sym (position-None (λ (file : Opened). bytes_eq file.name text) was at.0 nothing is file.0) ∙ file.1))
  position-first (Some n) is =
      let found = position-Some (λ (file : Opened). bytes_eq file.name text) was n nothing is in
      (row-named n found.0 found.1, λ k less at. (let file = file-named k at in false≢true (sym (found.2 k less) ∙ file.1)))

pub leads-home : (was : List Opened) (rows : List BundleRow) (find : List ℕ → Option ℕ) → AreNamed was rows → AreFirsts (map (λ (row : BundleRow). row.name) rows) find → (b : ℕ) (home : Home) (c : ℕ) → home_of find b home ≡ Some c → LeadsTo was b home c
leads-home was rows find named firsts b Own c is = same-some b c is
leads-home was rows find named firsts b (Other name) c is =
    let text = hex_of name.0 in
    first-one (map (λ (row : BundleRow). row.name) rows) text (position (λ (file : Opened). bytes_eq file.name text) was) (find text) (position-first was rows named text (position (λ (file : Opened). bytes_eq file.name text) was) refl) (firsts text) ∙ is

pub home-leads : (was : List Opened) (rows : List BundleRow) (find : List ℕ → Option ℕ) → AreNamed was rows → AreFirsts (map (λ (row : BundleRow). row.name) rows) find → (b : ℕ) (home : Home) (c : ℕ) → LeadsTo was b home c → home_of find b home ≡ Some c
home-leads was rows find named firsts b Own c is = ap Some is
home-leads was rows find named firsts b (Other name) c is =
    let text = hex_of name.0 in
    sym (first-one (map (λ (row : BundleRow). row.name) rows) text (position (λ (file : Opened). bytes_eq file.name text) was) (find text) (position-first was rows named text (position (λ (file : Opened). bytes_eq file.name text) was) refl) (firsts text)) ∙ is

-- ---- objects

pub lent-held : (was : List Opened) (cabs : List Held) → ShowsCabs was cabs → (q : PlaceRow) (x : Object) → Lends cabs q x → (o : ObjectOut) × Holds was (place_at q) o × (o.bytes ≡ x.bytes) × (o.refs ≡ x.refs)
lent-held was cabs shows q x (c, c-at, lent) =
    let file = zip-right (λ (file : Opened) (c : Held). file.objects ≡ objects_of c) was cabs shows q.bundle c c-at in
    let o = held-object c q.guid x lent in
    (o.0, (file.0, file.1, subst (λ (os : List ObjectOut). Contains os o.0) (sym file.2) o.1, o.2), o.3, o.4)

same-item : (i j : Item) → i.guid ≡ j.guid → i.bytes ≡ j.bytes → i.refs ≡ j.refs → i ≡ j
same-item i j guid bytes refs = λ k. record { guid = guid k; bytes = bytes k; refs = refs k }

module _ (s : State) (was : List Opened) (r : Rows) (p : Project) (now : Plan) (kept : IsKept p) (shared : IsShared p now)
    (cabs : List Held) (shows : ShowsCabs was cabs) (one : HoldOne was) (rows : List BundleRow) (named : AreNamed was rows)
    (h : Homes) (homes : AreHomes s p now rows h) where
  module _ (q : PlaceRow) (x : Object) (lends : Lends cabs q x) where
    o : ObjectOut
    o = (lent-held was cabs shows q x lends).0

    pub built-now : IsBuiltBy p q.guid x.bytes x.refs → IsAsNow (comparing s was r p now) (place_at q)
    built-now (asset, here, guid, bytes, refs) =
        let held = lent-held was cabs shows q x lends in (
          (held.0, held.1),
          λ other holds. (
            asset,
            here,
            ap item_of_object (one (place_at q) other held.0 holds held.1)
                ∙ same-item (item_of_object held.0) (item_of asset) (held.1.3 ∙ sym guid) (held.2 ∙ bytes) (ap (map (λ (y : RefTo). y.guid)) held.3 ∙ refs),
          ),
        )

    pub now-built : IsAsNow (comparing s was r p now) (place_at q) → IsBuiltBy p q.guid x.bytes x.refs
    now-built (some, each) =
        let held = lent-held was cabs shows q x lends in
        let found = each held.0 held.1 in (
          found.0,
          found.1,
          sym (ap (λ (i : Item). i.guid) found.2) ∙ held.1.3,
          sym held.2 ∙ ap (λ (i : Item). i.bytes) found.2,
          ap (map (λ (y : RefTo). y.guid)) (sym held.3) ∙ ap (λ (i : Item). i.refs) found.2,
        )

  -- ---- references

  led-on : (q : PlaceRow) (ref : RefTo) → LedOnBy h q.bundle ref → IsLedOn (comparing s was r p now) (place_at q) ref
  led-on q ref (inl own) = inl own
  led-on q ref (inr (inl (c, to, n, at))) =
      let old = zip-right (StaysAs s.fixed p) s.bundles h.stays homes.stays c (Some n) at in
      inr (inl (c, old.0, leads-home was rows (number_under h.names) named homes.names q.bundle ref.home c to, (old.1, old.2.0, (old.2.1.0, Contains-slice_get p.groups n old.2.1.0 old.2.1.1, old.2.1.2, old.2.1.3))))
  led-on q ref (inr (inr (name, home, find))) =
      let at : IsAnewAt p now (length now.bundles) ref.guid (Some name) = subst (IsAnewAt p now (length now.bundles) ref.guid) find (homes.anew ref.guid) in
      inr (inr (at.0, at.1, at.2.1, at.2.2, (at.2.3.0, (at.1, at.2.1, at.2.3.1), at.2.3.2), home ∙ ap Other at.3))

  by-led : (q : PlaceRow) (ref : RefTo) → IsLedOn (comparing s was r p now) (place_at q) ref → LedOnBy h q.bundle ref
  by-led q ref (inl own) = inl own
  by-led q ref (inr (inl (n, old, leads, (at, fixed, in-project)))) =
      let group = zip-left (StaysAs s.fixed p) s.bundles h.stays homes.stays n old at in
      by_group group.0 group.1 group.2
    where
      by_group : (g : Option ℕ) → slice_get h.stays n ≡ Some g → StaysAs s.fixed p old g → LedOnBy h q.bundle ref
      by_group None there never = absurd (never fixed in-project)
      by_group (Some k) there is = inr (inl (n, home-leads was rows (number_under h.names) named homes.names q.bundle ref.home n leads, k, there))
  by-led q ref (inr (inr (c, bundle, at, free, (x, (other, also, here), entry), home))) = by_name (name_under h.anew ref.guid.0) refl (homes.anew ref.guid)
    where
      same : other ≡ bundle
      same = same-some other bundle (sym also ∙ at)

      by_name : (name : Option Digest) → name_under h.anew ref.guid.0 ≡ name → IsAnewAt p now (length now.bundles) ref.guid (name_under h.anew ref.guid.0) → LedOnBy h q.bundle ref
      by_name None is none =
          let nowhere : IsAnewAt p now (length now.bundles) ref.guid None = subst (IsAnewAt p now (length now.bundles) ref.guid) is none in
          absurd (nowhere c bundle (slice_get_within now.bundles c bundle at, at, free, (x, subst (λ (b : PlanBundle). Contains b.entries x) same here, entry)))
      by_name (Some name) is has =
          let there : IsAnewAt p now (length now.bundles) ref.guid (Some name) = subst (IsAnewAt p now (length now.bundles) ref.guid) is has in
          let d : ℕ = there.0 in
          let plan : PlanBundle = there.1 in
          let y : ℕ = there.2.3.0 in
          let entries : x ≡ y = one-entry p kept x y ref.guid entry there.2.3.2 in
          let number : c ≡ d = shared.one c d x (other, also, here) (plan, there.2.1, subst (Contains plan.entries) (sym entries) there.2.3.1) in
          let bundles : bundle ≡ plan = same-some bundle plan (sym at ∙ (ap (slice_get now.bundles) number ∙ there.2.1)) in
          inr (inr (name, home ∙ ap (λ (b : PlanBundle). Other (digest_from b.name)) bundles ∙ ap Other (sym there.3), is))

  -- the least asset that a place is led away from
  pub away-at : (q : PlaceRow) (away : Option Guid) → IsAwayOf cabs h q away → IsAwayAt (comparing s was r p now) (place_at q) away
  away-at q None (x, lends, none) = λ d (other, holds, ref, here, guid, fails). none d (ref, from-held other holds ref here, (λ led. fails (led-on q ref led)), guid)
    where
      held : (o : ObjectOut) × Holds was (place_at q) o × (o.bytes ≡ x.bytes) × (o.refs ≡ x.refs)
      held = lent-held was cabs shows q x lends

      from-held : (other : ObjectOut) → Holds was (place_at q) other → (ref : RefTo) → Contains other.refs ref → Contains x.refs ref
      from-held other holds ref here = subst (λ (rs : List RefTo). Contains rs ref) (lent-held was cabs shows q x lends).3 (subst (λ (y : ObjectOut). Contains y.refs ref) (one (place_at q) other (lent-held was cabs shows q x lends).0 holds (lent-held was cabs shows q x lends).1) here)
  away-at q (Some g) (x, lends, least) = least-same (IsAwayBy h q x) (IsAwayFrom (comparing s was r p now) (place_at q)) to from (Some g) least
    where
      to : (d : Guid) → IsAwayBy h q x d → IsAwayFrom (comparing s was r p now) (place_at q) d
      to d (ref, here, stray, guid) =
          let held = lent-held was cabs shows q x lends in
          (held.0, held.1, ref, subst (λ (rs : List RefTo). Contains rs ref) (sym held.3) here, guid, λ led. stray (by-led q ref led))

      from : (d : Guid) → IsAwayFrom (comparing s was r p now) (place_at q) d → IsAwayBy h q x d
      from d (other, holds, ref, here, guid, fails) =
          let held = lent-held was cabs shows q x lends in
          let same = one (place_at q) other held.0 holds held.1 in
          (ref, subst (λ (rs : List RefTo). Contains rs ref) held.3 (subst (λ (y : ObjectOut). Contains y.refs ref) same here), (λ led. fails (led-on q ref led)), guid)
