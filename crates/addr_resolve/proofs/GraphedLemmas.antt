-- The graph of opened files, from where the references of all places lead.
use Rattle.std.proofs.Common.{◌≡◌, ◌<◌, ℕ, suc, List, [], ◌∷◌, length, Option, Some, None, Less, refl, ap, subst, sym, ◌∙◌}
use Rattle.std.proofs.lemmas.Option.{slice_get_within}
use Rattle.std.specs.List.{AllZip, Contains, slice_get}
use Rattle.addr_base.specs.Ids.{hex_of}
use Rattle.addr_base.specs.Images.{Object}
use Rattle.addr_base.specs.declared.ids.Guid.{Guid}
use Rattle.addr_base.specs.declared.images.Home.{Home}
use Rattle.addr_base.specs.declared.images.Home.TheVariants.{Own, Other}
use Rattle.addr_base.specs.declared.images.RefTo.{RefTo}
use Rattle.addr_cab.specs.Lookup.{Held}
use Rattle.addr_cab.specs.Objects.{objects_of}
use Rattle.addr_cab.specs.declared.object.ObjectOut.{ObjectOut}
use Rattle.addr_layout.specs.Agreement.{Place, place}
use Rattle.addr_layout.proofs.RankLemmas.{same-some}
use Rattle.addr_locate.specs.declared.rows.BundleRow.{BundleRow}
use Rattle.addr_project.specs.Reach.{guid_cmp}
use Rattle.addr_release.specs.Opened.{Opened, Holds, LeadsTo}
use Rattle.addr_walks.proofs.Zips.{zip-left, zip-right}
use Rattle.addr_walks.specs.Rows.{AreBelow, Edge}
use Rattle.addr_resolve.specs.Graph.{AreInOrder, Finds, IsGraph, IsLostAt, Misses, ShowsPlaces, place_at}
use Rattle.addr_resolve.specs.Items.{AreNamed, HoldOne, Lends, ShowsCabs}
use Rattle.addr_resolve.specs.within.Leading.{AreFirsts, IsUnresolved, IsLostOf, IsRowOf, LeadsAt, bundle_of}
use Rattle.addr_resolve.specs.declared.graph.PlaceRow.{PlaceRow}
use Rattle.addr_resolve.proofs.CabLemmas.{held-object}
use Rattle.addr_resolve.proofs.FirstLemmas.{first-file}

pub zip-length : {A B : Type 0} (R : A → B → Type 0) (xs : List A) (ys : List B) → AllZip R xs ys → length ys ≡ length xs
zip-length R [] [] zipped = refl
zip-length R [] (y ∷ ys) zipped = absurd zipped
zip-length R (x ∷ xs) [] zipped = absurd zipped
zip-length R (x ∷ xs) (y ∷ ys) zipped = ap suc (zip-length R xs ys zipped.1)

-- numbers in rows are those of places
pub rows-below : (find : List ℕ → Option ℕ) (cabs : List Held) (places : List PlaceRow) (rows : List (List ℕ)) → AllZip (IsRowOf find cabs places) places rows → AreBelow rows (length rows)
rows-below find cabs places rows all-targets = record { each = λ b n edge. below b n edge }
  where
    within : (n : ℕ) (q : PlaceRow) (row : List ℕ) → IsRowOf find cabs places q row → Contains row n → n < length rows
    within n q row (x, lent, targets) here = by_ref (targets.within n here)
      where
        by_ref : (r : RefTo) × Contains x.refs r × LeadsAt find places q.bundle r n → n < length rows
        by_ref (r, among, (c, to, at)) =
            subst (λ m. n < m) (sym (zip-length (IsRowOf find cabs places) places rows all-targets)) (slice_get_within places n (let s : PlaceRow = record { guid = r.guid; bundle = c } in s) at)

    below : (b n : ℕ) → Edge rows b n → n < length rows
    below b n (row, at, here) =
        let q = zip-right (IsRowOf find cabs places) places rows all-targets b row at in
        within n q.0 row q.2 here

abbrev Shows : Opened → Held → Type 0
Shows file c = file.objects ≡ objects_of c

module _ (files : List Opened) (bundles : List BundleRow) (cabs : List Held) (places : List PlaceRow) (find : List ℕ → Option ℕ) (names : AreNamed files bundles) (firsts : AreFirsts bundles find) (shows : ShowsCabs files cabs) (shown : ShowsPlaces files places) (one : HoldOne files) where
  leads-to : (b : ℕ) (home : Home) (c : ℕ) → bundle_of find b home ≡ Some c → LeadsTo files b home c
  leads-to b Own c e = same-some b c e
  leads-to b (Other name) c e = sym (first-file files bundles find names firsts (hex_of name.0)) ∙ e

  to-leads : (b : ℕ) (home : Home) (c : ℕ) → LeadsTo files b home c → bundle_of find b home ≡ Some c
  to-leads b Own c same = ap Some same
  to-leads b (Other name) c e = first-file files bundles find names firsts (hex_of name.0) ∙ e

  -- what is lent is what the place holds
  held-at : (q : PlaceRow) (x : Object) → Lends cabs q x → (o : ObjectOut) × Holds files (place_at q) o × (o.refs ≡ x.refs)
  held-at q x (c, at, lent) =
      let file = zip-right Shows files cabs shows q.bundle c at in
      let o = held-object c q.guid x lent in
      (o.0, (file.0, file.1, subst (λ (os : List ObjectOut). Contains os o.0) (sym file.2) o.1, o.2), o.4)

  same-refs : (q : PlaceRow) (x : Object) → Lends cabs q x → (o : ObjectOut) → Holds files (place_at q) o → o.refs ≡ x.refs
  same-refs q x lent o holds = let held = held-at q x lent in ap (λ (w : ObjectOut). w.refs) (one (place_at q) o held.0 holds held.1) ∙ held.2

  -- a reference leads to a number exactly where it leads to a place that holds something
  leads-held : (b : ℕ) (r : RefTo) (n : ℕ) → LeadsAt find places b r n → (c : ℕ) × LeadsTo files b r.home c × ((o : ObjectOut) × Holds files (place c r.guid) o)
  leads-held b r n (c, to, at) = (c, leads-to b r.home c to, shown.held n (let s : PlaceRow = record { guid = r.guid; bundle = c } in s) at)

  row-at : (p : PlaceRow) (c : ℕ) (g : Guid) → place_at p ≡ place c g → p ≡ (let s : PlaceRow = record { guid = g; bundle = c } in s)
  row-at p c g is = ap (λ (z : Place). let s : PlaceRow = record { guid = z.guid; bundle = z.bundle } in s) is

  held-leads : (b : ℕ) (r : RefTo) (c : ℕ) (o : ObjectOut) → LeadsTo files b r.home c → Holds files (place c r.guid) o → (n : ℕ) × LeadsAt find places b r n
  held-leads b r c o leads holds =
      let there = shown.all (place c r.guid) o holds in
      (there.0, (c, to-leads b r.home c leads, there.2 ∙ ap Some (row-at there.1 c r.guid there.3)))

  -- what a place loses
  lost-at : (q : PlaceRow) (l : Option Guid) → IsLostOf find cabs places q l → IsLostAt files (place_at q) l
  lost-at q None (x, lent, every) = λ o r holds among. (let to = every r (subst (λ (rs : List RefTo). Contains rs r) (same-refs q x lent o holds) among) in leads-held q.bundle r to.0 to.1)
  lost-at q (Some g) (x, lent, ((r, among, guid, unresolved), least)) = (
    (
      held.0,
      held.1,
      r,
      subst (λ (rs : List RefTo). Contains rs r) (sym held.2) among,
      guid,
      λ (c, leads, (o, holds)). (let to = held-leads q.bundle r c o leads (subst (λ z. Holds files (place c z) o) (sym guid) holds) in unresolved to.0 to.1),
    ),
    λ h misses less. other h misses less,
  )
    where
      held : (o : ObjectOut) × Holds files (place_at q) o × (o.refs ≡ x.refs)
      held = held-at q x lent

      other : (h : Guid) → Misses files (place_at q) h → guid_cmp h g ≡ Less → ⊥
      other h (o, holds, s, beside, guid', nowhere) less = least s (subst (λ (rs : List RefTo). Contains rs s) (same-refs q x lent o holds) beside) unresolved' (subst (λ z. guid_cmp z g ≡ Less) (sym guid') less)
        where
          unresolved' : IsUnresolved find places q.bundle s
          unresolved' n leads = let to = leads-held q.bundle s n leads in nowhere (to.0, to.1, subst (λ z. (w : ObjectOut) × Holds files (place to.0 z) w) guid' to.2)

  -- where its references lead
  targets-up : (n : ℕ) (q : PlaceRow) (row : List ℕ) → IsRowOf find cabs places q row → Contains row n → (s : PlaceRow) × (slice_get places n ≡ Some s) × Finds files (place_at q) (place_at s)
  targets-up n q row (x, lent, targets) here = by_ref (targets.within n here)
    where
      held : (o : ObjectOut) × Holds files (place_at q) o × (o.refs ≡ x.refs)
      held = held-at q x lent

      by_ref : (r : RefTo) × Contains x.refs r × LeadsAt find places q.bundle r n → (s : PlaceRow) × (slice_get places n ≡ Some s) × Finds files (place_at q) (place_at s)
      by_ref (r, among, (c, to, at)) =
          let s : PlaceRow = record { guid = r.guid; bundle = c } in
          (s, at, ((held.0, held.1, r, subst (λ (rs : List RefTo). Contains rs r) (sym held.2) among, refl, leads-to q.bundle r.home c to), shown.held n s at))

  targets-down : (q : PlaceRow) (s : Place) (row : List ℕ) → IsRowOf find cabs places q row → Finds files (place_at q) s → (n : ℕ) × (p : PlaceRow) × (slice_get places n ≡ Some p) × (place_at p ≡ s) × Contains row n
  targets-down q s row (x, lent, targets) ((o, holds, r, among, guid, leads), (w, there)) = by_end (targets.all r to.0 (subst (λ (rs : List RefTo). Contains rs r) (same-refs q x lent o holds) among) to.1)
    where
      to : (n : ℕ) × LeadsAt find places q.bundle r n
      to = held-leads q.bundle r s.bundle w leads (subst (λ g. Holds files (place s.bundle g) w) (sym guid) there)

      by_end : (m : ℕ) × Contains row m × LeadsAt find places q.bundle r m → (n : ℕ) × (p : PlaceRow) × (slice_get places n ≡ Some p) × (place_at p ≡ s) × Contains row n
      by_end (m, here, (c, goes, at)) =
          let p : PlaceRow = record { guid = r.guid; bundle = c } in
          let same : c ≡ s.bundle = same-some c s.bundle (sym goes ∙ to-leads q.bundle r.home s.bundle leads) in
          (m, p, at, ap (λ b. place b r.guid) same ∙ ap (λ g. place s.bundle g) guid, here)

  module _ (rows : List (List ℕ)) (lost : List (Option Guid)) (ordered : AreInOrder places) (all-targets : AllZip (IsRowOf find cabs places) places rows) (all-losses : AllZip (IsLostOf find cabs places) places lost) where
    up : (m n : ℕ) (q : PlaceRow) → slice_get places m ≡ Some q → Edge rows m n → (s : PlaceRow) × (slice_get places n ≡ Some s) × Finds files (place_at q) (place_at s)
    up m n q at (row, there, here) =
        let own = zip-left (IsRowOf find cabs places) places rows all-targets m q at in
        targets-up n q own.0 own.2 (subst (λ (ns : List ℕ). Contains ns n) (same-some row own.0 (sym there ∙ own.1)) here)

    down : (m : ℕ) (q : PlaceRow) (s : Place) → slice_get places m ≡ Some q → Finds files (place_at q) s → (n : ℕ) × (row : PlaceRow) × (slice_get places n ≡ Some row) × (place_at row ≡ s) × Edge rows m n
    down m q s at finds =
        let own = zip-left (IsRowOf find cabs places) places rows all-targets m q at in
        let end = targets-down q s own.0 own.2 finds in
        (end.0, end.1, end.2, end.3, (own.0, own.1, end.4))

    missed : (n : ℕ) (q : PlaceRow) (l : Option Guid) → slice_get places n ≡ Some q → slice_get lost n ≡ Some l → IsLostAt files (place_at q) l
    missed n q l at there =
        let own = zip-left (IsLostOf find cabs places) places lost all-losses n q at in
        subst (IsLostAt files (place_at q)) (same-some own.0 l (sym own.1 ∙ there)) (lost-at q own.0 own.2)

    pub graphed : IsGraph files places rows lost
    graphed = record {
      held = shown.held;
      all = shown.all;
      ordered = ordered;
      rows_many = zip-length (IsRowOf find cabs places) places rows all-targets;
      below = rows-below find cabs places rows all-targets;
      up = up;
      down = down;
      missed_many = zip-length (IsLostOf find cabs places) places lost all-losses;
      missed = missed;
    }
