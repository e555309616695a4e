-- The places of bundles, gathered bundle by bundle.
use Rattle.std.proofs.Common.{◌≡◌, ◌<◌, ◌≤◌, ◌+◌, ℕ, List, [], ◌∷◌, ◌++◌, length, get_or, take, map, find, Option, Some, None, refl, ap, subst, sym, ◌∙◌, ◌⊎◌, inl, inr, arith, length-take}
use Rattle.std.proofs.Math.Seq.{take-length}
use Rattle.std.proofs.lemmas.List.{map-append, take_more}
use Rattle.std.proofs.lemmas.List.Elements.{Contains-append_left, Contains-append_right, Contains-append_cases}
use Rattle.std.proofs.lemmas.Slice.Eq.{bytes_eq-Decides}
use Rattle.std.specs.List.{Contains, slice_get}
use Rattle.std.specs.Option.{option_map}
use Rattle.addr_base.specs.Images.{Object}
use Rattle.addr_base.specs.declared.ids.Guid.{Guid}
use Rattle.addr_cab.specs.Faults.{has_guid}
use Rattle.addr_cab.specs.Lookup.{Held, object_bytes}
use Rattle.addr_cab.specs.declared.object.ObjectRow.{ObjectRow}
use Rattle.addr_walks.proofs.Lists.{Contains-map, map-Contains, Contains-none, Contains-slice_get, slice_get-append_left, slice_get-push_cases, slice_get-push_last}
use Rattle.addr_resolve.specs.Items.{AreHeld, Lends}
use Rattle.addr_resolve.specs.Places.{ArePlaces, IsPlace, row_places}
use Rattle.addr_resolve.specs.declared.graph.PlaceRow.{PlaceRow}
use Rattle.addr_cab.specs.Objects.{objects_of}
use Rattle.addr_cab.specs.declared.object.ObjectOut.{ObjectOut}
use Rattle.addr_layout.specs.Agreement.{Place}
use Rattle.addr_release.specs.Opened.{Opened, Holds}
use Rattle.addr_walks.proofs.Lists.{slice_get-Contains}
use Rattle.addr_walks.proofs.Zips.{zip-left, zip-right}
use Rattle.addr_resolve.specs.Graph.{ShowsPlaces, place_at}
use Rattle.addr_resolve.specs.Items.{ShowsCabs}
use Rattle.addr_resolve.proofs.CabLemmas.{find-none, object_of_row}

row-place : ℕ → ObjectRow → PlaceRow
row-place b o = record { guid = o.guid; bundle = b }

-- one more object
pub rows-more : (places new : List PlaceRow) (first : List PlaceRow) (rows : List ObjectRow) (k b : ℕ) (row : ObjectRow) → k < length rows → row ≡ get_or rows k row
    → places ≡ first ++ row_places b (take k rows) → new ≡ places ++ (let q : PlaceRow = record { guid = row.guid; bundle = b } in q) ∷ []
    → new ≡ first ++ row_places b (take (k + 1) rows)
unfolding row-place
rows-more places new first rows k b row within read before is =
    let f = row-place b in
    let more : map f (take (k + 1) rows) ≡ map f (take k rows) ++ f row ∷ [] = ap (map f) (take_more rows k row within ∙ ap (λ z. take k rows ++ z ∷ []) (sym read)) ∙ map-append f (take k rows) (row ∷ []) in
    is ∙ (ap (λ ps. ps ++ f row ∷ []) before ∙ (append-assoc first (map f (take k rows)) (f row ∷ []) ∙ ap (λ ps. first ++ ps) (sym more)))
  where
    append-assoc : (xs ys zs : List PlaceRow) → (xs ++ ys) ++ zs ≡ xs ++ (ys ++ zs)
    append-assoc [] ys zs = refl
    append-assoc (x ∷ xs) ys zs = ap (λ ws. x ∷ ws) (append-assoc xs ys zs)

pub places-none : ArePlaces [] []
places-none q = (λ here. absurd (Contains-none q here), λ place. absurd (cc place.1))

-- one more bundle
pub places-more : (cabs : List Held) (k : ℕ) (c : Held) (places new : List PlaceRow) → k < length cabs → c ≡ get_or cabs k c → ArePlaces (take k cabs) places → new ≡ places ++ row_places k c.rows
    → ArePlaces (take (k + 1) cabs) new
unfolding row-place
places-more cabs k c places new within read before is = subst (λ cs. ArePlaces cs new) (sym (take_more cabs k c within ∙ ap (λ z. take k cabs ++ z ∷ []) (sym read)))
    (λ q. (λ here. there q (Contains-append_cases places (map (row-place k) c.rows) q (subst (λ (ps : List PlaceRow). Contains ps q) is here)), λ place. subst (λ (ps : List PlaceRow). Contains ps q) (sym is) (back q place)))
  where
    long : length (take k cabs) ≡ k
    long = omega (arith, length-take k cabs, within)

    last : slice_get (take k cabs ++ c ∷ []) k ≡ Some c
    last = subst (λ n. slice_get (take k cabs ++ c ∷ []) n ≡ Some c) long (slice_get-push_last (take k cabs) c)

    there : (q : PlaceRow) → Contains places q ⊎ Contains (map (row-place k) c.rows) q → IsPlace (take k cabs ++ c ∷ []) q
    there q (inl old) = let place = (before q).0 old in (place.0, slice_get-append_left (take k cabs) (c ∷ []) q.bundle place.0 place.1, place.2, place.3, place.4)
    there q (inr new) =
        let row = map-Contains (row-place k) c.rows q new in
        (c, subst (λ n. slice_get (take k cabs ++ c ∷ []) n ≡ Some c) (ap (λ (p : PlaceRow). p.bundle) row.2) last, row.0, row.1, ap (λ (p : PlaceRow). p.guid) row.2)

    back : (q : PlaceRow) → IsPlace (take k cabs ++ c ∷ []) q → Contains (places ++ map (row-place k) c.rows) q
    back q (d, at, o, here, guid) = by_side (slice_get-push_cases (take k cabs) c q.bundle d at)
      where
        by_side : (slice_get (take k cabs) q.bundle ≡ Some d) ⊎ ((q.bundle ≡ length (take k cabs)) × (c ≡ d)) → Contains (places ++ map (row-place k) c.rows) q
        by_side (inl old) = Contains-append_left places (map (row-place k) c.rows) q ((before q).1 (d, old, o, here, guid))
        by_side (inr (number, same)) =
            let is-place : row-place k o ≡ q = ap (λ g. let x : PlaceRow = record { guid = g; bundle = k } in x) guid ∙ ap (λ n. let x : PlaceRow = record { guid = q.guid; bundle = n } in x) (sym (number ∙ long)) in
            Contains-append_right places (map (row-place k) c.rows) q (subst (Contains (map (row-place k) c.rows)) is-place (Contains-map (row-place k) c.rows o (subst (λ (h : Held). Contains h.rows o) (sym same) here)))

-- what a place's bundle has is lent
lent-at : (cabs : List Held) (q : PlaceRow) → IsPlace cabs q → (x : Object) × Lends cabs q x
lent-at cabs q (c, at, o, here, guid) = by_found (find (has_guid q.guid.0) c.rows) refl
  where
    by_found : (f : Option ObjectRow) → find (has_guid q.guid.0) c.rows ≡ f → (x : Object) × Lends cabs q x
    by_found (Some r) is = (record { bytes = object_bytes c r; refs = r.refs }, (c, at, ap (option_map (λ (r : ObjectRow). let y : Object = record { bytes = object_bytes c r; refs = r.refs } in y)) is))
    by_found None is = absurd (find-none (has_guid q.guid.0) c.rows o is here ((bytes_eq-Decides o.guid.0 q.guid.0).1 (ap (λ (v : Guid). v.0) guid)))

pub are-held : (cabs : List Held) (places : List PlaceRow) → ArePlaces cabs places → AreHeld cabs places
are-held cabs places are n q at = lent-at cabs q ((are q).0 (Contains-slice_get places n q at))

-- the same places in another order
pub same-places : (cabs : List Held) (places sorted : List PlaceRow) → ((q : PlaceRow) → (Contains sorted q → Contains places q) × (Contains places q → Contains sorted q)) → ArePlaces cabs places → ArePlaces cabs sorted
same-places cabs places sorted same are q = (λ here. (are q).0 ((same q).0 here), λ place. (same q).1 ((are q).1 place))

-- a list taken to its end
pub take-end : {X : Type 0} (xs : List X) (n : ℕ) → n ≤ length xs → length xs ≤ n → take n xs ≡ xs
take-end xs n low high = (let same : n ≡ length xs = omega (arith, low, high) in ap (λ m. take m xs) same ∙ take-length xs)

pub append-none : {X : Type 0} (xs : List X) → xs ≡ xs ++ []
append-none [] = refl
append-none (x ∷ xs) = ap (λ ys. x ∷ ys) (append-none xs)

abbrev Shows : Opened → Held → Type 0
Shows file c = file.objects ≡ objects_of c

-- the places of what the bundles have are those at which their files hold something
pub shows-places : (cabs : List Held) (places : List PlaceRow) → ArePlaces cabs places → (files : List Opened) → ShowsCabs files cabs → ShowsPlaces files places
unfolding object_of_row
shows-places cabs places are files shows = record {
  held = λ n q at. held q ((are q).0 (Contains-slice_get places n q at));
  all = λ q o holds. all q o holds;
}
  where
    held : (q : PlaceRow) → IsPlace cabs q → (o : ObjectOut) × Holds files (place_at q) o
    held q (c, at, row, here, guid) =
        let file = zip-right Shows files cabs shows q.bundle c at in
        (object_of_row c row, (file.0, file.1, subst (λ (os : List ObjectOut). Contains os (object_of_row c row)) (sym file.2) (Contains-map (object_of_row c) c.rows row here), guid))

    all : (q : Place) (o : ObjectOut) → Holds files q o → (n : ℕ) × (row : PlaceRow) × (slice_get places n ≡ Some row) × (place_at row ≡ q)
    all q o (file, at, here, guid) =
        let c = zip-left Shows files cabs shows q.bundle file at in
        let row = map-Contains (object_of_row c.0) c.0.rows o (subst (λ (os : List ObjectOut). Contains os o) c.2 here) in
        let p : PlaceRow = record { guid = q.guid; bundle = q.bundle } in
        let there = slice_get-Contains places p ((are p).1 (c.0, c.1, row.0, row.1, ap (λ (x : ObjectOut). x.guid) row.2 ∙ guid)) in
        (there.0, p, there.1, refl)
