-- Rows one by one: what is lost where nothing is there, and one more row at a step of the loop.
use Rattle.std.proofs.Common.{ℕ, zero, suc, Bool, true, false, nat_lt, ◌&&◌, ◌≡◌, ◌≤◌, ◌+◌, ◌<◌, inl, inr, ◌∙◌, List, [], ◌∷◌, ◌++◌, length, get_or, map, take, Option, Some, Less, Equal, refl, ap, sym, subst, arith}
use Rattle.std.proofs.lemmas.Bool.{false≢true}
use Rattle.addr_layout.proofs.RankLemmas.{same-some}
use Rattle.addr_locate.specs.Rows.{are_bundles, has_dep, has_sound_deps, no_repeats}
use Rattle.addr_resolve.specs.declared.rows.RowErr.{RowErr}
use Rattle.addr_resolve.specs.declared.rows.RowErr.TheVariants.{Lost as LostIn, NoMemory as RowNoMemory}
use Rattle.std.proofs.lemmas.Cmp.{tied_itself, nat_list_cmp_total}
use Rattle.std.proofs.lemmas.List.{map-append}
use Rattle.std.proofs.lemmas.List.Elements.{recursion_from_All}
use Rattle.std.proofs.lemmas.Option.{get_or_from_slice_get, slice_get-get_or, slice_get_within}
use Rattle.std.specs.List.{AllZip, Contains, slice_get}
use Rattle.std.specs.List.Sorted.{IsStrictlySortedBy}
use Rattle.std.specs.Ordering.{nat_cmp, ordering_then}
use Rattle.std.specs.Prelude.{IsErrAnd, Result, Ok, Err}
use Rattle.addr_base.specs.declared.ids.BundleNo.{BundleNo}
use Rattle.addr_base.specs.declared.ids.Guid.{Guid}
use Rattle.addr_base.specs.declared.ids.RowNo.{RowNo}
use Rattle.addr_cab.specs.declared.object.ObjectOut.{ObjectOut}
use Rattle.addr_layout.specs.Agreement.{Place}
use Rattle.addr_locate.specs.Rows.{Rows}
use Rattle.addr_locate.specs.declared.rows.AssetRow.{AssetRow}
use Rattle.addr_project.specs.Reach.{Row, guid_cmp}
use Rattle.addr_release.specs.Opened.{Opened, Holds, Jumps}
use Rattle.addr_release.specs.Resolve.{ResolvesRow}
use Rattle.addr_walks.specs.Walks.{Leads}
use Rattle.addr_walks.specs.Walks.Leads.{stays, goes}
use Rattle.addr_walks.proofs.Lists.{Contains-slice_get}
use Rattle.addr_walks.proofs.Zips.{zip-more, zip-right}
use Rattle.addr_resolve.specs.Graph.{AreInOrder, Before, IsGraph, place_at}
use Rattle.addr_resolve.specs.Lost.{IsFirstLost, IsFirstUnfound, IsUnfound, LosesRow}
use Rattle.addr_resolve.specs.Order.{place_cmp}
use Rattle.addr_resolve.specs.Resolving.{IsFirstLostRow, row_view}
use Rattle.addr_resolve.specs.declared.rows.Resolved.{Resolved}
use Rattle.addr_resolve.specs.Stops.{StopsAt}
use Rattle.addr_resolve.specs.within.Steps.{AreNumbersOf, FindsFrom, IsLostRow, NamesLost, ResolvesNamed, ResolvesRows}
use Rattle.addr_resolve.specs.declared.graph.PlaceRow.{PlaceRow}
use Rattle.addr_resolve.specs.declared.items.Item.{Item}
use Rattle.addr_resolve.specs.declared.unfolding.Stop.{Stop}
use Rattle.addr_resolve.specs.declared.unfolding.Stop.TheVariants.{Lost, NoMemory}
use Rattle.addr_resolve.proofs.UnfoldLemmas.{less-nat}
use borrow.Author.Tests.{ltb-true}

-- ---- places in order are a sorted list

before-less : (q s : PlaceRow) → Before q s → place_cmp q s ≡ Less
before-less q s (inl below) = ap (λ o. ordering_then o (nat_cmp q.bundle s.bundle)) below
before-less q s (inr (same, bundles)) =
    let tie : guid_cmp q.guid s.guid ≡ Equal = ap (λ (g : Guid). guid_cmp g s.guid) same ∙ tied_itself nat_list_cmp_total s.guid.0 in
    ap (λ o. ordering_then o (nat_cmp q.bundle s.bundle)) tie ∙ less-nat q.bundle s.bundle bundles

pub sorted-from : (places : List PlaceRow) → AreInOrder places → IsStrictlySortedBy place_cmp places
unfolding IsStrictlySortedBy
sorted-from [] ordered = tt
sorted-from (q ∷ qs) ordered = (
  recursion_from_All (λ s. place_cmp q s ≡ Less) qs (λ k d within. before-less q (get_or qs k d) (ordered 0 (suc k) q (get_or qs k d) refl (slice_get-get_or qs k d within) (omega arith))),
  sorted-from qs (λ m n a b at there less. ordered (suc m) (suc n) a b at there (omega (arith, less))),
)

-- ---- where nothing is there

no-steps : (files : List Opened) (start s : Place) → ((o : ObjectOut) × Holds files start o → ⊥) → Leads (Jumps files) start s → start ≡ s
no-steps files start s empty stays = refl
no-steps files start s empty (goes {x = x} {y = y} before step) =
    let same = no-steps files start x empty before in
    absurd (empty (step.0, subst (λ (q : Place). Holds files q step.0) (sym same) step.1))

pub lost-start : (files : List Opened) (start : Place) → ((o : ObjectOut) × Holds files start o → ⊥) → IsFirstUnfound files start start.guid
lost-start files start empty = (inl (refl, empty), λ h unfound less. by_case h unfound less)
  where
    by_case : (h : Guid) → IsUnfound files start h → guid_cmp h start.guid ≡ Less → ⊥
    by_case h (inl (same, none)) less = (let tie : guid_cmp h start.guid ≡ Equal = ap (λ (g : Guid). guid_cmp g start.guid) (sym same) ∙ tied_itself nat_list_cmp_total start.guid.0 in cc)
    by_case h (inr (s, walk, misses)) less = empty (misses.0, subst (λ (q : Place). Holds files q misses.0) (sym (no-steps files start s empty walk)) misses.1)

found-start : (files : List Opened) (start : Place) (g : Guid) → ((o : ObjectOut) × Holds files start o) → IsFirstLost files start g → IsFirstUnfound files start g
found-start files start g holds lost = (inr lost.0, λ h unfound less. by_case h unfound less)
  where
    by_case : (h : Guid) → IsUnfound files start h → guid_cmp h g ≡ Less → ⊥
    by_case h (inl (same, none)) less = absurd (none holds)
    by_case h (inr missed) less = lost.1 h missed less

pub finds-stops : (files : List Opened) (start : Place) (r : Result (List Item) Stop) → ((o : ObjectOut) × Holds files start o) → StopsAt files start r → FindsFrom files start r
finds-stops files start (Ok items) holds is = is
finds-stops files start (Err (Lost g)) holds is = found-start files start g holds is
finds-stops files start (Err NoMemory) holds is = tt

same-row : (q s : PlaceRow) → place_at q ≡ place_at s → q ≡ s
same-row q s same = ap (λ (p : Place). let r : PlaceRow = record { guid = p.guid; bundle = p.bundle } in r) same

pub not-held : (files : List Opened) (places : List PlaceRow) (rows : List (List ℕ)) (lost : List (Option Guid)) → IsGraph files places rows lost → (start : PlaceRow)
    → (Contains places start → ⊥) → (o : ObjectOut) × Holds files (place_at start) o → ⊥
not-held files places rows lost graph start none (o, holds) =
    let found = graph.all (place_at start) o holds in
    none (subst (Contains places) (same-row found.1 start found.3) (Contains-slice_get places found.0 found.1 found.2))

zip-length : {A B : Type 0} (R : A → B → Type 0) (xs : List A) (ys : List B) → AllZip R xs ys → length xs ≡ length ys
zip-length R [] [] zip = refl
zip-length R [] (b ∷ bs) zip = absurd zip
zip-length R (a ∷ as') [] zip = absurd zip
zip-length R (a ∷ as') (b ∷ bs) zip = ap suc (zip-length R as' bs zip.1)

take-all : {X : Type 0} (k : ℕ) (xs : List X) → length xs ≤ k → take k xs ≡ xs
take-all zero [] long = refl
take-all zero (x ∷ xs) long = absurd (omega (arith, long))
take-all (suc k) [] long = refl
take-all (suc k) (x ∷ xs) long = ap (λ ys. x ∷ ys) (take-all k xs (omega (arith, long)))

-- ---- one more row

row-at : (r : Rows) (rows : List AssetRow) (numbers : List RowNo) (k : ℕ) (n : RowNo) (a : AssetRow) → AreNumbersOf r rows numbers → slice_get numbers k ≡ Some n → slice_get r.assets n.0 ≡ Some a → slice_get rows k ≡ Some a
row-at r rows numbers k n a zipped at is =
    let beside = zip-right (λ (row : AssetRow) (m : RowNo). slice_get r.assets m.0 ≡ Some row) rows numbers zipped k n at in
    beside.1 ∙ (sym beside.2 ∙ is)

pub one-more : (r : Rows) (files : List Opened) (rows : List AssetRow) (numbers : List RowNo) (k : ℕ) (n : RowNo) (a : AssetRow) (shown : List Row) (new : Row)
    → AreNumbersOf r rows numbers → slice_get numbers k ≡ Some n → slice_get r.assets n.0 ≡ Some a → AllZip (ResolvesRow r files) (take k rows) shown → ResolvesRow r files a new
    → AllZip (ResolvesRow r files) (take (k + 1) rows) (shown ++ new ∷ [])
one-more r files rows numbers k n a shown new zipped at is sofar here =
    let there = row-at r rows numbers k n a zipped at is in
    zip-more (ResolvesRow r files) rows shown k a new (slice_get_within rows k a there) (sym (get_or_from_slice_get rows k a a there)) sofar here

pub first-lost-row : (r : Rows) (files : List Opened) (rows : List AssetRow) (numbers : List RowNo) (k : ℕ) (n : RowNo) (a : AssetRow) (shown : List Row) (key : List ℕ) (guid : Guid)
    → AreNumbersOf r rows numbers → slice_get numbers k ≡ Some n → slice_get r.assets n.0 ≡ Some a → AllZip (ResolvesRow r files) (take k rows) shown → IsLostRow r files a key guid
    → IsFirstLostRow r files rows key guid
first-lost-row r files rows numbers k n a shown key guid zipped at is sofar lost = record {
  number = k;
  row = a;
  at = row-at r rows numbers k n a zipped at is;
  before = shown;
  shown = sofar;
  first = lost.0;
  first_at = lost.1;
  bundle = lost.2;
  bundle_at = lost.3;
  named = lost.4;
  loses = lost.5;
}

-- ---- the bundle of a first dependency

and-parts : (a b : Bool) → (a && b) ≡ true → (a ≡ true) × (b ≡ true)
and-parts true true all = (refl, refl)
and-parts true false all = absurd (false≢true all)
and-parts false b all = absurd (false≢true all)

pub sound-first : (count : ℕ) (deps : List BundleNo) (first : BundleNo) → has_sound_deps count deps ≡ true → slice_get deps 0 ≡ Some first → first.0 < count
sound-first count [] first sound at = absurd (cc at)
sound-first count (d ∷ ds) first sound at =
    let front = (and-parts (has_dep (d ∷ ds) && are_bundles count (d ∷ ds)) (no_repeats (d ∷ ds)) sound).0 in
    let bundles = (and-parts (has_dep (d ∷ ds)) (are_bundles count (d ∷ ds)) front).1 in
    let below = (and-parts (nat_lt d.0 count) (are_bundles count ds) bundles).0 in
    subst (λ (b : BundleNo). b.0 < count) (same-some d first at) (ltb-true d.0 count below)

pub sound-some : (count : ℕ) (deps : List BundleNo) → has_sound_deps count deps ≡ true → 0 < length deps
sound-some count [] sound = absurd (false≢true sound)
sound-some count (d ∷ ds) sound = omega arith

pub named-lost : (r : Rows) (files : List Opened) (row : AssetRow) (first : BundleNo) (guid : Guid) (e : RowErr) → slice_get row.deps 0 ≡ Some first → NamesLost r.bundles first.0 guid e
    → (f : BundleNo) × (slice_get row.deps 0 ≡ Some f) × LosesRow files row f.0 guid → ResolvesNamed r files row (Err e)
named-lost r files row first guid (LostIn key lost) at names (f, f-at, loses) =
    (first, at, names.0, names.1, names.2, subst (λ g. LosesRow files row first.0 g) (sym names.3) (subst (λ (b : BundleNo). LosesRow files row b.0 guid) (same-some f first (sym f-at ∙ at)) loses))
named-lost r files row first guid RowNoMemory at names loses = tt

-- a row of the catalogue has its first dependency, and this is a bundle
pub row-stops : (r : Rows) (files : List Opened) (rows : List AssetRow) (numbers : List RowNo) (k : ℕ) (n : RowNo) (a : AssetRow) (shown : List Row) (e : RowErr)
    → AreNumbersOf r rows numbers → slice_get numbers k ≡ Some n → slice_get r.assets n.0 ≡ Some a → AllZip (ResolvesRow r files) (take k rows) shown → ResolvesNamed r files a (Err e)
    → ResolvesRows r files rows (Err e)
row-stops r files rows numbers k n a shown (LostIn key guid) zipped at is sofar lost = first-lost-row r files rows numbers k n a shown key guid zipped at is sofar lost
row-stops r files rows numbers k n a shown RowNoMemory zipped at is sofar lost = tt

-- all rows were taken
pub all-rows : (r : Rows) (files : List Opened) (rows : List AssetRow) (numbers : List RowNo) (k : ℕ) (shown : List Row) → AreNumbersOf r rows numbers → length numbers ≤ k
    → AllZip (ResolvesRow r files) (take k rows) shown → AllZip (ResolvesRow r files) rows shown
all-rows r files rows numbers k shown zipped long sofar =
    let same = zip-length (λ (row : AssetRow) (m : RowNo). slice_get r.assets m.0 ≡ Some row) rows numbers zipped in
    subst (λ (xs : List AssetRow). AllZip (ResolvesRow r files) xs shown) (take-all k rows (omega (arith, same, long))) sofar

-- the number at a place of the loop
abbrev pub number-at : List RowNo → ℕ → RowNo
number-at numbers k = get_or numbers k (record { 0 = 0 })

pub at-number : (numbers : List RowNo) (k : ℕ) → k < length numbers → slice_get numbers k ≡ Some (number-at numbers k)
at-number numbers k within = slice_get-get_or numbers k (record { 0 = 0 }) within

pub more-shown : (shown new : List Resolved) (row : Resolved) → new ≡ shown ++ row ∷ [] → map row_view shown ++ row_view row ∷ [] ≡ map row_view new
more-shown shown new row is = sym (ap (map row_view) is ∙ map-append row_view shown (row ∷ []))

pub err-is : {T E : Type 0} (r : Result T E) (e : E) → IsErrAnd r (λ x. x ≡ e) → r ≡ Err e
err-is (Ok done) e is = absurd is
err-is (Err x) e is = ap Err is

pub at-index : (xs ys : List AssetRow) (n : ℕ) (a : AssetRow) → xs ≡ ys → n < length ys → a ≡ get_or xs n a → slice_get ys n ≡ Some a
at-index xs ys n a same within is = slice_get-get_or ys n a within ∙ ap Some (sym (is ∙ ap (λ (zs : List AssetRow). get_or zs n a) same))
