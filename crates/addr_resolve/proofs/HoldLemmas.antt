-- No place holds two objects, since the GUIDs of what each bundle holds ascend.
use Rattle.std.proofs.Common.{◌≡◌, ◌<◌, ◌+◌, ℕ, List, [], ◌∷◌, ◌++◌, length, get_or, take, map, Some, ap, ap₂, subst, sym, ◌∙◌, ◌⊎◌, inl, inr, arith}
use Rattle.std.proofs.lemmas.List.{get_or-map, length-map, take_more}
use Rattle.std.specs.List.{slice_get}
use Rattle.addr_cab.specs.Lookup.{Held}
use Rattle.addr_cab.specs.Objects.{objects_of}
use Rattle.addr_cab.specs.Searches.{Ascend}
use Rattle.addr_cab.specs.Spelling.{is_below}
use Rattle.addr_cab.specs.declared.object.ObjectOut.{ObjectOut}
use Rattle.addr_cab.specs.declared.object.ObjectRow.{ObjectRow}
use Rattle.addr_release.specs.Opened.{Opened}
use Rattle.addr_walks.proofs.Lists.{slice_get-push_cases}
use Rattle.addr_walks.proofs.Zips.{zip-left}
use Rattle.addr_resolve.specs.Items.{HoldOne, ShowsCabs}
use Rattle.addr_resolve.proofs.CabLemmas.{object_of_row}
use Rattle.addr_resolve.proofs.GraphLemmas.{hold-one}

-- the GUIDs of each bundle's rows ascend
abbrev pub AllAscend : List Held → Type 0
AllAscend cabs = (b : ℕ) (c : Held) → slice_get cabs b ≡ Some c → Ascend (λ (o : ObjectRow). o.guid.0) c.rows

pub ascend-none : AllAscend []
ascend-none b c at = absurd (cc at)

pub ascend-more : (cabs : List Held) (k : ℕ) (c : Held) → k < length cabs → c ≡ get_or cabs k c → Ascend (λ (o : ObjectRow). o.guid.0) c.rows → AllAscend (take k cabs) → AllAscend (take (k + 1) cabs)
ascend-more cabs k c within read up before = subst AllAscend (sym (take_more cabs k c within ∙ ap (λ z. take k cabs ++ z ∷ []) (sym read))) (λ b d at. by_side b d (slice_get-push_cases (take k cabs) c b d at))
  where
    by_side : (b : ℕ) (d : Held) → (slice_get (take k cabs) b ≡ Some d) ⊎ ((b ≡ length (take k cabs)) × (c ≡ d)) → Ascend (λ (o : ObjectRow). o.guid.0) d.rows
    by_side b d (inl old) = before b d old
    by_side b d (inr (number, same)) = subst (λ (h : Held). Ascend (λ (o : ObjectRow). o.guid.0) h.rows) same up

-- so do those of the objects
objects-ascend : (c : Held) → Ascend (λ (o : ObjectRow). o.guid.0) c.rows → Ascend (λ (o : ObjectOut). o.guid.0) (objects_of c)
unfolding object_of_row
objects-ascend c up j k d less within =
    let f : ObjectRow → ObjectOut = object_of_row c in
    let long : length (map f c.rows) ≡ length c.rows = length-map c.rows f in
    let small : k < length c.rows = omega (arith, within, long) in
    let e : ObjectRow = record { guid = d.guid; offset = 0; size = 0; refs = [] } in
    let left : get_or (map f c.rows) j d ≡ f (get_or c.rows j e) = get_or-map f c.rows j e d (omega (arith, less, small)) in
    let right : get_or (map f c.rows) k d ≡ f (get_or c.rows k e) = get_or-map f c.rows k e d small in
    ap₂ (λ (v w : ObjectOut). is_below v.guid.0 w.guid.0) left right ∙ up j k e less small

pub cabs-hold-one : (cabs : List Held) → AllAscend cabs → (files : List Opened) → ShowsCabs files cabs → HoldOne files
cabs-hold-one cabs up files shows = hold-one files (λ b file at. ascends b file at)
  where
    ascends : (b : ℕ) (file : Opened) → slice_get files b ≡ Some file → Ascend (λ (o : ObjectOut). o.guid.0) file.objects
    ascends b file at =
        let c = zip-left (λ (file : Opened) (c : Held). file.objects ≡ objects_of c) files cabs shows b file at in
        subst (Ascend (λ (o : ObjectOut). o.guid.0)) (sym c.2) (objects-ascend c.0 (up b c.0 c.1))
