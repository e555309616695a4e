-- What is written of objects is their table and their data, and is read as these objects.
use Rattle.std.proofs.Common.{◌≡◌, ℕ, zero, suc, ◌+◌, ◌^◌, ◌<◌, bytes_eq, true, false, ◌&&◌, ◌||◌, not, List, [], ◌∷◌, ◌++◌, length, get_or, take, drop, map, sum_by, All, refl, sym, ap, ap₂, ◌∙◌, append_assoc, arith, length-append}
use Rattle.std.specs.Int.{w32, to_le_bytes}
use Rattle.std.specs.List.{AllByRecursion, flat_map, list_any}
use Rattle.std.proofs.lemmas.List.{append-nil, take_at, drop_at, drop-drop}
use Rattle.std.proofs.lemmas.List.Elements.{recursion_from_All}
use Rattle.std.proofs.lemmas.List.Folds.{list_any_at}
use Rattle.std.proofs.lemmas.List.Sums.{sum_by-cons}
use Rattle.std.proofs.lemmas.Map.Views.{All-insert_key}
use Rattle.std.proofs.lemmas.Slice.Eq.{bytes_eq-Decides}
use Rattle.addr_base.specs.declared.ids.Digest.{Digest}
use Rattle.addr_base.specs.declared.images.Home.{Home}
use Rattle.addr_base.specs.declared.images.Home.TheVariants.{Own, Other}
use Rattle.addr_base.specs.declared.images.RefTo.{RefTo}
use Rattle.addr_cab.specs.declared.object.ObjectOut.{ObjectOut}
use Rattle.addr_cab.specs.declared.object.ObjectRow.{ObjectRow}
use Rattle.addr_cab.specs.Spelling.{magic, is_own, leads_to, row_text}
use Rattle.addr_cab.specs.Faults.{has_guid, is_lost, is_unnamed}
use Rattle.addr_cab.specs.Format.{IsName, IsRef, IsObject, Placed, IsTable}
use Rattle.addr_cab.specs.Outside.{name_order, with_home, with_homes, outside_of}
use Rattle.addr_cab.specs.Searches.{Ascend}
use Rattle.addr_cab.specs.Written.{bytes_len, refs_of, placed_at, placed, cab_table, cab_data, IsKept, CanWrite, object_in, ReadsBack}
use Rattle.addr_cab.specs.Written.{IsHome, IsTypedRef, IsTyped}
use Rattle.addr_cab.proofs.NumberLaws.{HomesIn, number_fits, number_home, own_homes}
use Rattle.addr_cab.proofs.OutsideLaws.{has_name, are_outside, leads-flat}
use Rattle.addr_cab.proofs.Places.{none_passes}
use Rattle.addr_cab.proofs.PutLaws.{after_five}
use Rattle.addr_cab.proofs.RowLaws.{name_of, guid_of, size_of}
use Rattle.addr_cab.proofs.TableLaws.{table_again}
use Rattle.addr_cab.proofs.WrittenRows.{length-placed}

-- ---- the outside bundles

names-homes : (names : List Digest) (refs : List RefTo) → All IsName names → AllByRecursion IsTypedRef refs → All IsName (with_homes names refs)
unfolding with_homes
names-homes names [] are typed = are
names-homes names (r ∷ rs) are typed = names-homes (with_home names r.home) rs (by r.home typed.0.1) typed.1
  where
    by : (h : Home) → IsHome h → All IsName (with_home names h)
    by Own is = are
    by (Other name) is = All-insert_key name_order name IsName names are is

all_append : {X : Type 0} (P : X → Type 0) (xs ys : List X) → AllByRecursion P xs → AllByRecursion P ys → AllByRecursion P (xs ++ ys)
all_append P [] ys front back = back
all_append P (x ∷ xs) ys front back = (front.0, all_append P xs ys front.1 back)

pub typed_refs : (os : List ObjectOut) → AllByRecursion IsTyped os → AllByRecursion IsTypedRef (refs_of os)
typed_refs [] typed = tt
typed_refs (o ∷ os) typed = all_append IsTypedRef o.refs (refs_of os) typed.0.1 (typed_refs os typed.1)

-- ---- the rows

same_guids : (guid : List ℕ) (at : ℕ) (os : List ObjectOut) → list_any (has_guid guid) (placed at os) ≡ list_any (λ o. bytes_eq o.guid.0 guid) os
same_guids guid at [] = refl
same_guids guid at (o ∷ os) = ap (λ b. bytes_eq o.guid.0 guid || b) (same_guids guid (at + length o.bytes) os)

same_leads : (name : Digest) (at : ℕ) (os : List ObjectOut) → list_any (λ o. leads_to name o.refs) (placed at os) ≡ list_any (λ o. leads_to name o.refs) os
same_leads name at [] = refl
same_leads name at (o ∷ os) = ap (λ b. leads_to name o.refs || b) (same_leads name (at + length o.bytes) os)

not_lost : (objects : List ObjectOut) (r : RefTo) → IsKept objects r → is_lost (placed 0 objects) r ≡ false
unfolding is_lost
not_lost objects r kept = by r.home kept
  where
    by : (h : Home) → (h ≡ Own → list_any (λ o. bytes_eq o.guid.0 r.guid.0) objects ≡ true) → (is_own h && not (list_any (has_guid r.guid.0) (placed 0 objects))) ≡ false
    by Own found = rw (same_guids r.guid.0 0 objects, found refl) refl
    by (Other name) found = refl

none_lost : (objects : List ObjectOut) (refs : List RefTo) → AllByRecursion (IsKept objects) refs → AllByRecursion (λ r. is_lost (placed 0 objects) r ≡ false) refs
none_lost objects [] kept = tt
none_lost objects (r ∷ rs) kept = (not_lost objects r kept.0, none_lost objects rs kept.1)

refs_are : (outside : List Digest) (refs : List RefTo) → length outside < 2 ^ 32 → AllByRecursion IsTypedRef refs → HomesIn outside refs → AllByRecursion (IsRef outside) refs
refs_are outside [] few typed among = tt
refs_are outside (r ∷ rs) few typed among =
    (record { sixteen = typed.0.0; small = number_fits outside r.home among.0 few; home = number_home outside r.home among.0 }, refs_are outside rs few typed.1 among.1)

objects_are : (outside : List Digest) (objects : List ObjectOut) (at : ℕ) (os : List ObjectOut) → length outside < 2 ^ 32 → AllByRecursion IsTyped os → AllByRecursion (λ o. AllByRecursion (IsKept objects) o.refs) os
    → AllByRecursion (λ o. length o.refs < 2 ^ 32) os → AllByRecursion (λ o. HomesIn outside o.refs) os → at + sum_by bytes_len os < 2 ^ 64 → AllByRecursion (IsObject outside (placed 0 objects)) (placed at os)
objects_are outside objects at [] few typed own few_refs among small = tt
objects_are outside objects at (o ∷ os) few typed own few_refs among small =
    let total = sum_by-cons bytes_len o os in (
      record {
        sixteen = typed.0.0;
        offset_small = omega (arith, small, total);
        size_small = omega (arith, small, total);
        few = few_refs.0;
        refs = refs_are outside o.refs few typed.0.1 among.0;
        own = none_passes (is_lost (placed 0 objects)) o.refs (none_lost objects o.refs own.0);
      },
      objects_are outside objects (at + length o.bytes) os few typed.1 own.1 few_refs.1 among.1 (omega (arith, small, total)),
    )

guid_at : (at : ℕ) (os : List ObjectOut) (k : ℕ) (d : ObjectRow) (e : ObjectOut) → k < length os → guid_of (get_or (placed at os) k d) ≡ (get_or os k e).guid.0
guid_at at [] k d e lt = absurd (omega (arith, lt))
guid_at at (o ∷ os) zero d e lt = refl
guid_at at (o ∷ os) (suc k) d e lt = guid_at (at + length o.bytes) os k d e (omega (arith, lt))

rows_ascend : (objects : List ObjectOut) → Ascend (λ o. o.guid.0) objects → Ascend guid_of (placed 0 objects)
rows_ascend objects up = λ j k d less within.
    let e : ObjectOut = record { guid = d.guid; bytes = []; refs = [] } in
    let late : k < length objects = omega (arith, within, length-placed 0 objects) in
    rw (guid_at 0 objects j d e (omega (arith, less, late)), guid_at 0 objects k d e late) (up j k e less late)

are_placed : (at : ℕ) (os : List ObjectOut) → Placed at (placed at os)
are_placed at [] = tt
are_placed at (o ∷ os) = (refl, are_placed (at + length o.bytes) os)

pub data_len : (os : List ObjectOut) → sum_by bytes_len os ≡ length (cab_data os)
unfolding cab_data
data_len [] = refl
data_len (o ∷ os) = omega (arith, sum_by-cons bytes_len o os, length-append o.bytes (flat_map (λ (p : ObjectOut). p.bytes) os), data_len os)

sizes : (at : ℕ) (os : List ObjectOut) → sum_by size_of (placed at os) ≡ sum_by bytes_len os
sizes at [] = refl
sizes at (o ∷ os) = omega (arith, sum_by-cons bytes_len o os, sum_by-cons size_of (placed_at at o) (placed (at + length o.bytes) os), sizes (at + length o.bytes) os)

-- ---- the table

all_named : (objects : List ObjectOut) → AllByRecursion (λ d. is_unnamed (placed 0 objects) d ≡ false) (outside_of (refs_of objects))
unfolding is_unnamed
all_named objects =
    let names = outside_of (refs_of objects) in
    recursion_from_All (λ d. is_unnamed (placed 0 objects) d ≡ false) names (λ k d lt.
    let name = get_or names k d in
    let there : list_any (has_name name.0) names ≡ true = list_any_at (has_name name.0) names k d lt ((bytes_eq-Decides name.0 name.0).1 refl) in
    let leads : list_any (λ o. leads_to name o.refs) (placed 0 objects) ≡ true = same_leads name 0 objects ∙ (sym (leads-flat (λ (o : ObjectOut). o.refs) name objects) ∙ (sym ((are_outside (refs_of objects)).named name) ∙ there)) in
    ap not leads)

pub outside_names : (objects : List ObjectOut) → AllByRecursion IsTyped objects → AllByRecursion IsName (outside_of (refs_of objects))
outside_names objects typed = recursion_from_All IsName (outside_of (refs_of objects)) (names-homes [] (refs_of objects) (λ k d lt. absurd (omega (arith, lt))) (typed_refs objects typed))

pub is_written : (objects : List ObjectOut) → CanWrite objects → AllByRecursion IsTyped objects → length (cab_data objects) < 2 ^ 64 → IsTable (length (cab_data objects)) (cab_table objects) (placed 0 objects)
unfolding cab_table
is_written objects can typed small =
    let names = outside_of (refs_of objects) in
    record {
      outside = names;
      bytes = refl;
      few_outside = can.few_outside;
      few = omega (arith, can.few, length-placed 0 objects);
      names = outside_names objects typed;
      objects = objects_are names objects 0 objects can.few_outside typed can.own can.few_refs (own_homes (λ (o : ObjectOut). o.refs) objects) (omega (arith, small, data_len objects));
      outside_ascend = (are_outside (refs_of objects)).ascend;
      ascend = rows_ascend objects can.ascend;
      named = none_passes (is_unnamed (placed 0 objects)) names (all_named objects);
      placed = are_placed 0 objects;
      all = sizes 0 objects ∙ data_len objects;
    }

pub is_cab_table : (objects : List ObjectOut) (outside : List Digest) (old n1 n2 n3 n4 n5 : List ℕ) → outside ≡ outside_of (refs_of objects) → old ≡ [] → n1 ≡ old ++ magic → n2 ≡ n1 ++ to_le_bytes w32 (length outside) → n3 ≡ n2 ++ flat_map name_of outside
    → n4 ≡ n3 ++ to_le_bytes w32 (length objects) → n5 ≡ n4 ++ flat_map (row_text outside) (placed 0 objects) → n5 ≡ cab_table objects
unfolding cab_table
is_cab_table objects outside old n1 n2 n3 n4 n5 outside_is nothing e1 e2 e3 e4 e5 =
    let text : List Digest → ℕ → List ℕ = λ ds n. magic ++ (to_le_bytes w32 (length ds) ++ (flat_map name_of ds ++ (to_le_bytes w32 n ++ flat_map (row_text ds) (placed 0 objects)))) in
    after_five old n1 n2 n3 n4 n5 magic (to_le_bytes w32 (length outside)) (flat_map name_of outside) (to_le_bytes w32 (length objects)) (flat_map (row_text outside) (placed 0 objects)) e1 e2 e3 e4 e5
    ∙ (ap (λ o. o ++ text outside (length objects)) nothing ∙ (ap (λ n. text outside n) (sym (length-placed 0 objects)) ∙ ap (λ ds. text ds (length (placed 0 objects))) outside_is))

-- ---- read again

objects_read : (content : List ℕ) (at : ℕ) (os : List ObjectOut) (rest : List ℕ) → drop at content ≡ cab_data os ++ rest → map (object_in content) (placed at os) ≡ os
unfolding cab_data
objects_read content at [] rest here = refl
objects_read content at (o ∷ os) rest here =
    let split : drop at content ≡ o.bytes ++ (cab_data os ++ rest) = here ∙ append_assoc o.bytes (cab_data os) rest in
    let bytes : take (length o.bytes) (drop at content) ≡ o.bytes = ap (take (length o.bytes)) split ∙ take_at o.bytes (cab_data os ++ rest) (length o.bytes) refl in
    let behind : drop (at + length o.bytes) content ≡ cab_data os ++ rest = sym (drop-drop (length o.bytes) at content) ∙ (ap (drop (length o.bytes)) split ∙ drop_at o.bytes (cab_data os ++ rest) (length o.bytes) refl) in
    ap₂ (λ (b : List ℕ) (more : List ObjectOut). record { guid = o.guid; bytes = b; refs = o.refs } ∷ more) bytes (objects_read content (at + length o.bytes) os rest behind)

pub all_read : (os : List ObjectOut) → map (object_in (cab_data os)) (placed 0 os) ≡ os
all_read os = objects_read (cab_data os) 0 os [] (sym (append-nil (cab_data os)))

pub reads_back : (objects : List ObjectOut) → CanWrite objects → AllByRecursion IsTyped objects → length (cab_data objects) < 2 ^ 64 → ReadsBack objects (cab_table objects) (cab_data objects)
reads_back objects can typed small = (placed 0 objects, table_again (length (cab_data objects)) (cab_table objects) (placed 0 objects) (is_written objects can typed small), all_read objects)
