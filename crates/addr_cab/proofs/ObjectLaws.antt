-- A table that is read, with its data, is the table and the data of the objects that are read.
use Rattle.std.proofs.Common.{◌≡◌, ℕ, ◌+◌, ◌-◌, ◌^◌, ◌<◌, ◌≤◌, bytes_eq, Bool, true, false, ◌||◌, not, eqb, List, [], ◌∷◌, ◌++◌, length, get_or, take, drop, map, sum_by, Option, Some, None, refl, sym, ap, ap₂, subst, ◌∙◌, arith, length-take, length-drop, inl, inr}
use Rattle.std.specs.Prelude.{◌↔◌}
use Rattle.std.specs.List.{AllByRecursion, flat_map, list_any, position, position_or_len, slice_get}
use Rattle.std.specs.Option.{option_map}
use Rattle.std.proofs.lemmas.Bool.{ne_eqb, or_cases}
use Rattle.std.proofs.lemmas.List.{drop-drop, get_or-map, length-map, take_all}
use Rattle.std.proofs.lemmas.List.Elements.{All-from_recursion}
use Rattle.std.proofs.lemmas.List.Folds.{list_any_at}
use Rattle.std.proofs.lemmas.List.Sums.{sum_by-cons, passes_at_first}
use Rattle.std.proofs.lemmas.Option.{slice_get_within, get_or_from_slice_get}
use Rattle.std.proofs.lemmas.Slice.Eq.{bytes_eq-Decides}
use Rattle.std.proofs.Math.Seq.{take-add}
use Rattle.addr_base.specs.declared.ids.Digest.{Digest}
use Rattle.addr_base.specs.declared.images.Home.{Home}
use Rattle.addr_base.specs.declared.images.Home.TheVariants.{Own, Other}
use Rattle.addr_base.specs.declared.images.RefTo.{RefTo}
use Rattle.addr_cab.specs.declared.object.ObjectOut.{ObjectOut}
use Rattle.addr_cab.specs.declared.object.ObjectRow.{ObjectRow}
use Rattle.addr_cab.specs.Spelling.{is_home, leads_to, home_number, table_text}
use Rattle.addr_cab.specs.Faults.{has_guid, home_of, is_lost, is_unnamed}
use Rattle.addr_cab.specs.Format.{AreBytes, IsName, IsRef, IsObject, Placed, IsTable}
use Rattle.addr_cab.specs.Outside.{outside_of, AreOutside}
use Rattle.addr_cab.specs.Searches.{Ascend}
use Rattle.addr_cab.specs.Written.{refs_of, placed, cab_table, cab_data, IsKept, IsHome, IsTypedRef, IsTyped, IsCabText, object_in, ReadsBack}
use Rattle.addr_cab.proofs.NumberLaws.{HomeIn, HomesIn, same_name}
use Rattle.addr_cab.proofs.OutsideLaws.{has_name, are_outside, one_list, leads-flat}
use Rattle.addr_cab.proofs.Places.{all_fail, first_inside}
use Rattle.addr_cab.proofs.RowLaws.{name_of, guid_of, size_of}
use Rattle.addr_cab.proofs.TableLaws.{is_table}
use Rattle.addr_cab.proofs.WrittenLaws.{reads_back}

-- ---- the bytes of the objects

same_row : (content : List ℕ) (at : ℕ) (o : ObjectRow) → o.offset ≡ at → at + o.size ≤ length content → length (take o.size (drop o.offset content)) ≡ o.size
same_row content at o there fits = omega (arith, length-take o.size (drop o.offset content), length-drop o.offset content, there, fits)

placed_again : (content : List ℕ) (at : ℕ) (rows : List ObjectRow) → Placed at rows → at + sum_by size_of rows ≤ length content → placed at (map (object_in content) rows) ≡ rows
placed_again content at [] placed fits = refl
placed_again content at (o ∷ os) placed fits =
    let total = sum_by-cons size_of o os in
    let len : length (take o.size (drop o.offset content)) ≡ o.size = same_row content at o placed.0 (omega (arith, fits, total)) in
    let first = ap (λ (n : ℕ). let r : ObjectRow = record { guid = o.guid; offset = n; size = o.size; refs = o.refs } in r) (sym placed.0) in
    rw len (ap₂ (λ (r : ObjectRow) (rs : List ObjectRow). r ∷ rs) first (placed_again content (at + o.size) os placed.1 (omega (arith, fits, total))))

bytes_again : (content : List ℕ) (at : ℕ) (rows : List ObjectRow) → Placed at rows → flat_map (λ (o : ObjectOut). o.bytes) (map (object_in content) rows) ≡ take (sum_by size_of rows) (drop at content)
bytes_again content at [] placed = refl
bytes_again content at (o ∷ os) placed =
    let bytes = λ (n : ℕ). take o.size (drop n content) in
    let behind : drop (at + o.size) content ≡ drop o.size (drop at content) = sym (drop-drop o.size at content) in
    let more : flat_map (λ (p : ObjectOut). p.bytes) (map (object_in content) os) ≡ take (sum_by size_of os) (drop o.size (drop at content)) = bytes_again content (at + o.size) os placed.1 ∙ ap (take (sum_by size_of os)) behind in
    ap₂ (λ (a b : List ℕ). a ++ b) (ap bytes placed.0) more ∙ (sym (take-add o.size (sum_by size_of os) (drop at content)) ∙ ap (λ n. take n (drop at content)) (sym (sum_by-cons size_of o os)))

take_whole : (content : List ℕ) (n : ℕ) → n ≡ length content → take n (drop 0 content) ≡ content
take_whole content n whole = take_all n content (omega (arith, whole))

-- ---- the outside bundles

no_number : (n : ℕ) → eqb (n + 1) 0 ≡ false
no_number n = ne_eqb (n + 1) 0 (λ e. absurd (omega (arith, e)))

other_is : (o : Option Digest) (name : Digest) → option_map Other o ≡ Some (Other name) → o ≡ Some name
other_is None name e = absurd cc
other_is (Some d) name e = cc

stands : (outside : List Digest) (name : Digest) → home_of outside (home_number outside (Other name)) ≡ Some (Other name) → slice_get outside (position_or_len (has_name name.0) outside) ≡ Some name
stands outside name e =
    let p = position_or_len (has_name name.0) outside in
    let back : p + 1 - 1 ≡ p = omega arith in
    other_is (slice_get outside p) name (rw (no_number p, back) at e)

home_in : (outside : List Digest) (h : Home) → home_of outside (home_number outside h) ≡ Some h → HomeIn outside h
home_in outside Own e = tt
home_in outside (Other name) e =
    let p = position_or_len (has_name name.0) outside in
    let there = stands outside name e in
    let here : bytes_eq (get_or outside p name).0 name.0 ≡ true = (bytes_eq-Decides (get_or outside p name).0 name.0).1 (ap name_of (get_or_from_slice_get outside p name name there)) in
    list_any_at (has_name name.0) outside p name (slice_get_within outside p name there) here

home_typed : (outside : List Digest) (h : Home) → AllByRecursion IsName outside → home_of outside (home_number outside h) ≡ Some h → IsHome h
home_typed outside Own names e = tt
home_typed outside (Other name) names e =
    let p = position_or_len (has_name name.0) outside in
    let there = stands outside name e in
    subst IsName (get_or_from_slice_get outside p name name there) (All-from_recursion IsName outside names p name (slice_get_within outside p name there))

refs_typed : (outside : List Digest) (refs : List RefTo) → AllByRecursion IsName outside → AllByRecursion (IsRef outside) refs → AllByRecursion IsTypedRef refs × HomesIn outside refs
refs_typed outside [] names are = (tt, tt)
refs_typed outside (r ∷ rs) names are =
    let more = refs_typed outside rs names are.1 in
    (((are.0.sixteen, home_typed outside r.home names are.0.home), more.0), (home_in outside r.home are.0.home, more.1))

named_in : (name : Digest) (outside : List Digest) (refs : List RefTo) → HomesIn outside refs → leads_to name refs ≡ true → list_any (has_name name.0) outside ≡ true
unfolding leads_to
named_in name outside [] among e = absurd cc
named_in name outside (r ∷ rs) among e =
    elim (or_cases (is_home name r.home) (list_any (λ q. is_home name q.home) rs) e) [
      | inl here ↦ by r.home among.0 here
      | inr later ↦ named_in name outside rs among.1 later
    ]
  where
    by : (h : Home) → HomeIn outside h → is_home name h ≡ true → list_any (has_name name.0) outside ≡ true
    by Own is here = absurd cc
    by (Other other) is here = subst (λ (d : Digest). list_any (has_name d.0) outside ≡ true) (same_name other name here) is

rows_in : (name : Digest) (outside : List Digest) (rows os : List ObjectRow) → AllByRecursion (IsObject outside rows) os → AllByRecursion IsName outside → leads_to name (flat_map (λ o. o.refs) os) ≡ true → list_any (has_name name.0) outside ≡ true
rows_in name outside rows os are names e = by os are (sym (leads-flat (λ (o : ObjectRow). o.refs) name os) ∙ e)
  where
    by : (os : List ObjectRow) → AllByRecursion (IsObject outside rows) os → list_any (λ o. leads_to name o.refs) os ≡ true → list_any (has_name name.0) outside ≡ true
    by [] are e = absurd cc
    by (o ∷ os) are e = elim (or_cases (leads_to name o.refs) (list_any (λ p. leads_to name p.refs) os) e) [
      | inl here ↦ named_in name outside o.refs (refs_typed outside o.refs names are.0.refs).1 here
      | inr later ↦ by os are.1 later
    ]

true_is : (t : Bool) → not t ≡ false → t ≡ true
true_is true e = refl
true_is false e = absurd cc

in_named : (name : Digest) (outside : List Digest) (rows : List ObjectRow) → position (is_unnamed rows) outside ≡ None → list_any (has_name name.0) outside ≡ true → leads_to name (flat_map (λ o. o.refs) rows) ≡ true
unfolding is_unnamed
in_named name outside rows named e =
    let p = position_or_len (has_name name.0) outside in
    let lt : p < length outside = first_inside (has_name name.0) outside e in
    let here : get_or outside p name ≡ name = same_name (get_or outside p name) name (passes_at_first (has_name name.0) outside name lt) in
    let one : is_unnamed rows (get_or outside p name) ≡ false = All-from_recursion (λ d. is_unnamed rows d ≡ false) outside (all_fail (is_unnamed rows) outside named) p name lt in
    leads-flat (λ (o : ObjectRow). o.refs) name rows ∙ true_is (list_any (λ o. leads_to name o.refs) rows) (subst (λ (d : Digest). is_unnamed rows d ≡ false) here one)

same_truth : (a b : Bool) → (a ≡ true → b ≡ true) → (b ≡ true → a ≡ true) → a ≡ b
same_truth true b there back = sym (there refl)
same_truth false true there back = back refl
same_truth false false there back = refl

refs_again : (content : List ℕ) (rows : List ObjectRow) → refs_of (map (object_in content) rows) ≡ flat_map (λ o. o.refs) rows
refs_again content [] = refl
refs_again content (o ∷ os) = ap (λ refs. o.refs ++ refs) (refs_again content os)

outside_is : (room : ℕ) (table content : List ℕ) (rows : List ObjectRow) (t : IsTable room table rows) → t.outside ≡ outside_of (refs_of (map (object_in content) rows))
outside_is room table content rows t =
    let refs = flat_map (λ (o : ObjectRow). o.refs) rows in
    let are : AreOutside refs t.outside = record {
      ascend = t.outside_ascend;
      named = λ name. same_truth (list_any (has_name name.0) t.outside) (leads_to name refs) (in_named name t.outside rows t.named) (rows_in name t.outside rows rows t.objects t.names);
    } in
    one_list refs t.outside (outside_of refs) are (are_outside refs) ∙ ap outside_of (sym (refs_again content rows))

-- ---- the objects

same_guids : (guid content : List ℕ) (rows : List ObjectRow) → list_any (has_guid guid) rows ≡ list_any (λ o. bytes_eq o.guid.0 guid) (map (object_in content) rows)
same_guids guid content [] = refl
same_guids guid content (o ∷ os) = ap (λ b. bytes_eq o.guid.0 guid || b) (same_guids guid content os)

is_kept : (content : List ℕ) (rows : List ObjectRow) (r : RefTo) → is_lost rows r ≡ false → IsKept (map (object_in content) rows) r
unfolding is_lost
is_kept content rows r found own =
    let there : list_any (has_guid r.guid.0) rows ≡ true = true_is (list_any (has_guid r.guid.0) rows) (rw own at found) in
    sym (same_guids r.guid.0 content rows) ∙ there

all_kept : (content : List ℕ) (rows : List ObjectRow) (refs : List RefTo) → AllByRecursion (λ r. is_lost rows r ≡ false) refs → AllByRecursion (IsKept (map (object_in content) rows)) refs
all_kept content rows [] found = tt
all_kept content rows (r ∷ rs) found = (is_kept content rows r found.0, all_kept content rows rs found.1)

-- what the table says of each object, of the objects with their bytes
record AreObjects (content : List ℕ) (rows os : List ObjectRow) : Type 0 where
  typed : AllByRecursion IsTyped (map (object_in content) os)
  own : AllByRecursion (λ o. AllByRecursion (IsKept (map (object_in content) rows)) o.refs) (map (object_in content) os)
  few_refs : AllByRecursion (λ o. length o.refs < 2 ^ 32) (map (object_in content) os)

are_objects : (content : List ℕ) (outside : List Digest) (rows os : List ObjectRow) → AllByRecursion IsName outside → AllByRecursion (IsObject outside rows) os → AreObjects content rows os
are_objects content outside rows [] names are = record { typed = tt; own = tt; few_refs = tt }
are_objects content outside rows (o ∷ os) names are =
    let more = are_objects content outside rows os names are.1 in
    record {
      typed = ((are.0.sixteen, (refs_typed outside o.refs names are.0.refs).0), more.typed);
      own = (all_kept content rows o.refs (all_fail (is_lost rows) o.refs are.0.own), more.own);
      few_refs = (are.0.few, more.few_refs);
    }

objects_ascend : (content : List ℕ) (rows : List ObjectRow) → Ascend guid_of rows → Ascend (λ (o : ObjectOut). o.guid.0) (map (object_in content) rows)
objects_ascend content rows up = λ j k d less within.
    let e : ObjectRow = record { guid = d.guid; offset = 0; size = 0; refs = [] } in
    let late : k < length rows = omega (arith, within, length-map rows (object_in content)) in
    let at_j : (get_or (map (object_in content) rows) j d).guid.0 ≡ (get_or rows j e).guid.0 = ap (λ (o : ObjectOut). o.guid.0) (get_or-map (object_in content) rows j e d (omega (arith, less, late))) in
    let at_k : (get_or (map (object_in content) rows) k d).guid.0 ≡ (get_or rows k e).guid.0 = ap (λ (o : ObjectOut). o.guid.0) (get_or-map (object_in content) rows k e d late) in
    rw (at_j, at_k) (up j k e less late)

pub is_text : (room : ℕ) (table content : List ℕ) (rows : List ObjectRow) → IsTable room table rows → length content ≡ room → IsCabText (map (object_in content) rows) table content
unfolding cab_table cab_data
is_text room table content rows t whole =
    let objects = map (object_in content) rows in
    let are = are_objects content t.outside rows rows t.names t.objects in
    let outside = outside_is room table content rows t in
    let rows_are : placed 0 objects ≡ rows = placed_again content 0 rows t.placed (omega (arith, t.all, whole)) in
    record {
      typed = are.typed;
      can = record {
        ascend = objects_ascend content rows t.ascend;
        own = are.own;
        few = omega (arith, t.few, length-map rows (object_in content));
        few_refs = are.few_refs;
        few_outside = subst (λ (ds : List Digest). length ds < 2 ^ 32) outside t.few_outside;
      };
      table_is = t.bytes ∙ ap₂ table_text outside (sym rows_are);
      content_is = sym (bytes_again content 0 rows t.placed ∙ take_whole content (sum_by size_of rows) (omega (arith, t.all, whole)));
    }

-- a table and data are those of objects exactly where the table is read, and as rows at which the data has them
pub text_is_read : (objects : List ObjectOut) (table content : List ℕ) → AreBytes table → length content < 2 ^ 64 → IsCabText objects table content ↔ ReadsBack objects table content
text_is_read objects table content fits small = (
  λ text.
      let back : ReadsBack objects (cab_table objects) (cab_data objects) = reads_back objects text.can text.typed (omega (arith, small, ap length text.content_is)) in
      rw (text.table_is, text.content_is) back,
  λ back. subst (λ os. IsCabText os table content) back.2 (is_text (length content) table content back.0 (is_table (length content) table back.0 fits back.1) refl),
)
