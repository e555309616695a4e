-- Bytes are read as a table without a fault exactly where they are the table of the objects that are read.
use Rattle.std.proofs.Common.{◌≡◌, ℕ, suc, ◌+◌, ◌<◌, ◌≤◌, Bool, true, false, cond, eqb, ltb, not, List, [], ◌∷◌, ◌++◌, length, get_or, map, sum_by, Option, Some, None, Result, Ok, Err, IfOk, refl, sym, ap, subst, ◌∙◌, arith, eq-eqb}
use Rattle.std.specs.Prelude.{◌↔◌}
use Rattle.std.specs.Option.{option_map}
use Rattle.std.specs.List.{AllByRecursion, position}
use Rattle.std.proofs.lemmas.Bool.{eqb-true, ltb-false}
use Rattle.std.proofs.lemmas.List.{append-nil}
use Rattle.std.proofs.lemmas.List.Sums.{sum_by-cons}
use Rattle.addr_base.specs.declared.ids.Digest.{Digest}
use Rattle.addr_unityfs.specs.Faults.{Tail, place}
use Rattle.addr_unityfs.proofs.FieldLaws.{IsBytes}
use Rattle.addr_cab.specs.declared.object.ObjectRow.{ObjectRow}
use Rattle.addr_cab.specs.declared.error.CabErr.{CabErr}
use Rattle.addr_cab.specs.declared.error.CabErr.TheVariants.{Range, Ref, Trailing}
use Rattle.addr_cab.specs.Spelling.{is_above, row_len, table_text}
use Rattle.addr_cab.specs.Searches.{Ascend}
use Rattle.addr_cab.specs.Format.{IsObject, Placed, IsTable}
use Rattle.addr_cab.specs.Faults.{is_lost, lost_ref, first_of, lost_at, is_unnamed, unnamed_at, end_fault, Parts, parts_at, table_read}
use Rattle.addr_cab.specs.Tails.{Gives}
use Rattle.addr_cab.proofs.AgainLaws.{parts_again}
use Rattle.addr_cab.proofs.FieldLaws.{bind_ok, unless_ok}
use Rattle.addr_cab.proofs.InOrder.{AscendFrom}
use Rattle.addr_cab.proofs.RowLaws.{name_of, guid_of, size_of, AreRows}
use Rattle.addr_cab.proofs.PartLaws.{parts_taken, parts_ascend}

-- ---- the tests behind the last object

test_passed : (t : Bool) (e : CabErr) (more : Option CabErr) → cond t (Some e) more ≡ None → (t ≡ false) × (more ≡ None)
test_passed true e more none = absurd cc
test_passed false e more none = (refl, none)

is_true : (t : Bool) → not t ≡ false → t ≡ true
is_true true e = refl
is_true false e = absurd cc

map_none : {A B : Type 0} (f : A → B) (o : Option A) → option_map f o ≡ None → o ≡ None
map_none f None e = refl
map_none f (Some x) e = absurd cc

first_none : {A : Type 0} (a b : Option A) → first_of a b ≡ None → (a ≡ None) × (b ≡ None)
first_none None b e = (refl, e)
first_none (Some x) b e = absurd cc

abbrev pub NoneLost : List ObjectRow → List ObjectRow → Type 0
NoneLost rows os = AllByRecursion (λ o. position (is_lost rows) o.refs ≡ None) os

none_lost : (rows : List ObjectRow) (at : ℕ) (os : List ObjectRow) → lost_at rows at os ≡ None → NoneLost rows os
unfolding lost_at
none_lost rows at [] e = tt
none_lost rows at (o ∷ os) e =
    let both = first_none (lost_ref rows (at + 36) o.refs) (lost_at rows (at + row_len o) os) e in
    (map_none _ (position (is_lost rows) o.refs) both.0, none_lost rows (at + row_len o) os both.1)

lost_none : (rows : List ObjectRow) (at : ℕ) (os : List ObjectRow) → NoneLost rows os → lost_at rows at os ≡ None
unfolding lost_at
lost_none rows at [] h = refl
lost_none rows at (o ∷ os) h = rw (h.0) (lost_none rows (at + row_len o) os h.1)

-- nothing is left, the objects are all of the data, no reference is lost and no outside bundle unnamed
record AtEnd (outside : List Digest) (rows : List ObjectRow) (room end : ℕ) (c : Tail) : Type 0 where
  left : length c.rest ≤ 0
  all : end ≡ room
  own : NoneLost rows rows
  named : position (is_unnamed rows) outside ≡ None

at_end : (outside : List Digest) (rows : List ObjectRow) (room end : ℕ) (c : Tail) → end_fault outside rows room end c ≡ None → AtEnd outside rows room end c
unfolding end_fault
at_end outside rows room end c none =
    let empty = test_passed (ltb 0 (length c.rest)) (Trailing (place c)) _ none in
    let all = test_passed (not (eqb end room)) (Range c.end) _ empty.1 in
    let refs = first_none _ (unnamed_at rows outside) (map_none Ref _ all.1) in
    record {
      left = ltb-false 0 (length c.rest) empty.0;
      all = eqb-true end room (is_true (eqb end room) all.0);
      own = none_lost rows _ rows refs.0;
      named = map_none _ (position (is_unnamed rows) outside) refs.1;
    }

end_again : (outside : List Digest) (rows : List ObjectRow) (room end len : ℕ) → end ≡ room → NoneLost rows rows → position (is_unnamed rows) outside ≡ None → end_fault outside rows room end (record { end = len; rest = [] }) ≡ None
unfolding end_fault
end_again outside rows room end len all own named = rw (eq-eqb end room all, lost_none rows _ rows own, named) refl

nothing : (bytes : List ℕ) → length bytes ≤ 0 → bytes ≡ []
nothing [] none = refl
nothing (b ∷ bytes) none = absurd (omega (arith, none))

-- ---- from what was read

rows_placed : (outside : List Digest) (room : ℕ) (last : Option (List ℕ)) (end : ℕ) (os : List ObjectRow) → AreRows outside room last end os → Placed end os
rows_placed outside room last end [] h = tt
rows_placed outside room last end (o ∷ os) h = (h.0.offset, rows_placed outside room (Some o.guid.0) (end + o.size) os h.1)

rows_objects : (outside : List Digest) (room : ℕ) (last : Option (List ℕ)) (end : ℕ) (rows os : List ObjectRow) → AreRows outside room last end os → NoneLost rows os → AllByRecursion (IsObject outside rows) os
rows_objects outside room last end rows [] h own = tt
rows_objects outside room last end rows (o ∷ os) h own =
    (record { sixteen = h.0.sixteen; offset_small = h.0.offset_small; size_small = h.0.size_small; few = h.0.few; refs = h.0.refs; own = own.0 }, rows_objects outside room (Some o.guid.0) (end + o.size) rows os h.1 own.1)

pub is_table : (room : ℕ) (table : List ℕ) (rows : List ObjectRow) → IsBytes table → table_read room table ≡ Ok rows → IsTable room table rows
unfolding table_read
is_table room table rows fits e =
    let read = bind_ok (parts_at room table) _ rows e in
    let p : Parts = read.0 in
    let taken = parts_taken room table p fits read.1 in
    let passed = unless_ok (end_fault p.outside p.rows room p.end p.rest) p.rows rows read.2 in
    let end = at_end p.outside p.rows room p.end p.rest passed.0 in
    let left : p.rest.rest ≡ [] = nothing p.rest.rest end.left in
    let found : IsTable room table p.rows = record {
      outside = p.outside;
      bytes = taken.takes.parts ∙ (ap (λ t. table_text p.outside p.rows ++ t) left ∙ append-nil (table_text p.outside p.rows));
      few_outside = taken.few_names;
      few = taken.few_rows;
      names = taken.names;
      objects = rows_objects p.outside room None 0 p.rows p.rows taken.rows end.own;
      outside_ascend = taken.ascend;
      ascend = parts_ascend room table p fits read.1;
      named = end.named;
      placed = rows_placed p.outside room None 0 p.rows taken.rows;
      all = sym taken.end ∙ end.all;
    } in
    subst (IsTable room table) passed.1 found

-- ---- from the table of objects

climbs : {X : Type 0} (key : X → List ℕ) (last : Option (List ℕ)) (xs : List X) → ((x : X) → 0 < length xs → is_above last (key (get_or xs 0 x)) ≡ true) → Ascend key xs → AscendFrom last (map key xs)
climbs key last [] first up = tt
climbs key last (x ∷ xs) first up =
    (first x (omega arith), climbs key (Some (key x)) xs (λ d lt. up 0 1 d (omega arith) (omega (arith, lt))) (λ j k d less lt. up (suc j) (suc k) d (omega (arith, less)) (omega (arith, lt))))

objects_lost : (outside : List Digest) (rows os : List ObjectRow) → AllByRecursion (IsObject outside rows) os → NoneLost rows os
objects_lost outside rows [] h = tt
objects_lost outside rows (o ∷ os) h = (h.0.own, objects_lost outside rows os h.1)

rows_from : (outside : List Digest) (room : ℕ) (rows : List ObjectRow) (last : Option (List ℕ)) (at : ℕ) (os : List ObjectRow) → AscendFrom last (map guid_of os) → Placed at os → AllByRecursion (IsObject outside rows) os → at + sum_by size_of os ≤ room → AreRows outside room last at os
rows_from outside room rows last at [] up placed are fits = tt
rows_from outside room rows last at (o ∷ os) up placed are fits =
    let total = sum_by-cons size_of o os in (
      record { sixteen = are.0.sixteen; above = up.0; offset = placed.0; within = omega (arith, fits, total); offset_small = are.0.offset_small; size_small = are.0.size_small; few = are.0.few; refs = are.0.refs },
      rows_from outside room rows (Some o.guid.0) (at + o.size) os up.1 placed.1 are.1 (omega (arith, fits, total)),
    )

pub table_again : (room : ℕ) (table : List ℕ) (rows : List ObjectRow) → IsTable room table rows → table_read room table ≡ Ok rows
unfolding table_read
table_again room table rows t =
    let names_up : AscendFrom None (map name_of t.outside) = climbs name_of None t.outside (λ d lt. refl) t.outside_ascend in
    let up : AscendFrom None (map guid_of rows) = climbs guid_of None rows (λ d lt. refl) t.ascend in
    let are : AreRows t.outside room None 0 rows = rows_from t.outside room rows None 0 rows up t.placed t.objects (omega (arith, t.all)) in
    let parts = parts_again room t.outside rows names_up t.names t.few_outside are t.few in
    let end = end_again t.outside rows room (sum_by size_of rows) (length (table_text t.outside rows)) t.all (objects_lost t.outside rows rows t.objects) t.named in
    let all : table_read room (table_text t.outside rows) ≡ Ok rows = rw (parts, end) refl in
    ap (table_read room) t.bytes ∙ all

pub is_read : (room : ℕ) (table : List ℕ) (rows : List ObjectRow) → IsBytes table → IsTable room table rows ↔ (table_read room table ≡ Ok rows)
is_read room table rows fits = (table_again room table rows, is_table room table rows fits)

pub text_found : {V : Type 0} (room : ℕ) (table : List ℕ) (view : V → List ObjectRow) (r : Result V CabErr) → IsBytes table → Gives view r (table_read room table) → IfOk r (λ v. IsTable room table (view v))
text_found room table view (Ok v) fits given = is_table room table (view v) fits given
text_found room table view (Err e) fits given = tt
