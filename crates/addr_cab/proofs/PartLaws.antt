-- The parts of a table that are read: the bytes before what is left are those of the parts.
use Rattle.std.proofs.Common.{◌≡◌, ℕ, ◌+◌, ◌*◌, ◌^◌, ◌<◌, ◌≤◌, List, [], ◌∷◌, ◌++◌, length, map, sum_by, Option, Some, None, Ok, sym, ap, subst, ◌∙◌, arith, length-append}
use Rattle.std.specs.List.{flat_map, AllByRecursion}
use Rattle.std.specs.Int.{w32, to_le_bytes}
use Rattle.addr_base.specs.declared.ids.Digest.{Digest}
use Rattle.addr_unityfs.specs.Faults.{whole}
use Rattle.addr_unityfs.proofs.FieldLaws.{IsBytes, Takes, Takes-then}
use Rattle.addr_cab.specs.declared.object.ObjectRow.{ObjectRow}
use Rattle.addr_cab.specs.Spelling.{magic, row_text, row_len, table_text}
use Rattle.addr_cab.specs.Searches.{Ascend}
use Rattle.addr_cab.proofs.InOrder.{AscendFrom, ascends}
use Rattle.addr_cab.specs.Faults.{number_at, magic_at, outside_at, rows_at, Parts, parts_at}
use Rattle.addr_cab.proofs.FieldLaws.{bind_ok, ok_is, magic_len, magic_takes, wide32, number_takes}
use Rattle.addr_cab.specs.Format.{IsName}
use Rattle.addr_cab.proofs.RowLaws.{name_of, guid_of, size_of, AreRows, outside_take, names_len, rows_take, rows_len, rows_ascend}

pub record IsTable (room : ℕ) (table : List ℕ) (p : Parts) : Type 0 where
  pub takes : Takes (whole table) (table_text p.outside p.rows) p.rest
  pub ascend : Ascend name_of p.outside
  pub names : AllByRecursion IsName p.outside
  pub few_names : length p.outside < 2 ^ 32
  pub rows : AreRows p.outside room None 0 p.rows
  pub few_rows : length p.rows < 2 ^ 32
  pub end : p.end ≡ sum_by size_of p.rows

pub parts_taken : (room : ℕ) (table : List ℕ) (p : Parts) → IsBytes table → parts_at room table ≡ Ok p → IsTable room table p
unfolding parts_at
parts_taken room table p fits e =
    let begun = bind_ok (magic_at (whole table)) _ p e in
    let t0 = magic_takes (whole table) begun.0 fits begun.1 in
    let names = bind_ok (number_at w32 begun.0) _ p begun.2 in
    let t1 = number_takes w32 (2 ^ 32) wide32 begun.0 names.0 t0.fits names.1 in
    let outside = bind_ok (outside_at names.0.0 [] None names.0.1) _ p names.2 in
    let t2 = outside_take names.0.0 [] None names.0.1 outside.0 t1.0.fits outside.1 in
    let ds = outside.0.0 in
    let ds_len : length ds ≡ names.0.0 = ap length t2.1 ∙ t2.3 in
    let up : Ascend name_of ds = ascends name_of ds (subst (λ y. AscendFrom None (map name_of y)) (sym t2.1) t2.4) in
    let count = bind_ok (number_at w32 outside.0.1) _ p outside.2 in
    let t3 = number_takes w32 (2 ^ 32) wide32 outside.0.1 count.0 t2.2.fits count.1 in
    let rows = bind_ok (rows_at count.0.0 ds room None 0 [] count.0.1) _ p count.2 in
    let t4 = rows_take count.0.0 ds room None 0 [] count.0.1 rows.0 up t3.0.fits rows.1 in
    let os = rows.0.0 in
    let os_len : length os ≡ count.0.0 = ap length t4.1 ∙ t4.3 in
    let rest = rows.0.2 in
    let q : Parts = record { outside = ds; rows = os; end = rows.0.1; rest = rest } in
    let t1' : Takes begun.0 (to_le_bytes w32 (length ds)) names.0.1 = subst (λ n. Takes begun.0 (to_le_bytes w32 n) names.0.1) (sym ds_len) t1.0 in
    let t2' : Takes names.0.1 (flat_map name_of ds) outside.0.1 = subst (λ y. Takes names.0.1 (flat_map name_of y) outside.0.1) (sym t2.1) t2.2 in
    let t3' : Takes outside.0.1 (to_le_bytes w32 (length os)) count.0.1 = subst (λ n. Takes outside.0.1 (to_le_bytes w32 n) count.0.1) (sym os_len) t3.0 in
    let t4' : Takes count.0.1 (flat_map (row_text ds) os) rest = subst (λ y. Takes count.0.1 (flat_map (row_text ds) y) rest) (sym t4.1) t4.2 in
    let last = Takes-then outside.0.1 _ count.0.1 _ rest t3' t4' in
    let behind = Takes-then begun.0 _ names.0.1 _ rest t1' (Takes-then names.0.1 _ outside.0.1 _ rest t2' last) in
    let all : Takes (whole table) (table_text ds os) rest = Takes-then (whole table) magic begun.0 _ rest t0 behind in
    let taken : IsTable room table q = record {
      takes = all;
      ascend = up;
      names = subst (AllByRecursion IsName) (sym t2.1) t2.5;
      few_names = subst (λ n. n < 2 ^ 32) (sym ds_len) t1.1;
      rows = subst (AreRows ds room None 0) (sym t4.1) t4.4;
      few_rows = subst (λ n. n < 2 ^ 32) (sym os_len) t3.1;
      end = omega (arith, t4.5, ap (λ y. sum_by size_of y) t4.1);
    } in
    subst (IsTable room table) (ok_is q p rows.2) taken

pub table_len : (room : ℕ) (table : List ℕ) (p : Parts) → IsTable room table p → length (table_text p.outside p.rows) ≡ 12 + 16 * length p.outside + sum_by row_len p.rows
table_len room table p h =
    let rows = flat_map (row_text p.outside) p.rows in
    let count = to_le_bytes w32 (length p.rows) in
    let names = flat_map name_of p.outside in
    let number = to_le_bytes w32 (length p.outside) in
    omega (arith, length-append magic (number ++ (names ++ (count ++ rows))), length-append number (names ++ (count ++ rows)), length-append names (count ++ rows), length-append count rows, magic_len, wide32.len (length p.outside), wide32.len (length p.rows), names_len p.outside h.names, rows_len p.outside room None 0 p.rows h.rows)

pub table_fits : (room : ℕ) (table : List ℕ) (p : Parts) → IsBytes table → parts_at room table ≡ Ok p → 12 + 16 * length p.outside + sum_by row_len p.rows ≤ length table
table_fits room table p fits e =
    let h = parts_taken room table p fits e in
    let len = ap length h.takes.parts ∙ length-append (table_text p.outside p.rows) p.rest.rest in
    omega (arith, len, table_len room table p h)

pub parts_ascend : (room : ℕ) (table : List ℕ) (p : Parts) → IsBytes table → parts_at room table ≡ Ok p → Ascend guid_of p.rows
parts_ascend room table p fits e = let h = parts_taken room table p fits e in ascends guid_of p.rows (rows_ascend p.outside room None 0 p.rows h.rows)

-- the objects lie within the data
all_within : (outside : List Digest) (room : ℕ) (last : Option (List ℕ)) (end : ℕ) (os : List ObjectRow) → AreRows outside room last end os → AllByRecursion (λ o. o.offset + o.size ≤ room) os
all_within outside room last end [] h = tt
all_within outside room last end (o ∷ os) h = (omega (arith, h.0.offset, h.0.within), all_within outside room (Some o.guid.0) (end + o.size) os h.1)

-- what a table that was read without a fault promises of its objects
pub record IsSound (room : ℕ) (rows : List ObjectRow) : Type 0 where
  pub ascend : Ascend guid_of rows
  pub within : AllByRecursion (λ o. o.offset + o.size ≤ room) rows
  pub few : length rows < 2 ^ 32

pub parts_sound : (room : ℕ) (table : List ℕ) (p : Parts) → IsBytes table → parts_at room table ≡ Ok p → IsSound room p.rows
parts_sound room table p fits e =
    let h = parts_taken room table p fits e in
    record { ascend = parts_ascend room table p fits e; within = all_within p.outside room None 0 p.rows h.rows; few = h.few_rows }
