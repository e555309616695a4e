-- What a table spells is read again: the other side of `proofs/TableLaws.antt`.
use Rattle.std.proofs.Common.{◌≡◌, ℕ, suc, ◌+◌, ◌^◌, ◌<◌, ◌≤◌, List, [], ◌∷◌, ◌++◌, length, map, sum_by, Option, Some, None, Ok, refl, sym, ap, subst, ◌∙◌, append_assoc, arith, eq-eqb, add-zero, zero-add}
use Rattle.std.specs.List.{flat_map, AllByRecursion}
use Rattle.std.specs.Int.{w32, w64, to_le_bytes}
use Rattle.std.proofs.lemmas.Bool.{le-ltb}
use Rattle.std.proofs.lemmas.List.{append-nil}
use Rattle.std.proofs.lemmas.List.Sums.{sum_by-cons}
use Rattle.addr_base.specs.declared.ids.Digest.{Digest}
use Rattle.addr_base.specs.declared.images.RefTo.{RefTo}
use Rattle.addr_cab.specs.declared.object.ObjectRow.{ObjectRow}
use Rattle.addr_cab.specs.Spelling.{home_number, ref_text, row_text, table_text}
use Rattle.addr_cab.specs.Faults.{outside_at, ref_at, refs_at, size_at, row_at, rows_at, parts_at}
use Rattle.addr_cab.proofs.InOrder.{AscendFrom}
use Rattle.addr_cab.proofs.FieldLaws.{bytes_again, magic_again, above_again, wide32, wide64, number_again}
use Rattle.addr_cab.specs.Format.{IsName, IsRef}
use Rattle.addr_cab.proofs.RowLaws.{name_of, size_of, IsRow, AreRows}

pub outside_again : (before : List Digest) (last : Option (List ℕ)) (ds : List Digest) (end : ℕ) (rest : List ℕ) → AscendFrom last (map name_of ds) → AllByRecursion IsName ds
    → outside_at (length ds) before last (record { end = end; rest = flat_map name_of ds ++ rest }) ≡ Ok (before ++ ds, record { end = end; rest = rest })
unfolding outside_at
outside_again before last [] end rest up names = ap (λ x. Ok (x, record { end = end; rest = rest })) (sym (append-nil before))
outside_again before last (d ∷ ds) end rest up names =
    ap (λ x. outside_at (suc (length ds)) before last (record { end = end; rest = x })) (append_assoc d.0 (flat_map name_of ds) rest)
    ∙ rw (above_again last end d.0 (flat_map name_of ds ++ rest) names.0 up.0, outside_again (before ++ d ∷ []) (Some d.0) ds end rest up.1 names.1) (ap (λ x. Ok (x, record { end = end; rest = rest })) (append_assoc before (d ∷ []) ds))

pub ref_again : (outside : List Digest) (r : RefTo) (end : ℕ) (rest : List ℕ) → IsRef outside r → ref_at outside (record { end = end; rest = ref_text outside r ++ rest }) ≡ Ok (r, record { end = end; rest = rest })
unfolding ref_at
ref_again outside r end rest is =
    ap (λ x. ref_at outside (record { end = end; rest = x })) (append_assoc r.guid.0 (to_le_bytes w32 (home_number outside r.home)) rest)
    ∙ rw (bytes_again 16 end r.guid.0 (to_le_bytes w32 (home_number outside r.home) ++ rest) is.sixteen, number_again w32 (2 ^ 32) wide32 (home_number outside r.home) end rest is.small, is.home) refl

pub refs_again : (outside : List Digest) (before rs : List RefTo) (end : ℕ) (rest : List ℕ) → AllByRecursion (IsRef outside) rs
    → refs_at (length rs) outside before (record { end = end; rest = flat_map (ref_text outside) rs ++ rest }) ≡ Ok (before ++ rs, record { end = end; rest = rest })
unfolding refs_at
refs_again outside before [] end rest are = ap (λ x. Ok (x, record { end = end; rest = rest })) (sym (append-nil before))
refs_again outside before (r ∷ rs) end rest are =
    ap (λ x. refs_at (suc (length rs)) outside before (record { end = end; rest = x })) (append_assoc (ref_text outside r) (flat_map (ref_text outside) rs) rest)
    ∙ rw (ref_again outside r end (flat_map (ref_text outside) rs ++ rest) are.0, refs_again outside (before ++ r ∷ []) rs end rest are.1) (ap (λ x. Ok (x, record { end = end; rest = rest })) (append_assoc before (r ∷ []) rs))

size_again : (room at size end : ℕ) (rest : List ℕ) → at < 2 ^ 64 → size < 2 ^ 64 → at + size ≤ room
    → size_at room at (record { end = end; rest = to_le_bytes w64 at ++ (to_le_bytes w64 size ++ rest) }) ≡ Ok (size, record { end = end; rest = rest })
unfolding size_at
size_again room at size end rest at_small size_small within =
    rw (number_again w64 (2 ^ 64) wide64 at end (to_le_bytes w64 size ++ rest) at_small, eq-eqb at at refl, number_again w64 (2 ^ 64) wide64 size end rest size_small, le-ltb room (at + size) within) refl

regroup : (a b c d e x : List ℕ) → (a ++ (b ++ (c ++ (d ++ e)))) ++ x ≡ a ++ (b ++ (c ++ (d ++ (e ++ x))))
regroup a b c d e x = simp append_assoc

pub row_again : (outside : List Digest) (room : ℕ) (last : Option (List ℕ)) (at : ℕ) (o : ObjectRow) (end : ℕ) (rest : List ℕ) → IsRow outside room last at o
    → row_at outside room last at (record { end = end; rest = row_text outside o ++ rest }) ≡ Ok (o, record { end = end; rest = rest })
unfolding row_at
row_again outside room last at o end rest is =
    let refs = flat_map (ref_text outside) o.refs in
    let x1 = refs ++ rest in
    let x2 = to_le_bytes w32 (length o.refs) ++ x1 in
    let x3 = to_le_bytes w64 o.size ++ x2 in
    let x4 = to_le_bytes w64 o.offset ++ x3 in
    let size : size_at room o.offset (record { end = end; rest = x4 }) ≡ Ok (o.size, record { end = end; rest = x2 }) =
    size_again room o.offset o.size end x2 is.offset_small is.size_small (subst (λ n. n + o.size ≤ room) (sym is.offset) is.within)
    in
    let read : row_at outside room last o.offset (record { end = end; rest = row_text outside o ++ rest }) ≡ Ok (o, record { end = end; rest = rest }) =
    ap (λ x. row_at outside room last o.offset (record { end = end; rest = x })) (regroup o.guid.0 (to_le_bytes w64 o.offset) (to_le_bytes w64 o.size) (to_le_bytes w32 (length o.refs)) refs rest)
    ∙ rw (above_again last end o.guid.0 x4 is.sixteen is.above, size, number_again w32 (2 ^ 32) wide32 (length o.refs) end x1 is.few, refs_again outside [] o.refs end rest is.refs) refl
    in
    subst (λ n. row_at outside room last n (record { end = end; rest = row_text outside o ++ rest }) ≡ Ok (o, record { end = end; rest = rest })) is.offset read

pub rows_again : (outside : List Digest) (room : ℕ) (last : Option (List ℕ)) (at : ℕ) (before os : List ObjectRow) (end : ℕ) (rest : List ℕ) → AreRows outside room last at os
    → rows_at (length os) outside room last at before (record { end = end; rest = flat_map (row_text outside) os ++ rest }) ≡ Ok (before ++ os, at + sum_by size_of os, record { end = end; rest = rest })
unfolding rows_at
rows_again outside room last at before [] end rest are = rw (add-zero at) (ap (λ x. Ok (x, at, record { end = end; rest = rest })) (sym (append-nil before)))
rows_again outside room last at before (o ∷ os) end rest are =
    let total : (at + o.size) + sum_by size_of os ≡ at + sum_by size_of (o ∷ os) = omega (arith, sum_by-cons size_of o os) in
    ap (λ x. rows_at (suc (length os)) outside room last at before (record { end = end; rest = x })) (append_assoc (row_text outside o) (flat_map (row_text outside) os) rest)
    ∙ rw (row_again outside room last at o end (flat_map (row_text outside) os ++ rest) are.0, rows_again outside room (Some o.guid.0) (at + o.size) (before ++ o ∷ []) os end rest are.1, total) (ap (λ x. Ok (x, at + sum_by size_of (o ∷ os), record { end = end; rest = rest })) (append_assoc before (o ∷ []) os))

pub parts_again : (room : ℕ) (outside : List Digest) (rows : List ObjectRow) → AscendFrom None (map name_of outside) → AllByRecursion IsName outside → length outside < 2 ^ 32 → AreRows outside room None 0 rows → length rows < 2 ^ 32
    → parts_at room (table_text outside rows) ≡ Ok (record { outside = outside; rows = rows; end = sum_by size_of rows; rest = record { end = length (table_text outside rows); rest = [] } })
unfolding parts_at
parts_again room outside rows up names few_names are few =
    let end = length (table_text outside rows) in
    let x1 = flat_map (row_text outside) rows in
    let x2 = to_le_bytes w32 (length rows) ++ x1 in
    let x3 = flat_map name_of outside ++ x2 in
    let x4 = to_le_bytes w32 (length outside) ++ x3 in
    let last : rows_at (length rows) outside room None 0 [] (record { end = end; rest = x1 }) ≡ Ok (rows, sum_by size_of rows, record { end = end; rest = [] }) =
    ap (λ x. rows_at (length rows) outside room None 0 [] (record { end = end; rest = x })) (sym (append-nil x1)) ∙ (rows_again outside room None 0 [] rows end [] are ∙ ap (λ n. Ok (rows, n, record { end = end; rest = [] })) (zero-add (sum_by size_of rows)))
    in
    rw (magic_again end x4, number_again w32 (2 ^ 32) wide32 (length outside) end x3 few_names, outside_again [] None outside end x2 up names, number_again w32 (2 ^ 32) wide32 (length rows) end x1 few, last) refl
