-- Reading rows one after the other, as loops do: a step, a fault, and the end.
use Rattle.std.proofs.Common.{◌≡◌, ℕ, suc, ◌-◌, ◌+◌, ◌≤◌, ◌<◌, List, [], ◌∷◌, ◌++◌, Option, Some, Result, Ok, Err, refl, sym, ◌∙◌, ◌⊎◌, inl, inr, arith}
use Rattle.addr_base.specs.declared.ids.Digest.{Digest}
use Rattle.addr_base.specs.declared.images.RefTo.{RefTo}
use Rattle.addr_unityfs.specs.Faults.{Tail}
use Rattle.addr_cab.specs.declared.object.ObjectRow.{ObjectRow}
use Rattle.addr_cab.specs.declared.error.CabErr.{CabErr}
use Rattle.addr_cab.specs.declared.error.CabErr.TheVariants.{NoMemory}
use Rattle.addr_cab.specs.Faults.{above_at, outside_at, ref_at, refs_at, row_at, rows_at}

pub next_name : (count i : ℕ) (before : List Digest) (last : Option (List ℕ)) (c : Tail) (name : List ℕ) (after : Tail) (total : Result (List Digest × Tail) CabErr) → i < count → above_at last c ≡ Ok (name, after) → outside_at (count - i) before last c ≡ total
    → outside_at (count - (i + 1)) (before ++ record { 0 = name } ∷ []) (Some name) after ≡ total
unfolding outside_at
next_name count i before last c name after total small read so_far =
    let more : count - i ≡ suc (count - (i + 1)) = omega arith in
    let step : outside_at (count - i) before last c ≡ outside_at (count - (i + 1)) (before ++ record { 0 = name } ∷ []) (Some name) after = rw (more, read) refl in
    sym step ∙ so_far

pub bad_name : (count i : ℕ) (before : List Digest) (last : Option (List ℕ)) (c : Tail) (e : CabErr) (total : Result (List Digest × Tail) CabErr) → i < count → above_at last c ≡ Err e → outside_at (count - i) before last c ≡ total → total ≡ Err e
unfolding outside_at
bad_name count i before last c e total small read so_far =
    let more : count - i ≡ suc (count - (i + 1)) = omega arith in
    let step : outside_at (count - i) before last c ≡ Err e = rw (more, read) refl in
    sym so_far ∙ step

pub all_names : (count i : ℕ) (before : List Digest) (last : Option (List ℕ)) (c : Tail) (total : Result (List Digest × Tail) CabErr) → count ≤ i → outside_at (count - i) before last c ≡ total → total ≡ Ok (before, c)
unfolding outside_at
all_names count i before last c total done so_far =
    let none_left : count - i ≡ 0 = omega arith in
    let at_end : outside_at (count - i) before last c ≡ Ok (before, c) = rw none_left refl in
    sym so_far ∙ at_end

pub next_ref : (count i : ℕ) (outside : List Digest) (before : List RefTo) (c : Tail) (r : RefTo) (after : Tail) (total : Result (List RefTo × Tail) CabErr) → i < count → ref_at outside c ≡ Ok (r, after) → refs_at (count - i) outside before c ≡ total
    → refs_at (count - (i + 1)) outside (before ++ r ∷ []) after ≡ total
unfolding refs_at
next_ref count i outside before c r after total small read so_far =
    let more : count - i ≡ suc (count - (i + 1)) = omega arith in
    let step : refs_at (count - i) outside before c ≡ refs_at (count - (i + 1)) outside (before ++ r ∷ []) after = rw (more, read) refl in
    sym step ∙ so_far

pub bad_ref : (count i : ℕ) (outside : List Digest) (before : List RefTo) (c : Tail) (e : CabErr) (total : Result (List RefTo × Tail) CabErr) → i < count → ref_at outside c ≡ Err e → refs_at (count - i) outside before c ≡ total → total ≡ Err e
unfolding refs_at
bad_ref count i outside before c e total small read so_far =
    let more : count - i ≡ suc (count - (i + 1)) = omega arith in
    let step : refs_at (count - i) outside before c ≡ Err e = rw (more, read) refl in
    sym so_far ∙ step

pub all_refs : (count i : ℕ) (outside : List Digest) (before : List RefTo) (c : Tail) (total : Result (List RefTo × Tail) CabErr) → count ≤ i → refs_at (count - i) outside before c ≡ total → total ≡ Ok (before, c)
unfolding refs_at
all_refs count i outside before c total done so_far =
    let none_left : count - i ≡ 0 = omega arith in
    let at_end : refs_at (count - i) outside before c ≡ Ok (before, c) = rw none_left refl in
    sym so_far ∙ at_end

pub next_row : (count i : ℕ) (outside : List Digest) (room : ℕ) (last : Option (List ℕ)) (end : ℕ) (before : List ObjectRow) (c : Tail) (o : ObjectRow) (after : Tail) (total : Result (List ObjectRow × ℕ × Tail) CabErr) → i < count
    → row_at outside room last end c ≡ Ok (o, after) → rows_at (count - i) outside room last end before c ≡ total
    → rows_at (count - (i + 1)) outside room (Some o.guid.0) (end + o.size) (before ++ o ∷ []) after ≡ total
unfolding rows_at
next_row count i outside room last end before c o after total small read so_far =
    let more : count - i ≡ suc (count - (i + 1)) = omega arith in
    let step : rows_at (count - i) outside room last end before c ≡ rows_at (count - (i + 1)) outside room (Some o.guid.0) (end + o.size) (before ++ o ∷ []) after = rw (more, read) refl in
    sym step ∙ so_far

pub bad_row : (count i : ℕ) (outside : List Digest) (room : ℕ) (last : Option (List ℕ)) (end : ℕ) (before : List ObjectRow) (c : Tail) (e : CabErr) (total : Result (List ObjectRow × ℕ × Tail) CabErr) → i < count
    → (e ≡ NoMemory) ⊎ (row_at outside room last end c ≡ Err e) → rows_at (count - i) outside room last end before c ≡ total → (e ≡ NoMemory) ⊎ (total ≡ Err e)
unfolding rows_at
bad_row count i outside room last end before c e total small (inl memory) so_far = inl memory
bad_row count i outside room last end before c e total small (inr read) so_far =
    let more : count - i ≡ suc (count - (i + 1)) = omega arith in
    let step : rows_at (count - i) outside room last end before c ≡ Err e = rw (more, read) refl in
    inr (sym so_far ∙ step)

pub all_rows : (count i : ℕ) (outside : List Digest) (room : ℕ) (last : Option (List ℕ)) (end : ℕ) (before : List ObjectRow) (c : Tail) (total : Result (List ObjectRow × ℕ × Tail) CabErr) → count ≤ i → rows_at (count - i) outside room last end before c ≡ total → total ≡ Ok (before, end, c)
unfolding rows_at
all_rows count i outside room last end before c total done so_far =
    let none_left : count - i ≡ 0 = omega arith in
    let at_end : rows_at (count - i) outside room last end before c ≡ Ok (before, end, c) = rw none_left refl in
    sym so_far ∙ at_end
