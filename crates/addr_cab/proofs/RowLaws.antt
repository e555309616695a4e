-- Rows that are read are those that were written: their bytes, and what the tests on them leave.
use Rattle.std.proofs.Common.{◌≡◌, ℕ, zero, suc, ◌+◌, ◌-◌, ◌*◌, ◌^◌, ◌<◌, ◌≤◌, true, false, cond, eqb, List, [], ◌∷◌, ◌++◌, length, get_or, map, sum_by, Option, Some, None, Ok, Err, refl, sym, ap, subst, ◌∙◌, append_assoc, arith, length-append, add-zero}
use Rattle.std.specs.Option.{option_map}
use Rattle.std.specs.List.{flat_map, AllByRecursion, slice_get}
use Rattle.std.specs.Int.{w32, w64, to_le_bytes}
use Rattle.std.proofs.lemmas.Bool.{eqb-true, eqb-false, ltb-false}
use Rattle.std.proofs.lemmas.List.{append-nil}
use Rattle.std.proofs.lemmas.List.Sums.{sum_by-cons}
use Rattle.std.proofs.lemmas.Option.{slice_get_within, get_or_from_slice_get}
use Rattle.addr_base.specs.declared.ids.Digest.{Digest}
use Rattle.addr_base.specs.declared.images.Home.{Home}
use Rattle.addr_base.specs.declared.images.Home.TheVariants.{Own, Other}
use Rattle.addr_base.specs.declared.images.RefTo.{RefTo}
use Rattle.addr_unityfs.specs.Faults.{Tail, place}
use Rattle.addr_unityfs.proofs.FieldLaws.{IsBytes, Takes, Takes-then}
use Rattle.addr_cab.specs.declared.object.ObjectRow.{ObjectRow}
use Rattle.addr_cab.specs.declared.error.CabErr.TheVariants.{Range, Ref}
use Rattle.addr_cab.specs.Spelling.{is_above, home_number, ref_text, row_text, row_len}
use Rattle.addr_cab.specs.Format.{IsName, IsRef}
use Rattle.addr_cab.specs.Searches.{Ascend}
use Rattle.addr_cab.specs.Faults.{bytes_at, number_at, above_at, outside_at, home_of, or_fault, ref_at, refs_at, size_at, row_at, rows_at}
use Rattle.addr_cab.proofs.InOrder.{AscendFrom, first_at}
use Rattle.addr_cab.proofs.FieldLaws.{bind_ok, guard_ok, test_ok, some_ok, ok_is, bytes_takes, above_takes, wide32, wide64, number_takes}

abbrev pub name_of : Digest → List ℕ
name_of d = d.0

abbrev pub guid_of : ObjectRow → List ℕ
guid_of o = o.guid.0

-- ---- outside bundles

pub outside_take : (n : ℕ) (before : List Digest) (last : Option (List ℕ)) (c : Tail) (x : List Digest × Tail) → IsBytes c.rest → outside_at n before last c ≡ Ok x
    → (ds : List Digest) × (x.0 ≡ before ++ ds) × Takes c (flat_map name_of ds) x.1 × (length ds ≡ n) × AscendFrom last (map name_of ds) × AllByRecursion IsName ds
unfolding outside_at
outside_take zero before last c x fits e =
    subst (λ (y : List Digest × Tail). (ds : List Digest) × (y.0 ≡ before ++ ds) × Takes c (flat_map name_of ds) y.1 × (length ds ≡ 0) × AscendFrom last (map name_of ds) × AllByRecursion IsName ds) (ok_is (before, c) x e)
    ([], sym (append-nil before), record { parts = refl; end = refl; fits = fits }, refl, tt, tt)
outside_take (suc n) before last c x fits e =
    let first = bind_ok (above_at last c) _ x e in
    let taken = above_takes last c first.0 fits first.1 in
    let d : Digest = record { 0 = first.0.0 } in
    let more = outside_take n (before ++ d ∷ []) (Some first.0.0) first.0.1 x taken.0.fits first.2 in
    let both = Takes-then c first.0.0 first.0.1 (flat_map name_of more.0) x.1 taken.0 more.2 in
    (d ∷ more.0, more.1 ∙ append_assoc before (d ∷ []) more.0, both, ap suc more.3, (taken.2, more.4), (taken.1, more.5))

pub names_len : (ds : List Digest) → AllByRecursion IsName ds → length (flat_map name_of ds) ≡ 16 * length ds
names_len [] h = refl
names_len (d ∷ ds) h = omega (arith, length-append d.0 (flat_map name_of ds), h.0, names_len ds h.1)

-- ---- references

outside_home : (outside : List Digest) (k : ℕ) (h : Home) → Ascend name_of outside → option_map Other (slice_get outside k) ≡ Some h → home_number outside h ≡ k + 1
outside_home outside k h up e =
    elim (slice_get outside k) as (λ o. slice_get outside k ≡ o → option_map Other o ≡ Some h → home_number outside h ≡ k + 1) [
      | None ↦ λ is some. absurd cc
      | Some name ↦ λ is some.
          let same : Other name ≡ h = cc in
          let within = slice_get_within outside k name is in
          let here : name_of (get_or outside k name) ≡ name.0 = ap name_of (get_or_from_slice_get outside k name name is) in
          subst (λ x. home_number outside x ≡ k + 1) same (ap (λ n. n + 1) (first_at name_of outside name k name.0 up within here))
    ] refl e

pub number_is : (outside : List Digest) (n : ℕ) (h : Home) → Ascend name_of outside → home_of outside n ≡ Some h → home_number outside h ≡ n
number_is outside n h up e =
    elim (eqb n 0) as (λ t. eqb n 0 ≡ t → cond t (Some Own) (option_map Other (slice_get outside (n - 1))) ≡ Some h → home_number outside h ≡ n) [
      | true ↦ λ is some. let same : Own ≡ h = cc in subst (λ x. home_number outside x ≡ n) same (sym (eqb-true n 0 is))
      | false ↦ λ is some. let some_number = eqb-false n 0 is in omega (arith, some_number, outside_home outside (n - 1) h up some)
    ] refl e

pub ref_takes : (outside : List Digest) (c : Tail) (x : RefTo × Tail) → Ascend name_of outside → IsBytes c.rest → ref_at outside c ≡ Ok x → Takes c (ref_text outside x.0) x.1 × IsRef outside x.0
unfolding ref_at
ref_takes outside c x up fits e =
    let guid = bind_ok (bytes_at 16 c) _ x e in
    let t0 = bytes_takes 16 c guid.0 fits guid.1 in
    let number = bind_ok (number_at w32 guid.0.1) _ x guid.2 in
    let t1 = number_takes w32 (2 ^ 32) wide32 guid.0.1 number.0 t0.0.fits number.1 in
    let home = bind_ok (or_fault (home_of outside number.0.0) (Ref (place guid.0.1))) _ x number.2 in
    let is = some_ok (home_of outside number.0.0) (Ref (place guid.0.1)) home.0 home.1 in
    let same : home_number outside home.0 ≡ number.0.0 = number_is outside number.0.0 home.0 up is in
    let r : RefTo = record { guid = record { 0 = guid.0.0 }; home = home.0 } in
    let t2 : Takes guid.0.1 (to_le_bytes w32 (home_number outside home.0)) number.0.1 = subst (λ n. Takes guid.0.1 (to_le_bytes w32 n) number.0.1) (sym same) t1.0 in
    let all : Takes c (ref_text outside r) number.0.1 = Takes-then c guid.0.0 guid.0.1 (to_le_bytes w32 (home_number outside home.0)) number.0.1 t0.0 t2 in
    subst (λ (y : RefTo × Tail). Takes c (ref_text outside y.0) y.1 × IsRef outside y.0) (ok_is (r, number.0.1) x home.2)
    (all, record { sixteen = t0.1; small = subst (λ n. n < 2 ^ 32) (sym same) t1.1; home = subst (λ n. home_of outside n ≡ Some home.0) (sym same) is })

pub refs_take : (n : ℕ) (outside : List Digest) (before : List RefTo) (c : Tail) (x : List RefTo × Tail) → Ascend name_of outside → IsBytes c.rest → refs_at n outside before c ≡ Ok x
    → (rs : List RefTo) × (x.0 ≡ before ++ rs) × Takes c (flat_map (ref_text outside) rs) x.1 × (length rs ≡ n) × AllByRecursion (IsRef outside) rs
unfolding refs_at
refs_take zero outside before c x up fits e =
    subst (λ (y : List RefTo × Tail). (rs : List RefTo) × (y.0 ≡ before ++ rs) × Takes c (flat_map (ref_text outside) rs) y.1 × (length rs ≡ 0) × AllByRecursion (IsRef outside) rs) (ok_is (before, c) x e)
    ([], sym (append-nil before), record { parts = refl; end = refl; fits = fits }, refl, tt)
refs_take (suc n) outside before c x up fits e =
    let first = bind_ok (ref_at outside c) _ x e in
    let taken = ref_takes outside c first.0 up fits first.1 in
    let more = refs_take n outside (before ++ first.0.0 ∷ []) first.0.1 x up taken.0.fits first.2 in
    let both = Takes-then c (ref_text outside first.0.0) first.0.1 (flat_map (ref_text outside) more.0) x.1 taken.0 more.2 in
    (first.0.0 ∷ more.0, more.1 ∙ append_assoc before (first.0.0 ∷ []) more.0, both, ap suc more.3, (taken.1, more.4))

pub refs_len : (outside : List Digest) (rs : List RefTo) → AllByRecursion (IsRef outside) rs → length (flat_map (ref_text outside) rs) ≡ 20 * length rs
refs_len outside [] h = refl
refs_len outside (r ∷ rs) h =
    let one : length (ref_text outside r) ≡ 20 = omega (arith, length-append r.guid.0 (to_le_bytes w32 (home_number outside r.home)), h.0.sixteen, wide32.len (home_number outside r.home)) in
    omega (arith, length-append (ref_text outside r) (flat_map (ref_text outside) rs), one, refs_len outside rs h.1)

-- ---- objects

-- an object behind others of which the last GUID and the end of the bytes are given
pub record IsRow (outside : List Digest) (room : ℕ) (last : Option (List ℕ)) (end : ℕ) (o : ObjectRow) : Type 0 where
  pub sixteen : length o.guid.0 ≡ 16
  pub above : is_above last o.guid.0 ≡ true
  pub offset : o.offset ≡ end
  pub within : end + o.size ≤ room
  pub offset_small : o.offset < 2 ^ 64
  pub size_small : o.size < 2 ^ 64
  pub few : length o.refs < 2 ^ 32
  pub refs : AllByRecursion (IsRef outside) o.refs

abbrev pub AreRows : List Digest → ℕ → Option (List ℕ) → ℕ → List ObjectRow → Type 0
AreRows outside room last end [] = Unit {0}
AreRows outside room last end (o ∷ os) = IsRow outside room last end o × AreRows outside room (Some o.guid.0) (end + o.size) os

size_takes : (room end : ℕ) (c : Tail) (x : ℕ × Tail) → IsBytes c.rest → size_at room end c ≡ Ok x → Takes c (to_le_bytes w64 end ++ to_le_bytes w64 x.0) x.1 × (end < 2 ^ 64) × (x.0 < 2 ^ 64) × (end + x.0 ≤ room)
unfolding size_at
size_takes room end c x fits e =
    let offset = bind_ok (number_at w64 c) _ x e in
    let t0 = number_takes w64 (2 ^ 64) wide64 c offset.0 fits offset.1 in
    let size = bind_ok (cond (eqb offset.0.0 end) (number_at w64 offset.0.1) (Err (Range (place c)))) _ x offset.2 in
    let tested = test_ok (eqb offset.0.0 end) (Range (place c)) (number_at w64 offset.0.1) size.0 size.1 in
    let same : offset.0.0 ≡ end = eqb-true _ _ tested.0 in
    let t1 = number_takes w64 (2 ^ 64) wide64 offset.0.1 size.0 t0.0.fits tested.1 in
    let passed = guard_ok _ (Range (place offset.0.1)) (Ok size.0) x size.2 in
    let within : end + size.0.0 ≤ room = ltb-false _ _ passed.0 in
    let first : Takes c (to_le_bytes w64 end) offset.0.1 = subst (λ n. Takes c (to_le_bytes w64 n) offset.0.1) same t0.0 in
    let both = Takes-then c (to_le_bytes w64 end) offset.0.1 (to_le_bytes w64 size.0.0) size.0.1 first t1.0 in
    subst (λ (y : ℕ × Tail). Takes c (to_le_bytes w64 end ++ to_le_bytes w64 y.0) y.1 × (end < 2 ^ 64) × (y.0 < 2 ^ 64) × (end + y.0 ≤ room)) (ok_is _ _ passed.1)
    (both, subst (λ n. n < 2 ^ 64) same t0.1, t1.1, within)

pub row_takes : (outside : List Digest) (room : ℕ) (last : Option (List ℕ)) (end : ℕ) (c : Tail) (x : ObjectRow × Tail) → Ascend name_of outside → IsBytes c.rest → row_at outside room last end c ≡ Ok x
    → Takes c (row_text outside x.0) x.1 × IsRow outside room last end x.0
unfolding row_at
row_takes outside room last end c x up fits e =
    let guid = bind_ok (above_at last c) _ x e in
    let t0 = above_takes last c guid.0 fits guid.1 in
    let size = bind_ok (size_at room end guid.0.1) _ x guid.2 in
    let t1 = size_takes room end guid.0.1 size.0 t0.0.fits size.1 in
    let count = bind_ok (number_at w32 size.0.1) _ x size.2 in
    let t2 = number_takes w32 (2 ^ 32) wide32 size.0.1 count.0 t1.0.fits count.1 in
    let refs = bind_ok (refs_at count.0.0 outside [] count.0.1) _ x count.2 in
    let t3 = refs_take count.0.0 outside [] count.0.1 refs.0 up t2.0.fits refs.1 in
    let o : ObjectRow = record { guid = record { 0 = guid.0.0 }; offset = end; size = size.0.0; refs = refs.0.0 } in
    let len : length refs.0.0 ≡ count.0.0 = ap length t3.1 ∙ t3.3 in
    let t2' : Takes size.0.1 (to_le_bytes w32 (length refs.0.0)) count.0.1 = subst (λ n. Takes size.0.1 (to_le_bytes w32 n) count.0.1) (sym len) t2.0 in
    let t3' : Takes count.0.1 (flat_map (ref_text outside) refs.0.0) refs.0.1 = subst (λ rs. Takes count.0.1 (flat_map (ref_text outside) rs) refs.0.1) (sym t3.1) t3.2 in
    let tail_part = Takes-then size.0.1 (to_le_bytes w32 (length refs.0.0)) count.0.1 (flat_map (ref_text outside) refs.0.0) refs.0.1 t2' t3' in
    let middle = Takes-then guid.0.1 (to_le_bytes w64 end ++ to_le_bytes w64 size.0.0) size.0.1 (to_le_bytes w32 (length refs.0.0) ++ flat_map (ref_text outside) refs.0.0) refs.0.1 t1.0 tail_part in
    let grouped : Takes guid.0.1 (to_le_bytes w64 end ++ (to_le_bytes w64 size.0.0 ++ (to_le_bytes w32 (length refs.0.0) ++ flat_map (ref_text outside) refs.0.0))) refs.0.1 =
    subst (λ t. Takes guid.0.1 t refs.0.1) (append_assoc (to_le_bytes w64 end) (to_le_bytes w64 size.0.0) (to_le_bytes w32 (length refs.0.0) ++ flat_map (ref_text outside) refs.0.0)) middle
    in
    let all : Takes c (row_text outside o) refs.0.1 = Takes-then c guid.0.0 guid.0.1 _ refs.0.1 t0.0 grouped in
    subst (λ (y : ObjectRow × Tail). Takes c (row_text outside y.0) y.1 × IsRow outside room last end y.0) (ok_is (o, refs.0.1) x refs.2)
    (all, record { sixteen = t0.1; above = t0.2; offset = refl; within = t1.3; offset_small = t1.1; size_small = t1.2; few = subst (λ n. n < 2 ^ 32) (sym len) t2.1; refs = subst (AllByRecursion (IsRef outside)) (sym t3.1) t3.4 })

abbrev pub size_of : ObjectRow → ℕ
size_of o = o.size

pub rows_take : (n : ℕ) (outside : List Digest) (room : ℕ) (last : Option (List ℕ)) (end : ℕ) (before : List ObjectRow) (c : Tail) (x : List ObjectRow × ℕ × Tail) → Ascend name_of outside → IsBytes c.rest
    → rows_at n outside room last end before c ≡ Ok x
    → (os : List ObjectRow) × (x.0 ≡ before ++ os) × Takes c (flat_map (row_text outside) os) x.2 × (length os ≡ n) × AreRows outside room last end os × (x.1 ≡ end + sum_by size_of os)
unfolding rows_at
rows_take zero outside room last end before c x up fits e =
    subst (λ (y : List ObjectRow × ℕ × Tail). (os : List ObjectRow) × (y.0 ≡ before ++ os) × Takes c (flat_map (row_text outside) os) y.2 × (length os ≡ 0) × AreRows outside room last end os × (y.1 ≡ end + sum_by size_of os)) (ok_is (before, end, c) x e)
    ([], sym (append-nil before), record { parts = refl; end = refl; fits = fits }, refl, tt, sym (add-zero end))
rows_take (suc n) outside room last end before c x up fits e =
    let first = bind_ok (row_at outside room last end c) _ x e in
    let taken = row_takes outside room last end c first.0 up fits first.1 in
    let o = first.0.0 in
    let more = rows_take n outside room (Some o.guid.0) (end + o.size) (before ++ o ∷ []) first.0.1 x up taken.0.fits first.2 in
    let both = Takes-then c (row_text outside o) first.0.1 (flat_map (row_text outside) more.0) x.2 taken.0 more.2 in
    (o ∷ more.0, more.1 ∙ append_assoc before (o ∷ []) more.0, both, ap suc more.3, (taken.1, more.4), omega (arith, more.5, sum_by-cons size_of o more.0))

pub row_bytes : (outside : List Digest) (room : ℕ) (last : Option (List ℕ)) (end : ℕ) (o : ObjectRow) → IsRow outside room last end o → length (row_text outside o) ≡ row_len o
row_bytes outside room last end o h =
    let refs = flat_map (ref_text outside) o.refs in
    let count = to_le_bytes w32 (length o.refs) in
    let size = to_le_bytes w64 o.size in
    let offset = to_le_bytes w64 o.offset in
    omega (arith, length-append o.guid.0 (offset ++ (size ++ (count ++ refs))), length-append offset (size ++ (count ++ refs)), length-append size (count ++ refs), length-append count refs, h.sixteen, wide64.len o.offset, wide64.len o.size, wide32.len (length o.refs), refs_len outside o.refs h.refs)

pub rows_len : (outside : List Digest) (room : ℕ) (last : Option (List ℕ)) (end : ℕ) (os : List ObjectRow) → AreRows outside room last end os → length (flat_map (row_text outside) os) ≡ sum_by row_len os
rows_len outside room last end [] h = refl
rows_len outside room last end (o ∷ os) h =
    omega (arith, length-append (row_text outside o) (flat_map (row_text outside) os), row_bytes outside room last end o h.0, rows_len outside room (Some o.guid.0) (end + o.size) os h.1, sum_by-cons row_len o os)

pub rows_ascend : (outside : List Digest) (room : ℕ) (last : Option (List ℕ)) (end : ℕ) (os : List ObjectRow) → AreRows outside room last end os → AscendFrom last (map guid_of os)
rows_ascend outside room last end [] h = tt
rows_ascend outside room last end (o ∷ os) h = (h.0.above, rows_ascend outside room (Some o.guid.0) (end + o.size) os h.1)
