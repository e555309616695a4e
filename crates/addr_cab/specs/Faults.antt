-- The first fault of a table: its fields are read and tested in order, and the first test that fails gives the answer.
use Rattle.std.specs.Prelude.{ℕ, zero, suc, ◌+◌, ◌-◌, ◌*◌, List, [], ◌∷◌, ◌++◌, length, take, Bool, Option, Some, None, option_map, Result, Ok, Err, nat_lt, not, ◌==◌, ◌&&◌, if◌then◌else◌, position, slice_get}
use Rattle.std.specs.List.{list_any}
use Rattle.std.specs.Int.{Width, w32, w64, byte_len, from_le_bytes}
use Rattle.std.specs.Str.{bytes_eq}
use Rattle.addr_base.specs.declared.ids.Digest.{Digest}
use Rattle.addr_base.specs.declared.images.Home.{Home}
use Rattle.addr_base.specs.declared.images.Home.TheVariants.{Own, Other}
use Rattle.addr_base.specs.declared.images.RefTo.{RefTo}
use Rattle.addr_unityfs.specs.Faults.{Tail, place, whole, past}
use Rattle.addr_cab.specs.declared.object.ObjectRow.{ObjectRow}
use Rattle.addr_cab.specs.declared.error.CabErr.{CabErr}
use Rattle.addr_cab.specs.declared.error.CabErr.TheVariants.{Short, Magic, Order, Range, Ref, Trailing}
use Rattle.addr_cab.specs.Spelling.{magic, is_above, leads_to, is_own, row_front, ref_len, name_len, names_at, table_front, row_len}

-- a value that was read is handed on, and a fault ends the reading
infixl 10 ◌>>=◌
abbrev pub ◌>>=◌ : {A B : Type 0} → Result A CabErr → (A → Result B CabErr) → Result B CabErr
(Ok x) >>= f = f x
(Err e) >>= f = Err e

-- a field of so many bytes
unfoldable pub bytes_at : ℕ → Tail → Result (List ℕ × Tail) CabErr
bytes_at n c = if nat_lt (length c.rest) n then Err (Short (place c)) else Ok (take n c.rest, past n c)

-- a number of a width, little-endian
unfoldable pub number_at : Width → Tail → Result (ℕ × Tail) CabErr
number_at w c = do
  bytes ← bytes_at (byte_len w) c
  Ok (from_le_bytes w bytes.0, bytes.1)

unfoldable pub magic_at : Tail → Result Tail CabErr
magic_at c = do
  first ← bytes_at 4 c
  if bytes_eq first.0 magic then Ok first.1 else Err Magic

-- 16 bytes that stand above the last ones of their kind
unfoldable pub above_at : Option (List ℕ) → Tail → Result (List ℕ × Tail) CabErr
above_at last c = do
  bytes ← bytes_at 16 c
  if is_above last bytes.0 then Ok bytes else Err (Order (place c))

-- n outside bundles, behind those before
unfoldable pub outside_at : ℕ → List Digest → Option (List ℕ) → Tail → Result (List Digest × Tail) CabErr
outside_at zero before last c = Ok (before, c)
outside_at (suc n) before last c = do
  name ← above_at last c
  outside_at n (before ++ record { 0 = name.0 } ∷ []) (Some name.0) name.1

-- the home with a number, where it has one
abbrev pub home_of : List Digest → ℕ → Option Home
home_of outside number = if number == 0 then Some Own else option_map Other (slice_get outside (number - 1))

abbrev pub or_fault : {A : Type 0} → Option A → CabErr → Result A CabErr
or_fault (Some x) e = Ok x
or_fault None e = Err e

unfoldable pub ref_at : List Digest → Tail → Result (RefTo × Tail) CabErr
ref_at outside c = do
  guid ← bytes_at 16 c
  number ← number_at w32 guid.1
  home ← or_fault (home_of outside number.0) (Ref (place guid.1))
  Ok (record { guid = record { 0 = guid.0 }; home = home }, number.1)

-- n references, behind those before
unfoldable pub refs_at : ℕ → List Digest → List RefTo → Tail → Result (List RefTo × Tail) CabErr
refs_at zero outside before c = Ok (before, c)
refs_at (suc n) outside before c = do
  first ← ref_at outside c
  refs_at n outside (before ++ first.0 ∷ []) first.1

-- how many bytes an object has, where the bytes before end at a place and the data has so much room
unfoldable pub size_at : ℕ → ℕ → Tail → Result (ℕ × Tail) CabErr
size_at room end c = do
  offset ← number_at w64 c
  size ← (if offset.0 == end then number_at w64 offset.1 else Err (Range (place c)))
  if nat_lt room (end + size.0) then Err (Range (place offset.1)) else Ok size

-- an object: its GUID stands above the last one, and its bytes lie behind those before
unfoldable pub row_at : List Digest → ℕ → Option (List ℕ) → ℕ → Tail → Result (ObjectRow × Tail) CabErr
row_at outside room last end c = do
  guid ← above_at last c
  size ← size_at room end guid.1
  count ← number_at w32 size.1
  refs ← refs_at count.0 outside [] count.1
  Ok (record { guid = record { 0 = guid.0 }; offset = end; size = size.0; refs = refs.0 }, refs.1)

-- n objects, behind those before, whose bytes end at a place; and where the bytes of all end
unfoldable pub rows_at : ℕ → List Digest → ℕ → Option (List ℕ) → ℕ → List ObjectRow → Tail → Result (List ObjectRow × ℕ × Tail) CabErr
rows_at zero outside room last end before c = Ok (before, end, c)
rows_at (suc n) outside room last end before c = do
  first ← row_at outside room last end c
  rows_at n outside room (Some first.0.guid.0) (end + first.0.size) (before ++ first.0 ∷ []) first.1

-- whether an object has the GUID
abbrev pub has_guid : List ℕ → ObjectRow → Bool
has_guid guid o = bytes_eq o.guid.0 guid

-- whether a reference into the own bundle leads to no object
unfoldable pub is_lost : List ObjectRow → RefTo → Bool
is_lost rows r = is_own r.home && not (list_any (has_guid r.guid.0) rows)

-- the place of the first lost one of references, which stand at a place
abbrev pub lost_ref : List ObjectRow → ℕ → List RefTo → Option ℕ
lost_ref rows at refs = option_map (λ i. at + ref_len * i) (position (is_lost rows) refs)

abbrev pub first_of : {A : Type 0} → Option A → Option A → Option A
first_of None other = other
first_of (Some x) other = Some x

-- the place of the first lost reference of some of the objects, which stand at a place
unfoldable pub lost_at : List ObjectRow → ℕ → List ObjectRow → Option ℕ
lost_at rows at [] = None
lost_at rows at (o ∷ os) = first_of (lost_ref rows (at + row_front) o.refs) (lost_at rows (at + row_len o) os)

-- whether no reference leads to the bundle
unfoldable pub is_unnamed : List ObjectRow → Digest → Bool
is_unnamed rows name = not (list_any (λ o. leads_to name o.refs) rows)

-- the place of the first outside bundle that no reference leads to
abbrev pub unnamed_at : List ObjectRow → List Digest → Option ℕ
unnamed_at rows outside = option_map (λ i. names_at + name_len * i) (position (is_unnamed rows) outside)

-- the tests behind the last object, where the data has so much room and its objects end at a place
unfoldable pub end_fault : List Digest → List ObjectRow → ℕ → ℕ → Tail → Option CabErr
end_fault outside rows room end c =
    if nat_lt 0 (length c.rest) then Some (Trailing (place c))
    else if not (end == room) then Some (Range c.end)
    else option_map Ref (first_of (lost_at rows (table_front + name_len * length outside) rows) (unnamed_at rows outside))

abbrev pub unless : {A : Type 0} → Option CabErr → A → Result A CabErr
unless None x = Ok x
unless (Some e) x = Err e

-- the parts of a table that were read, with the place of the data where the objects end, and what is left
pub record Parts : Type 0 where
  pub outside : List Digest
  pub rows : List ObjectRow
  pub end : ℕ
  pub rest : Tail

unfoldable pub parts_at : ℕ → List ℕ → Result Parts CabErr
parts_at room table = do
  begun ← magic_at (whole table)
  names ← number_at w32 begun
  outside ← outside_at names.0 [] None names.1
  count ← number_at w32 outside.1
  rows ← rows_at count.0 outside.0 room None 0 [] count.1
  Ok (record { outside = outside.0; rows = rows.0; end = rows.1; rest = rows.2 })

-- what a table is read as where its data has so much room: its objects, or its first fault
unfoldable pub table_read : ℕ → List ℕ → Result (List ObjectRow) CabErr
table_read room table = do
  parts ← parts_at room table
  unless (end_fault parts.outside parts.rows room parts.end parts.rest) parts.rows
