-- The sizes that are told by lengths are those of the bytes; and the two nodes of a bundle can be written.
use Rattle.std.proofs.Common.{◌≡◌, ◌≢◌, ℕ, zero, suc, ◌+◌, ◌-◌, ◌*◌, ◌/◌, ◌%◌, ◌^◌, ◌<◌, ◌≤◌, min, true, List, [], ◌∷◌, ◌++◌, length, get_or, map, sum_by, refl, sym, ap, ap₂, subst, ◌∙◌, arith, inl, inr, codes, length-append}
use Rattle.std.specs.Prelude.{nat_lt, slice_index}
use Rattle.std.specs.List.{flat_map, AllByRecursion}
use Rattle.std.specs.Int.{w32, w64, to_le_bytes}
use Rattle.std.proofs.lemmas.Bool.{cases_lt, ltb-true, agree_below_at}
use Rattle.std.proofs.lemmas.List.Elements.{All-from_recursion}
use Rattle.std.proofs.lemmas.List.Sums.{sum_by-cons}
use Rattle.hex.specs.Hex.{IsBytes, encode_with, lower_digits}
use Rattle.hex.proofs.HexLemmas.{length-encode_with}
use Rattle.addr_base.specs.Ids.{Are16Bytes, hex_of}
use Rattle.addr_base.specs.declared.ids.Digest.{Digest}
use Rattle.addr_base.specs.declared.images.RefTo.{RefTo}
use Rattle.addr_unityfs.specs.declared.bundle.NodeOut.{NodeOut}
use Rattle.addr_unityfs.specs.declared.bundle.NodeSize.{NodeSize}
use Rattle.addr_unityfs.specs.Format.{NoZero}
use Rattle.addr_unityfs.specs.Sizes as files
use Rattle.addr_unityfs.specs.Written as written
use Rattle.addr_cab.specs.declared.object.ObjectOut.{ObjectOut}
use Rattle.addr_cab.specs.declared.object.ObjectSize.{ObjectSize}
use Rattle.addr_cab.specs.Objects.{cab_nodes}
use Rattle.addr_cab.specs.Outside.{outside_of}
use Rattle.addr_cab.specs.Sizes.{size_of, row_size, rows_size, table_size, content_size, node_sizes}
use Rattle.addr_cab.specs.Spelling.{magic, table_path, data_path, ref_text, row_text, home_number}
use Rattle.addr_cab.specs.Written.{refs_of, placed, placed_at, bytes_len, cab_table, cab_data, IsTyped, IsTypedRef, IsCabText}
use Rattle.addr_unityfs.proofs.WrittenLaws.{size_is}
use Rattle.addr_cab.proofs.FieldLaws.{wide32, wide64, magic_len}
use Rattle.addr_cab.proofs.RowLaws.{names_len}
use Rattle.addr_cab.proofs.WrittenLaws.{outside_names, data_len}

-- ---- the sizes of two nodes, saturated

abbrev pub most : ℕ
most = 2 ^ 64 - 1

abbrev pub two_sizes : ℕ → ℕ → List NodeSize
two_sizes table content = record { path = 36; bytes = table } ∷ record { path = 41; bytes = content } ∷ []

at_least : (player table content : ℕ) → table + content ≤ files.file_size player (two_sizes table content)
unfolding files.file_size
at_least player table content = omega arith

large : (player a b t c : ℕ) → most ≤ a + b → most ≤ t + c → min (files.file_size player (two_sizes a b)) most ≡ min (files.file_size player (two_sizes t c)) most
large player a b t c first second = omega (arith, first, second, at_least player a b, at_least player t c)

small_min : (n : ℕ) → n < most → min n most ≡ n
small_min n lt = omega (arith, lt)

large_min : (n : ℕ) → most ≤ n → min n most ≡ most
large_min n le = omega (arith, le)

pub file_min : (player t c : ℕ) → min (files.file_size player (two_sizes (min t most) (min c most))) most ≡ min (files.file_size player (two_sizes t c)) most
file_min player t c =
    elim (cases_lt t most) [
      | inl lt ↦ elim (cases_lt c most) [
        | inl also ↦ ap₂ (λ a b. min (files.file_size player (two_sizes a b)) most) (small_min t lt) (small_min c also)
        | inr le ↦ large player (min t most) (min c most) t c (omega (arith, large_min c le)) (omega (arith, le))
      ]
      | inr le ↦ large player (min t most) (min c most) t c (omega (arith, large_min t le)) (omega (arith, le))
    ]

-- ---- the sizes of a table and its data

refs_len : (outside : List Digest) (refs : List RefTo) → AllByRecursion IsTypedRef refs → length (flat_map (ref_text outside) refs) ≡ 20 * length refs
refs_len outside [] typed = refl
refs_len outside (r ∷ rs) typed =
    let number = to_le_bytes w32 (home_number outside r.home) in
    omega (arith, length-append (ref_text outside r) (flat_map (ref_text outside) rs), length-append r.guid.0 number, wide32.len (home_number outside r.home), typed.0.0, refs_len outside rs typed.1)

row_len : (outside : List Digest) (at : ℕ) (o : ObjectOut) → IsTyped o → length (row_text outside (placed_at at o)) ≡ row_size (size_of o)
row_len outside at o typed =
    let refs = flat_map (ref_text outside) o.refs in
    let count = to_le_bytes w32 (length o.refs) in
    let size = to_le_bytes w64 (length o.bytes) in
    let offset = to_le_bytes w64 at in
    omega (
      arith,
      length-append o.guid.0 (offset ++ (size ++ (count ++ refs))),
      length-append offset (size ++ (count ++ refs)),
      length-append size (count ++ refs),
      length-append count refs,
      typed.0,
      wide64.len at,
      wide64.len (length o.bytes),
      wide32.len (length o.refs),
      refs_len outside o.refs typed.1,
    )

rows_len : (outside : List Digest) (at : ℕ) (os : List ObjectOut) → AllByRecursion IsTyped os → length (flat_map (row_text outside) (placed at os)) ≡ rows_size (map size_of os)
rows_len outside at [] typed = refl
rows_len outside at (o ∷ os) typed =
    let rest = flat_map (row_text outside) (placed (at + length o.bytes) os) in
    omega (arith, length-append (row_text outside (placed_at at o)) rest, row_len outside at o typed.0, rows_len outside (at + length o.bytes) os typed.1, sum_by-cons row_size (size_of o) (map size_of os))

pub table_len : (objects : List ObjectOut) → AllByRecursion IsTyped objects → length (cab_table objects) ≡ table_size (length (outside_of (refs_of objects))) (map size_of objects)
unfolding cab_table
table_len objects typed =
    let outside = outside_of (refs_of objects) in
    let rows = flat_map (row_text outside) (placed 0 objects) in
    let count = to_le_bytes w32 (length (placed 0 objects)) in
    let names = flat_map (λ (d : Digest). d.0) outside in
    let number = to_le_bytes w32 (length outside) in
    omega (
      arith,
      length-append magic (number ++ (names ++ (count ++ rows))),
      length-append number (names ++ (count ++ rows)),
      length-append names (count ++ rows),
      length-append count rows,
      magic_len,
      wide32.len (length outside),
      wide32.len (length (placed 0 objects)),
      names_len outside (outside_names objects typed),
      rows_len outside 0 objects typed,
    )

bytes_sum : (os : List ObjectOut) → content_size (map size_of os) ≡ sum_by bytes_len os
bytes_sum [] = refl
bytes_sum (o ∷ os) = sum_by-cons (λ (s : ObjectSize). s.bytes) (size_of o) (map size_of os) ∙ (ap (λ n. length o.bytes + n) (bytes_sum os) ∙ sym (sum_by-cons bytes_len o os))

pub content_len : (objects : List ObjectOut) → length (cab_data objects) ≡ content_size (map size_of objects)
content_len objects = sym (bytes_sum objects ∙ data_len objects)

-- ---- the two paths

no_zeros-append : (xs ys : List ℕ) → AllByRecursion (λ b. b ≢ 0) xs → AllByRecursion (λ b. b ≢ 0) ys → AllByRecursion (λ b. b ≢ 0) (xs ++ ys)
no_zeros-append [] ys left right = right
no_zeros-append (x ∷ xs) ys left right = (left.0, no_zeros-append xs ys left.1 right)

digit_above : (d : ℕ) → d < 16 → nat_lt 0 (slice_index lower_digits d) ≡ true
digit_above d small = agree_below_at (λ k. nat_lt 0 (slice_index lower_digits k)) (λ k. true) 16 d refl small

digit_filled : (d : ℕ) → d < 16 → slice_index lower_digits d ≢ 0
digit_filled d small nothing = let above = ltb-true 0 (slice_index lower_digits d) (digit_above d small) in omega arith

no_zeros-hex : (bytes : List ℕ) → IsBytes bytes → AllByRecursion (λ b. b ≢ 0) (hex_of bytes)
unfolding encode_with
no_zeros-hex [] small = tt
no_zeros-hex (b ∷ bytes) small =
    let byte : b < 256 = small 0 in
    (digit_filled (b / 16) (omega arith), (digit_filled (b % 16) (omega arith), no_zeros-hex bytes (λ i. small (suc i))))

table_filled : (name : Digest) → Are16Bytes name.0 → AllByRecursion (λ b. b ≢ 0) (table_path name)
table_filled name sixteen = no_zeros-append (codes "CAB-") (hex_of name.0) ((λ e. cc), ((λ e. cc), ((λ e. cc), ((λ e. cc), tt)))) (no_zeros-hex name.0 sixteen.small)

pub table_text : (name : Digest) → Are16Bytes name.0 → NoZero (table_path name)
table_text name sixteen = All-from_recursion (λ b. b ≢ 0) (table_path name) (table_filled name sixteen)

pub data_text : (name : Digest) → Are16Bytes name.0 → NoZero (data_path name)
data_text name sixteen =
    All-from_recursion (λ b. b ≢ 0) (data_path name) (no_zeros-append (table_path name) (codes ".resS") (table_filled name sixteen) ((λ e. cc), ((λ e. cc), ((λ e. cc), ((λ e. cc), ((λ e. cc), tt))))))

pub paths_differ : (name : Digest) → table_path name ≢ data_path name
paths_differ name same = omega (arith, ap length same, length-append (table_path name) (codes ".resS"))

table_path_len : (name : Digest) → Are16Bytes name.0 → length (table_path name) ≡ 36
table_path_len name sixteen = omega (arith, length-append (codes "CAB-") (hex_of name.0), length-encode_with lower_digits name.0, sixteen.sixteen)

-- ---- the file of two nodes

apart : (name : Digest) (table content : List ℕ) (i j : ℕ) (d : NodeOut) → i < j → j < 2 → (get_or (cab_nodes name table content) i d).path ≢ (get_or (cab_nodes name table content) j d).path
apart name table content i zero d less within = absurd (omega (arith, less))
apart name table content zero (suc zero) d less within = paths_differ name
apart name table content (suc i) (suc zero) d less within = absurd (omega (arith, less))
apart name table content i (suc (suc j)) d less within = absurd (omega (arith, within))

pub nodes_can : (player : List ℕ) (name : Digest) (table content : List ℕ) → NoZero player → Are16Bytes name.0 → files.file_size (length player) (map files.size_of (cab_nodes name table content)) < 2 ^ 31 → written.CanWrite player (cab_nodes name table content)
nodes_can player name table content text sixteen small = record {
  text = text;
  paths = All-from_recursion (λ (n : NodeOut). NoZero n.path) (cab_nodes name table content) (table_text name sixteen, (data_text name sixteen, tt));
  distinct = apart name table content;
  small = omega (arith, small, size_is player (cab_nodes name table content));
}

pub sizes_are : (name : Digest) (objects : List ObjectOut) → Are16Bytes name.0 → AllByRecursion IsTyped objects
    → map files.size_of (cab_nodes name (cab_table objects) (cab_data objects)) ≡ node_sizes (length (outside_of (refs_of objects))) (map size_of objects)
sizes_are name objects sixteen typed =
    let first = table_path_len name sixteen in
    let second : length (data_path name) ≡ 41 = omega (arith, first, length-append (table_path name) (codes ".resS")) in
    ap₂ (λ (p q : ℕ). record { path = p; bytes = length (cab_table objects) } ∷ record { path = q; bytes = length (cab_data objects) } ∷ []) first second
    ∙ ap₂ two_sizes (table_len objects typed) (content_len objects)

-- the two nodes of objects can be written, where their lengths say so
pub objects_can : (player : List ℕ) (name : Digest) (objects : List ObjectOut) (nodes : List NodeOut) (table content : List ℕ) → NoZero player → Are16Bytes name.0
    → IsCabText objects table content → nodes ≡ cab_nodes name table content → files.file_size (length player) (node_sizes (length (outside_of (refs_of objects))) (map size_of objects)) < 2 ^ 31
    → written.CanWrite player nodes
objects_can player name objects nodes table content text sixteen of same small =
    let whole : nodes ≡ cab_nodes name (cab_table objects) (cab_data objects) = same ∙ ap₂ (cab_nodes name) of.table_is of.content_is in
    let sizes : files.file_size (length player) (map files.size_of (cab_nodes name (cab_table objects) (cab_data objects))) < 2 ^ 31 =
    subst (λ (ns : List NodeSize). files.file_size (length player) ns < 2 ^ 31) (sym (sizes_are name objects sixteen of.typed)) small
    in
    subst (written.CanWrite player) (sym whole) (nodes_can player name (cab_table objects) (cab_data objects) text sixteen sizes)
