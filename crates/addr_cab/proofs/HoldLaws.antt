-- A bundle file that is read holds the objects that are answered, and one that holds objects is read as them.
use Rattle.std.proofs.Common.{◌≡◌, ℕ, zero, suc, ◌+◌, ◌-◌, ◌^◌, ◌<◌, ◌≤◌, List, [], ◌∷◌, length, take, drop, map, sum_by, Result, Ok, Err, IfOk, refl, sym, ap, ap₂, subst, ◌∙◌, arith, length-take, length-drop, inl, inr}
use Rattle.std.specs.List.{AllByRecursion}
use Rattle.std.proofs.lemmas.List.{drop-drop, drop-take}
use Rattle.std.proofs.lemmas.List.Sums.{sum_by-cons}
use Rattle.addr_base.specs.Ids.{Are16Bytes, hex_of}
use Rattle.addr_base.specs.declared.ids.Digest.{Digest}
use Rattle.addr_base.proofs.HexLemmas.{spelled_decodes, decoded_same}
use Rattle.addr_unityfs.specs.declared.bundle.NodeOut.{NodeOut}
use Rattle.addr_unityfs.specs.declared.bundle.NodePlace.{NodePlace}
use Rattle.addr_unityfs.specs.declared.bundle.Bundle.{Bundle}
use Rattle.addr_unityfs.specs.Format.{IsBundle, node_bytes}
use Rattle.addr_unityfs.specs.Written as files
use Rattle.addr_cab.specs.declared.error.CabErr.{CabErr}
use Rattle.addr_cab.specs.declared.object.ObjectOut.{ObjectOut}
use Rattle.addr_cab.specs.declared.object.ObjectRow.{ObjectRow}
use Rattle.addr_cab.specs.Faults.{table_read}
use Rattle.addr_cab.specs.Format.{AreNodes, Placed, IsTable}
use Rattle.addr_cab.specs.Lookup.{Held, IsReadAs, HoldsTable, HasFault, CabRead}
use Rattle.addr_cab.specs.Objects.{IsCab, objects_of, AnswersCab, AnswersFault, HoldsCab, cab_nodes}
use Rattle.addr_cab.specs.Spelling.{table_path, data_path}
use Rattle.addr_cab.specs.Written.{placed, cab_data, IsCabText, object_in}
use Rattle.addr_cab.proofs.CabLaws.{nodes_fit}
use Rattle.addr_cab.proofs.ObjectLaws.{is_text}
use Rattle.addr_cab.proofs.RowLaws.{size_of}
use Rattle.addr_cab.proofs.TableLaws.{table_again}
use Rattle.addr_cab.proofs.WrittenLaws.{is_written, all_read}

-- ---- slices of the file and of its data

within : (at room : ℕ) (rows : List ObjectRow) → Placed at rows → at + sum_by size_of rows ≤ room → AllByRecursion (λ o. o.offset + o.size ≤ room) rows
within at room [] placed fits = tt
within at room (o ∷ os) placed fits = let total = sum_by-cons size_of o os in (omega (arith, placed.0, fits, total), within (at + o.size) room os placed.1 (omega (arith, fits, total)))

take_less : (n m : ℕ) (xs : List ℕ) → n ≤ m → take n (take m xs) ≡ take n xs
take_less zero m xs le = refl
take_less (suc n) zero xs le = absurd (omega (arith, le))
take_less (suc n) (suc m) [] le = refl
take_less (suc n) (suc m) (x ∷ xs) le = ap (λ (t : List ℕ). x ∷ t) (take_less n m xs (omega (arith, le)))

same_slice : (file : List ℕ) (start room offset size : ℕ) → offset + size ≤ room → take size (drop offset (take room (drop start file))) ≡ take size (drop (start + offset) file)
same_slice file start room offset size fits =
    let rest = room - offset in
    let whole : room ≡ offset + rest = omega (arith, fits) in
    ap (λ n. take size (drop offset (take n (drop start file)))) whole
    ∙ (ap (take size) (drop-take offset rest (drop start file) ∙ ap (take rest) (drop-drop offset start file)) ∙ take_less size rest (drop (start + offset) file) (omega (arith, fits)))

same_objects : (file : List ℕ) (start room : ℕ) (rows : List ObjectRow) → AllByRecursion (λ o. o.offset + o.size ≤ room) rows
    → map (object_in (take room (drop start file))) rows ≡ map (λ o. let r : ObjectOut = record { guid = o.guid; bytes = take o.size (drop (start + o.offset) file); refs = o.refs } in r) rows
same_objects file start room [] fits = refl
same_objects file start room (o ∷ os) fits =
    ap₂ (λ (b : List ℕ) (more : List ObjectOut). let r : ObjectOut = record { guid = o.guid; bytes = b; refs = o.refs } in r ∷ more) (same_slice file start room o.offset o.size fits.0) (same_objects file start room os fits.1)

-- ---- the two nodes

pair_same : {X : Type 0} (a b c d : X) → a ∷ b ∷ [] ≡ c ∷ d ∷ [] → (a ≡ c) × (b ≡ d)
pair_same a b c d e = (cc, cc)

hex_same : (a b : List ℕ) → Are16Bytes a → Are16Bytes b → hex_of a ≡ hex_of b → a ≡ b
hex_same a b is_a is_b e = decoded_same (hex_of a) a b (spelled_decodes (hex_of a) a is_a refl) is_b e

path_same : (a b : Digest) → Are16Bytes a.0 → Are16Bytes b.0 → table_path a ≡ table_path b → a ≡ b
path_same a b is_a is_b e = ap (λ (bytes : List ℕ). let d : Digest = record { 0 = bytes } in d) (hex_same a.0 b.0 is_a is_b (ap (drop 4) e))

-- a bundle has its two nodes, and their name, in one way
record SameNodes (name other : Digest) (table content t c : NodePlace) : Type 0 where
  name_is : name ≡ other
  table_is : table ≡ t
  content_is : content ≡ c

same_nodes : (b : Bundle) (name other : Digest) (table content t c : NodePlace) → AreNodes b name table content → AreNodes b other t c → SameNodes name other table content t c
same_nodes b name other table content t c m n =
    let same = pair_same table content t c (sym m.nodes ∙ n.nodes) in
    record { name_is = path_same name other m.sixteen n.sixteen (sym m.table_is ∙ (ap (λ (p : NodePlace). p.path) same.0 ∙ n.table_is)); table_is = same.0; content_is = same.1 }

-- ---- reading

content_len : (file : List ℕ) (b : Bundle) (name : Digest) (table content : NodePlace) → IsBundle file b → AreNodes b name table content → length (node_bytes file b content) ≡ content.size
content_len file b name table content held n =
    let fit = nodes_fit file b name table content held n in
    omega (arith, fit.1, length-take content.size (drop (b.start + content.offset) file), length-drop (b.start + content.offset) file)

found : (file : List ℕ) (b : Bundle) (c : Held) → IsBundle file b → IsReadAs file b c → HoldsTable file b c → IsCab file b c.name (objects_of c)
found file b c held r h =
    let table = node_bytes file b r.table in
    let content = node_bytes file b r.content in
    let s = same_nodes b c.name c.name h.table h.content r.table r.content h.nodes r.nodes in
    let t : IsTable r.content.size table c.rows = rw (← s.table_is, ← s.content_is) h.table_is in
    let same : map (object_in content) c.rows ≡ objects_of c =
    same_objects file (b.start + r.content.offset) r.content.size c.rows (within 0 r.content.size c.rows t.placed (omega (arith, t.all)))
    ∙ rw (r.file_is, r.start_is) refl
    in
    record { table = r.table; content = r.content; nodes = r.nodes; text = subst (λ os. IsCabText os table content) same (is_text r.content.size table content c.rows t (content_len file b c.name r.table r.content held r.nodes)) }

pub all_found : (file : List ℕ) (b : Bundle) (r : Result Held CabErr) → IsBundle file b → CabRead file b r → IfOk r (HoldsTable file b) → IfOk r (λ c. IsCab file b c.name (objects_of c))
all_found file b (Ok c) held read table = found file b c held read table
all_found file b (Err e) held read table = tt

-- the table of a bundle that holds objects is read as their rows
record AreRead (file : List ℕ) (b : Bundle) (objects : List ObjectOut) (table content : NodePlace) : Type 0 where
  rows : List ObjectRow
  table_is : IsTable content.size (node_bytes file b table) rows
  rows_are : table_read content.size (node_bytes file b table) ≡ Ok rows
  objects_are : map (object_in (node_bytes file b content)) rows ≡ objects

are_read : (file : List ℕ) (b : Bundle) (name : Digest) (objects : List ObjectOut) → length file < 2 ^ 63 → IsBundle file b → (k : IsCab file b name objects) → AreRead file b objects k.table k.content
are_read file b name objects small held k =
    let len = content_len file b name k.table k.content held k.nodes in
    let fit = nodes_fit file b name k.table k.content held k.nodes in
    let room : length (cab_data objects) ≡ k.content.size = sym (ap length k.text.content_is) ∙ len in
    let written = is_written objects k.text.can k.text.typed (omega (arith, room, fit.1, small)) in
    let table : IsTable k.content.size (node_bytes file b k.table) (placed 0 objects) = subst (λ n. IsTable n (node_bytes file b k.table) (placed 0 objects)) room (subst (λ t. IsTable (length (cab_data objects)) t (placed 0 objects)) (sym k.text.table_is) written) in
    record {
      rows = placed 0 objects;
      table_is = table;
      rows_are = table_again k.content.size (node_bytes file b k.table) (placed 0 objects) table;
      objects_are = ap (λ bytes. map (object_in bytes) (placed 0 objects)) k.text.content_is ∙ all_read objects;
    }

ok_same : (a b : List ObjectRow) (r : Result (List ObjectRow) CabErr) → r ≡ Ok a → r ≡ Ok b → a ≡ b
ok_same a b r p q = cc

err_never : (a : List ObjectRow) (e : CabErr) (r : Result (List ObjectRow) CabErr) → r ≡ Ok a → r ≡ Err e → ⊥
err_never a e r p q = cc

pub no_fault : (file : List ℕ) (b : Bundle) (e : CabErr) (name : Digest) (objects : List ObjectOut) → length file < 2 ^ 63 → IsBundle file b → HasFault file b e → IsCab file b name objects → ⊥
no_fault file b e name objects small held fault k =
    let a = are_read file b name objects small held k in
    let s = same_nodes b fault.name name fault.table fault.content k.table k.content fault.nodes k.nodes in
    let failed : table_read k.content.size (node_bytes file b k.table) ≡ Err e = rw (← s.table_is, ← s.content_is) fault.fault_is in
    err_never a.rows e (table_read k.content.size (node_bytes file b k.table)) a.rows_are failed

pub only : (file : List ℕ) (b : Bundle) (r : Result Held CabErr) (name : Digest) (objects : List ObjectOut) → length file < 2 ^ 63 → IsBundle file b → CabRead file b r → IsCab file b name objects → AnswersCab r name objects
only file b (Ok c) name objects small held read k =
    let a = are_read file b name objects small held k in
    let s = same_nodes b c.name name read.table read.content k.table k.content read.nodes k.nodes in
    let rows : table_read k.content.size (node_bytes file b k.table) ≡ Ok c.rows = rw (← s.table_is, ← s.content_is) read.rows_are in
    let same : a.rows ≡ c.rows = ok_same a.rows c.rows (table_read k.content.size (node_bytes file b k.table)) a.rows_are rows in
    let table : IsTable k.content.size (node_bytes file b k.table) c.rows = subst (IsTable k.content.size (node_bytes file b k.table)) same a.table_is in
    let objects_same : map (object_in (node_bytes file b k.content)) c.rows ≡ objects_of c =
    same_objects file (b.start + k.content.offset) k.content.size c.rows (within 0 k.content.size c.rows table.placed (omega (arith, table.all)))
    ∙ rw (read.file_is, read.start_is, s.content_is) refl
    in
    (s.name_is, sym objects_same ∙ (ap (map (object_in (node_bytes file b k.content))) (sym same) ∙ a.objects_are))
only file b (Err e) name objects small held (inl memory) k = memory
only file b (Err e) name objects small held (inr (inl (nodes, none))) k = absurd (none name k.table k.content k.nodes)
only file b (Err e) name objects small held (inr (inr fault)) k = absurd (no_fault file b e name objects small held fault k)

pub one_cab : (file : List ℕ) (b : Bundle) (name other : Digest) (objects others : List ObjectOut) → length file < 2 ^ 63 → IsBundle file b → IsCab file b name objects → IsCab file b other others → (name ≡ other) × (objects ≡ others)
one_cab file b name other objects others small held k l =
    let a = are_read file b name objects small held k in
    let z = are_read file b other others small held l in
    let s = same_nodes b name other k.table k.content l.table l.content k.nodes l.nodes in
    let rows : table_read l.content.size (node_bytes file b l.table) ≡ Ok a.rows = rw (← s.table_is, ← s.content_is) a.rows_are in
    let same : a.rows ≡ z.rows = ok_same a.rows z.rows (table_read l.content.size (node_bytes file b l.table)) rows z.rows_are in
    (s.name_is, sym a.objects_are ∙ (ap₂ (λ (n : NodePlace) (rs : List ObjectRow). map (object_in (node_bytes file b n)) rs) s.content_is same ∙ z.objects_are))

same_fault : (e f : CabErr) (r : Result (List ObjectRow) CabErr) → r ≡ Err e → r ≡ Err f → f ≡ e
same_fault e f r p q = cc

pub first_fault : (file : List ℕ) (b : Bundle) (r : Result Held CabErr) (e : CabErr) → CabRead file b r → HasFault file b e → AnswersFault r e
first_fault file b (Ok c) e read fault =
    let s = same_nodes b c.name fault.name read.table read.content fault.table fault.content read.nodes fault.nodes in
    let rows : table_read fault.content.size (node_bytes file b fault.table) ≡ Ok c.rows = rw (← s.table_is, ← s.content_is) read.rows_are in
    err_never c.rows e (table_read fault.content.size (node_bytes file b fault.table)) rows fault.fault_is
first_fault file b (Err f) e (inl memory) fault = inl memory
first_fault file b (Err f) e (inr (inl (nodes, none))) fault = absurd (none fault.name fault.table fault.content fault.nodes)
first_fault file b (Err f) e (inr (inr other)) fault =
    let s = same_nodes b other.name fault.name other.table other.content fault.table fault.content other.nodes fault.nodes in
    let failed : table_read fault.content.size (node_bytes file b fault.table) ≡ Err f = rw (← s.table_is, ← s.content_is) other.fault_is in
    inr (same_fault e f (table_read fault.content.size (node_bytes file b fault.table)) fault.fault_is failed)

-- ---- written as a bundle

pair_of_map : {X Y : Type 0} (f : X → Y) (xs : List X) (a b : Y) → map f xs ≡ a ∷ b ∷ [] → (x : X) × (y : X) × (xs ≡ x ∷ y ∷ []) × (f x ≡ a) × (f y ≡ b)
pair_of_map f [] a b e = absurd cc
pair_of_map f (x ∷ []) a b e = absurd cc
pair_of_map f (x ∷ y ∷ []) a b e = let same = pair_same (f x) (f y) a b e in (x, y, refl, same.0, same.1)
pair_of_map f (x ∷ y ∷ z ∷ more) a b e = absurd cc

pub written_holds : (file : List ℕ) (name : Digest) (objects : List ObjectOut) (table content : List ℕ) → Are16Bytes name.0 → IsCabText objects table content → files.ReadsBack file (cab_nodes name table content) → HoldsCab file name objects
written_holds file name objects table content sixteen text (b, read, nodes) =
    let two = pair_of_map (files.node_read file b) b.nodes (record { path = table_path name; flags = 4; bytes = table }) (record { path = data_path name; flags = 0; bytes = content }) nodes in
    let table_is : table ≡ node_bytes file b two.0 = ap (λ (n : NodeOut). n.bytes) (sym two.3) in
    let content_is : content ≡ node_bytes file b two.1 = ap (λ (n : NodeOut). n.bytes) (sym two.4) in (
      b,
      read,
      record {
        table = two.0;
        content = two.1;
        nodes = record { nodes = two.2; sixteen = sixteen; table_is = ap (λ (n : NodeOut). n.path) two.3; content_is = ap (λ (n : NodeOut). n.path) two.4 };
        text = subst (λ c. IsCabText objects (node_bytes file b two.0) c) content_is (subst (λ t. IsCabText objects t content) table_is text);
      },
    )
