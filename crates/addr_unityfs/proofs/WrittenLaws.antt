-- What is written is the one file of its parts, and reads back as its nodes.
use Rattle.std.proofs.Common.{◌≡◌, ◌≢◌, ℕ, zero, suc, ◌+◌, ◌/◌, ◌%◌, ◌<◌, ◌≤◌, true, false, cond, eqb, List, [], ◌∷◌, ◌++◌, length, get_or, take, drop, map, All, AllPairs, sum_by, refl, sym, ap, ap₂, ◌∙◌, append_assoc, arith, length-append, codes, replicate, zero-add}
use Rattle.std.specs.List.{AllByRecursion}
use Rattle.std.proofs.lemmas.Bool.{eqb-true}
use Rattle.std.proofs.lemmas.List.{length-replicate, append-nil, take_at, drop_at, drop-drop}
use Rattle.std.proofs.lemmas.List.Elements.{All-from_recursion}
use Rattle.std.proofs.lemmas.List.Folds.{sum_by-replicate}
use Rattle.std.proofs.lemmas.List.Sums.{sum_by-cons, sum_by-append}
use Rattle.addr_unityfs.specs.declared.bundle.NodeOut.{NodeOut}
use Rattle.addr_unityfs.specs.declared.bundle.NodePlace.{NodePlace}
use Rattle.addr_unityfs.specs.declared.bundle.NodeSize.{NodeSize}
use Rattle.addr_unityfs.specs.Sizes.{size_of, data_size, file_size}
use Rattle.addr_unityfs.specs.declared.bundle.Bundle.{Bundle}
use Rattle.addr_unityfs.specs.Flags.{to_sixteen, header_gap, data_gap}
use Rattle.addr_unityfs.specs.Spelling.{Block, Parts, info, header_of, header, body, file_of}
use Rattle.addr_unityfs.specs.Format.{NoZero, IsBlock, IsNode, IsFile, bundle_of}
use Rattle.addr_unityfs.specs.Written.{placed, plain_block, blocks_of, data_of, unpadded, written_parts, written_len, written, CanWrite, IsTyped, node_read, ReadsBack}
use Rattle.addr_unityfs.specs.within.Lengths.{row_len, bytes_len}
use Rattle.addr_unityfs.proofs.Regroup.{after_four}
use Rattle.addr_unityfs.proofs.AgainLaws.{is_read}
use Rattle.addr_unityfs.proofs.WrittenLengths.{lengths}
use Rattle.addr_unityfs.proofs.WrittenRows.{length-placed}

-- ---- the file

pub few_nodes : (ns : List NodeOut) → length ns ≤ sum_by row_len ns
few_nodes [] = omega arith
few_nodes (n ∷ ns) = omega (arith, few_nodes ns, sum_by-cons row_len n ns)

pub is_written : (player : List ℕ) (nodes : List NodeOut) (start n1 n2 n3 n4 : List ℕ) (file info_len pad : ℕ) → start ≡ [] → file ≡ written_len player nodes → info_len ≡ length (info (written_parts player nodes)) → pad ≡ length (written_parts player nodes).padding
    → n1 ≡ start ++ header_of 7 (codes "5.x.x") player file info_len 64 → n2 ≡ n1 ++ replicate pad 0 → n3 ≡ n2 ++ info (unpadded [] nodes) → n4 ≡ n3 ++ data_of nodes → n4 ≡ written player nodes
unfolding written
is_written player nodes start n1 n2 n3 n4 file info_len pad nothing file_is info_is pad_is e1 e2 e3 e4 =
    let p : Parts = written_parts player nodes in
    let zeros : replicate pad 0 ≡ p.padding = ap (λ n. replicate n 0) (pad_is ∙ length-replicate {A = ℕ} (to_sixteen (length (header 0 (unpadded player nodes)))) 0) in
    let head : start ++ header_of 7 (codes "5.x.x") player file info_len 64 ≡ header (written_len player nodes) p = rw (nothing, file_is, info_is) refl in
    let first : n1 ≡ [] ++ header (written_len player nodes) p = e1 ∙ head in
    let second : n2 ≡ n1 ++ p.padding = e2 ∙ ap (λ x. n1 ++ x) zeros in
    let last : n4 ≡ n3 ++ (data_of nodes ++ []) = e4 ∙ ap (λ x. n3 ++ x) (sym (append-nil (data_of nodes))) in
    after_four [] n1 n2 n3 n4 (header (written_len player nodes) p) p.padding (info p) (data_of nodes ++ []) first second e3 last

-- ---- its parts

last_size : (size : ℕ) → sum_by (λ b. b.plain) (cond (eqb size 0) [] (plain_block size ∷ [])) ≡ size
last_size size = elim (eqb size 0) as (λ t. eqb size 0 ≡ t → sum_by (λ b. b.plain) (cond t [] (plain_block size ∷ [])) ≡ size) [
  | true ↦ λ is_zero. sym (eqb-true _ _ is_zero)
  | false ↦ λ is_more. zero-add size
] refl

block_sizes : (size : ℕ) → sum_by (λ b. b.plain) (blocks_of size) ≡ size
block_sizes size =
    let full = replicate (size / 131072) (plain_block 131072) in
    let all = sum_by-append (λ (b : Block). b.plain) full (cond (eqb (size % 131072) 0) [] (plain_block (size % 131072) ∷ [])) in
    let front = sum_by-replicate (λ (b : Block). b.plain) (size / 131072) (plain_block 131072) in
    omega (arith, all, front, last_size (size % 131072))

last_block : (size : ℕ) → size < 131072 → AllByRecursion IsBlock (cond (eqb size 0) [] (plain_block size ∷ []))
last_block size small = elim (eqb size 0) as (λ t. AllByRecursion IsBlock (cond t [] (plain_block size ∷ []))) [
  | true ↦ tt
  | false ↦ (record { size = refl; kind = refl; plain_fits = omega (arith, small); flags_fit = omega arith }, tt)
]

all_append : {X : Type 0} (P : X → Type 0) (xs ys : List X) → AllByRecursion P xs → AllByRecursion P ys → AllByRecursion P (xs ++ ys)
all_append P [] ys front back = back
all_append P (x ∷ xs) ys front back = (front.0, all_append P xs ys front.1 back)

all_replicate : {X : Type 0} (P : X → Type 0) (n : ℕ) (x : X) → P x → AllByRecursion P (replicate n x)
all_replicate P zero x one = tt
all_replicate P (suc n) x one = (one, all_replicate P n x one)

are_blocks : (size : ℕ) → AllByRecursion IsBlock (blocks_of size)
are_blocks size =
    all_append IsBlock (replicate (size / 131072) (plain_block 131072)) (cond (eqb (size % 131072) 0) [] (plain_block (size % 131072) ∷ []))
    (all_replicate IsBlock (size / 131072) (plain_block 131072) (record { size = refl; kind = refl; plain_fits = omega arith; flags_fit = omega arith }))
    (last_block (size % 131072) (omega arith))

no_zeros : (n : NodeOut) (ns : List NodeOut) → All (λ m. NoZero m.path) (n ∷ ns) → NoZero n.path × All (λ m. NoZero m.path) ns
no_zeros n ns all = (all 0 n (omega arith), λ k d lt. all (suc k) d (omega (arith, lt)))

are_nodes : (at room : ℕ) (ns : List NodeOut) → at + sum_by bytes_len ns ≤ room → All (λ n. NoZero n.path) ns → AllByRecursion IsTyped ns → AllByRecursion (IsNode room) (placed at ns)
are_nodes at room [] small none typed = tt
are_nodes at room (n ∷ ns) small none typed =
    let cut = no_zeros n ns none in
    let all = sum_by-cons bytes_len n ns in
    (record { within = omega (arith, small, all); text = typed.0.0; no_zero = cut.0; flags_fit = typed.0.1 }, are_nodes (at + length n.bytes) room ns (omega (arith, small, all)) cut.1 typed.1)

path_at : (at : ℕ) (ns : List NodeOut) (k : ℕ) (d : NodePlace) (e : NodeOut) → k < length ns → (get_or (placed at ns) k d).path ≡ (get_or ns k e).path
path_at at [] k d e lt = absurd (omega (arith, lt))
path_at at (n ∷ ns) zero d e lt = refl
path_at at (n ∷ ns) (suc k) d e lt = path_at (at + length n.bytes) ns k d e (omega (arith, lt))

distinct_paths : (ns : List NodeOut) → AllPairs (λ a b. a.path ≢ b.path) ns → AllPairs (λ a b. a.path ≢ b.path) (placed 0 ns)
distinct_paths ns apart i j d less within same =
    let e : NodeOut = record { path = []; flags = 0; bytes = [] } in
    let late : j < length ns = omega (arith, within, length-placed 0 ns) in
    apart i j e less late (sym (path_at 0 ns i d e (omega (arith, less, late))) ∙ (same ∙ path_at 0 ns j d e late))

no_zero_text : NoZero (codes "5.x.x")
no_zero_text = All-from_recursion (λ b. b ≢ 0) (codes "5.x.x") ((λ e. cc), ((λ e. cc), ((λ e. cc), ((λ e. cc), ((λ e. cc), tt)))))

pub same_len : (player : List ℕ) (nodes : List NodeOut) → length (written player nodes) ≡ written_len player nodes
unfolding written written_len
same_len player nodes =
    let p : Parts = written_parts player nodes in
    let l = lengths player nodes in
    length-append (header (written_len player nodes) p) (p.padding ++ body p)
    ∙ (ap (λ n. n + length (p.padding ++ body p)) (l.header_is (written_len player nodes) ∙ sym (l.header_is 0)) ∙ sym (length-append (header 0 p) (p.padding ++ body p)))

pub is_file : (player : List ℕ) (nodes : List NodeOut) → CanWrite player nodes → AllByRecursion IsTyped nodes → IsFile (written player nodes) (written_parts player nodes)
unfolding written header_gap data_gap
is_file player nodes can typed =
    let p : Parts = written_parts player nodes in
    let l = lengths player nodes in
    record {
      bytes = ap (λ n. file_of n p) (sym (same_len player nodes));
      version = (omega arith, omega arith);
      texts = (no_zero_text, can.text);
      flags_fit = omega arith;
      combined = refl;
      kind = refl;
      padding = l.padding_is ∙ ap to_sixteen (sym (l.header_is (length (written player nodes))));
      info_fits = omega (arith, l.info_is, l.file_is, can.small);
      hash = refl;
      blocks = are_blocks (length (data_of nodes));
      nodes = are_nodes 0 (length (data_of nodes)) nodes (omega (arith, l.payload_is)) can.paths typed;
      paths = distinct_paths nodes can.distinct;
      gap = refl;
      size = sym (block_sizes (length (data_of nodes)));
    }

-- ---- its nodes

nodes_read : (file : List ℕ) (b : Bundle) (at : ℕ) (ns : List NodeOut) (rest : List ℕ) → drop (b.start + at) file ≡ data_of ns ++ rest → map (node_read file b) (placed at ns) ≡ ns
nodes_read file b at [] rest here = refl
nodes_read file b at (n ∷ ns) rest here =
    let split : drop (b.start + at) file ≡ n.bytes ++ (data_of ns ++ rest) = here ∙ append_assoc n.bytes (data_of ns) rest in
    let bytes : take (length n.bytes) (drop (b.start + at) file) ≡ n.bytes = ap (take (length n.bytes)) split ∙ take_at n.bytes (data_of ns ++ rest) (length n.bytes) refl in
    let place : b.start + (at + length n.bytes) ≡ (b.start + at) + length n.bytes = omega arith in
    let behind : drop (b.start + (at + length n.bytes)) file ≡ data_of ns ++ rest =
    ap (λ k. drop k file) place ∙ (sym (drop-drop (length n.bytes) (b.start + at) file) ∙ (ap (drop (length n.bytes)) split ∙ drop_at n.bytes (data_of ns ++ rest) (length n.bytes) refl))
    in
    ap₂ (λ (m : List ℕ) (ms : List NodeOut). record { path = n.path; flags = n.flags; bytes = m } ∷ ms) bytes (nodes_read file b (at + length n.bytes) ns rest behind)

pub reads_back : (player : List ℕ) (nodes : List NodeOut) → CanWrite player nodes → AllByRecursion IsTyped nodes → ReadsBack (written player nodes) nodes
unfolding written
reads_back player nodes can typed =
    let p : Parts = written_parts player nodes in
    let file = written player nodes in
    let f = is_file player nodes can typed in
    let b : Bundle = bundle_of (length file) p in
    let head = header (length file) p in
    let front = head ++ (p.padding ++ info p) in
    let front_len : length front ≡ b.start + 0 = length-append head (p.padding ++ info p) ∙ omega (arith, length-append p.padding (info p)) in
    let whole_file : file ≡ front ++ (data_of nodes ++ []) = f.bytes ∙ sym (append_assoc head (p.padding ++ info p) (data_of nodes ++ []) ∙ ap (λ x. head ++ x) (append_assoc p.padding (info p) (data_of nodes ++ []))) in
    let there : drop (b.start + 0) file ≡ data_of nodes ++ [] = ap (drop (b.start + 0)) whole_file ∙ drop_at front (data_of nodes ++ []) (b.start + 0) front_len in
    (b, is_read file p (omega (arith, same_len player nodes, can.small)) f, nodes_read file b 0 nodes [] there)

-- ---- its size, by lengths alone

sizes_sum : (f : NodeSize → ℕ) (nodes : List NodeOut) → sum_by f (map size_of nodes) ≡ sum_by (λ n. f (size_of n)) nodes
sizes_sum f [] = refl
sizes_sum f (n ∷ ns) = sum_by-cons f (size_of n) (map size_of ns) ∙ (ap (λ k. f (size_of n) + k) (sizes_sum f ns) ∙ sym (sum_by-cons (λ m. f (size_of m)) n ns))

pub size_is : (player : List ℕ) (nodes : List NodeOut) → written_len player nodes ≡ file_size (length player) (map size_of nodes)
unfolding file_size
size_is player nodes =
    let l = lengths player nodes in
    let bytes : data_size (map size_of nodes) ≡ length (data_of nodes) = sizes_sum (λ n. n.bytes) nodes ∙ sym l.payload_is in
    let rows : sum_by (λ n. 21 + n.path) (map size_of nodes) ≡ sum_by row_len nodes = sizes_sum (λ n. 21 + n.path) nodes in
    let count : length (blocks_of (data_size (map size_of nodes))) ≡ length (blocks_of (length (data_of nodes))) = ap (λ n. length (blocks_of n)) bytes in
    l.file_is ∙ omega (arith, bytes, rows, count, l.payload_is)

pub written_size : (player : List ℕ) (nodes : List NodeOut) → length (written player nodes) ≡ file_size (length player) (map size_of nodes)
written_size player nodes = same_len player nodes ∙ size_is player nodes
