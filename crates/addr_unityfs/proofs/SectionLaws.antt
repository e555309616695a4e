-- The blocks info, whole, at one of its two places; and the data behind its padding.
use Rattle.std.proofs.Common.{◌≡◌, ℕ, ◌+◌, ◌-◌, ◌^◌, ◌<◌, ◌≤◌, Bool, true, false, cond, ltb, List, [], ◌++◌, length, take, drop, sum_by, Ok, Err, refl, sym, ap, subst, ◌∙◌, append_assoc, arith, length-append, length-take, length-drop, zero-add}
use Rattle.std.specs.List.{flat_map, AllByRecursion}
use Rattle.std.specs.Int.{w32, to_be_bytes}
use Rattle.std.proofs.lemmas.Bool.{ltb-false, le-ltb}
use Rattle.std.proofs.lemmas.List.{take-append-drop, take_at, drop_at, take_all, take_rest, drop-drop}
use Rattle.addr_unityfs.specs.declared.bundle.NodePlace.{NodePlace}
use Rattle.addr_unityfs.specs.declared.error.FsErr.{FsErr}
use Rattle.addr_unityfs.specs.declared.error.FsErr.TheVariants.{Short, Blocks}
use Rattle.addr_unityfs.specs.Flags.{is_at_end, header_gap, data_gap}
use Rattle.addr_unityfs.specs.Spelling.{Block, block, node}
use Rattle.addr_unityfs.specs.Format.{IsBlock}
use Rattle.addr_unityfs.specs.Faults.{Head, Sections, Tail, number_at, skip_at, laid, sections_at, blocks_at, nodes_at, info_at, data_at}
use Rattle.addr_unityfs.proofs.FieldLaws.{IsBytes, bind_ok, guard_ok, ok_is, Takes-then, wide32, number_takes, number_again, skip_takes, skip_again}
use Rattle.addr_unityfs.proofs.RowLaws.{size_of, blocks_take, blocks_again, AreRows, nodes_take, nodes_again}

-- ---- the two sections

-- the bytes of a file in which the data and its padding lie
abbrev pub between : Sections → List ℕ → List ℕ
between l file = take (l.to - l.from) (drop l.from file)

-- the bytes of a file in which the blocks info lies
abbrev pub info_bytes : ℕ → Sections → List ℕ → List ℕ
info_bytes stored l file = take stored (drop l.info file)

-- what stands behind the padded header is cut at the blocks info
pub record Cut (at_end : Bool) (stored from : ℕ) (file : List ℕ) (l : Sections) : Type 0 where
  pub bytes : drop from file ≡ cond at_end (between l file ++ info_bytes stored l file) (info_bytes stored l file ++ between l file)
  pub info_len : length (info_bytes stored l file) ≡ stored
  pub held_len : length (between l file) ≡ l.to - l.from
  pub start : l.from ≡ from + cond at_end 0 stored

pub cut_takes : (at_end : Bool) (stored from : ℕ) (file : List ℕ) → from + stored ≤ length file → Cut at_end stored from file (laid at_end (length file) stored from)
cut_takes true stored from file long =
    let len = length file in
    let n = len - stored - from in
    let place : from + n ≡ len - stored = omega (arith, long) in
    let info : drop n (drop from file) ≡ take stored (drop (len - stored) file) =
    drop-drop n from file ∙ (ap (λ i. drop i file) place ∙ (sym (take_rest file (len - stored)) ∙ ap (λ i. take i (drop (len - stored) file)) (omega (arith, long))))
    in
    record {
      bytes = sym (take-append-drop n (drop from file)) ∙ ap (λ (t : List ℕ). take n (drop from file) ++ t) info;
      info_len = omega (arith, length-take stored (drop (len - stored) file), length-drop (len - stored) file, long);
      held_len = omega (arith, length-take n (drop from file), length-drop from file, long);
      start = omega arith;
    }
cut_takes false stored from file long =
    let len = length file in
    let held : drop stored (drop from file) ≡ take (len - (from + stored)) (drop (from + stored) file) = drop-drop stored from file ∙ sym (take_rest file (from + stored)) in
    record {
      bytes = sym (take-append-drop stored (drop from file)) ∙ ap (λ (t : List ℕ). take stored (drop from file) ++ t) held;
      info_len = omega (arith, length-take stored (drop from file), length-drop from file, long);
      held_len = omega (arith, length-take (len - (from + stored)) (drop (from + stored) file), length-drop (from + stored) file, long);
      start = refl;
    }

pub record IsLaid (len : ℕ) (h : Head) (at : ℕ) (l : Sections) : Type 0 where
  pub long : header_gap h.version at + h.stored ≤ len - at
  pub is_laid : laid (is_at_end h.flags) len h.stored (at + header_gap h.version at) ≡ l

pub sections_takes : (len : ℕ) (h : Head) (at : ℕ) (l : Sections) → sections_at len h at ≡ Ok l → IsLaid len h at l
unfolding sections_at
sections_takes len h at l e =
    let gap = header_gap h.version at in
    let passed = guard_ok (ltb (len - at) (gap + h.stored)) (Short len) (laid (is_at_end h.flags) len h.stored (at + gap)) l e in
    record { long = ltb-false _ _ passed.0; is_laid = passed.1 }

pub sections_again : (len : ℕ) (h : Head) (at pad : ℕ) → pad ≡ header_gap h.version at → pad + h.stored ≤ len - at → sections_at len h at ≡ Ok (laid (is_at_end h.flags) len h.stored (at + pad))
unfolding sections_at
sections_again len h at pad padded long =
    rw (le-ltb (len - at) (header_gap h.version at + h.stored) (omega (arith, padded, long))) (ap (λ n. Ok (laid (is_at_end h.flags) len h.stored (at + n))) (sym padded))

-- what stands at the two places of a file that is a front and both sections
pub record Again (at_end : Bool) (front held rows file : List ℕ) (l : Sections) : Type 0 where
  pub info : info_bytes (length rows) l file ≡ rows
  pub start : l.from ≡ length front + cond at_end 0 (length rows)
  pub room : l.to - l.from ≡ length held

pub cut_again : (at_end : Bool) (front held rows file : List ℕ) → file ≡ front ++ cond at_end (held ++ rows) (rows ++ held) → Again at_end front held rows file (laid at_end (length file) (length rows) (length front))
cut_again true front held rows file same =
    let split : file ≡ (front ++ held) ++ rows = same ∙ sym (append_assoc front held rows) in
    let len : length file ≡ length (front ++ held) + length rows = ap length split ∙ length-append (front ++ held) rows in
    let held_len = length-append front held in
    let place : length (front ++ held) ≡ length file - length rows = omega (arith, len) in
    record {
      info = ap (λ t. take (length rows) (drop (length file - length rows) t)) split ∙ (ap (take (length rows)) (drop_at (front ++ held) rows (length file - length rows) place) ∙ take_all (length rows) rows (omega arith));
      start = omega arith;
      room = omega (arith, len, held_len);
    }
cut_again false front held rows file same =
    let len : length file ≡ length front + (length rows + length held) = ap length same ∙ (length-append front (rows ++ held) ∙ ap (λ n. length front + n) (length-append rows held)) in
    record {
      info = ap (λ t. take (length rows) (drop (length front) t)) same ∙ (ap (take (length rows)) (drop_at front (rows ++ held) (length front) refl) ∙ take_at rows held (length rows) refl);
      start = refl;
      room = omega (arith, len);
    }

-- ---- the blocks info

pub record InfoTaken (c : Tail) (x : ℕ × List NodePlace) : Type 0 where
  pub hash : List ℕ
  pub blocks : List Block
  pub spare : List ℕ
  pub bytes : c.rest ≡ hash ++ (to_be_bytes w32 (length blocks) ++ (flat_map block blocks ++ (to_be_bytes w32 (length x.1) ++ (flat_map node x.1 ++ spare))))
  pub hash_len : length hash ≡ 16
  pub are_blocks : AllByRecursion IsBlock blocks
  pub sum : x.0 ≡ sum_by size_of blocks
  pub rows : AreRows [] x.1

regroup : (a b c d e x : List ℕ) → (a ++ (b ++ (c ++ (d ++ e)))) ++ x ≡ a ++ (b ++ (c ++ (d ++ (e ++ x))))
regroup a b c d e x = simp append_assoc

pub info_takes : (c : Tail) (x : ℕ × List NodePlace) → IsBytes c.rest → info_at c ≡ Ok x → InfoTaken c x
unfolding info_at
info_takes c x fits e =
    let hash = bind_ok (skip_at 16 c) _ x e in
    let t0 = skip_takes 16 c hash.0 fits hash.1 in
    let blocks = bind_ok (number_at w32 hash.0) _ x hash.2 in
    let t1 = number_takes w32 (2 ^ 32) wide32 hash.0 blocks.0 t0.0.fits blocks.1 in
    let sum = bind_ok (blocks_at blocks.0.0 0 blocks.0.1) _ x blocks.2 in
    let t2 = blocks_take blocks.0.0 0 blocks.0.1 sum.0 t1.0.fits sum.1 in
    let count = bind_ok (number_at w32 sum.0.1) _ x sum.2 in
    let t3 = number_takes w32 (2 ^ 32) wide32 sum.0.1 count.0 t2.1.fits count.1 in
    let places = bind_ok (nodes_at count.0.0 [] count.0.1) _ x count.2 in
    let t4 = nodes_take count.0.0 [] count.0.1 places.0 t3.0.fits places.1 in
    let back = Takes-then sum.0.1 _ count.0.1 _ t4.2 t3.0 t4.3 in
    let all = Takes-then c _ hash.0 _ t4.2 t0.0 (Takes-then hash.0 _ blocks.0.1 _ t4.2 t1.0 (Takes-then blocks.0.1 _ sum.0.1 _ t4.2 t2.1 back)) in
    let made : ℕ × List NodePlace = (sum.0.0, t4.0) in
    let same : made ≡ x = ap (λ ns. (sum.0.0, ns)) (sym t4.1) ∙ ok_is (sum.0.0, places.0) x places.2 in
    let counted : c.rest ≡ take 16 c.rest ++ (to_be_bytes w32 (length t2.0) ++ (flat_map block t2.0 ++ (to_be_bytes w32 (length t4.0) ++ (flat_map node t4.0 ++ t4.2.rest)))) =
    rw (t2.2, t4.4) (all.parts ∙ regroup (take 16 c.rest) (to_be_bytes w32 blocks.0.0) (flat_map block t2.0) (to_be_bytes w32 count.0.0) (flat_map node t4.0) t4.2.rest)
    in
    subst (λ (y : ℕ × List NodePlace). InfoTaken c y) same (record {
      hash = take 16 c.rest;
      blocks = t2.0;
      spare = t4.2.rest;
      bytes = counted;
      hash_len = t0.1;
      are_blocks = t2.3;
      sum = omega (arith, t2.4);
      rows = t4.5;
    })

pub info_again : (hash : List ℕ) (blocks : List Block) (nodes : List NodePlace) (spare : List ℕ) (end : ℕ) → length hash ≡ 16 → length blocks < 2 ^ 32 → length nodes < 2 ^ 32 → AllByRecursion IsBlock blocks → AreRows [] nodes
    → info_at (record { end = end; rest = hash ++ (to_be_bytes w32 (length blocks) ++ (flat_map block blocks ++ (to_be_bytes w32 (length nodes) ++ (flat_map node nodes ++ spare)))) }) ≡ Ok (sum_by size_of blocks, nodes)
unfolding info_at
info_again hash blocks nodes spare end hash_len few_blocks few_nodes are_blocks rows =
    let x4 = flat_map node nodes ++ spare in
    let x3 = to_be_bytes w32 (length nodes) ++ x4 in
    let x2 = flat_map block blocks ++ x3 in
    let x1 = to_be_bytes w32 (length blocks) ++ x2 in
    rw (skip_again 16 end hash x1 hash_len, number_again w32 (2 ^ 32) wide32 (length blocks) end x2 few_blocks, blocks_again blocks 0 end x3 are_blocks, number_again w32 (2 ^ 32) wide32 (length nodes) end x4 few_nodes, nodes_again [] nodes end spare rows, zero-add (sum_by size_of blocks)) refl

-- ---- the data

pub record DataTaken (flags sum : ℕ) (l : Sections) (held : List ℕ) (start : ℕ) : Type 0 where
  pub gap : List ℕ
  pub bytes : List ℕ
  pub rest : List ℕ
  pub parts : held ≡ gap ++ (bytes ++ rest)
  pub gap_len : length gap ≡ data_gap flags l.from
  pub bytes_len : length bytes ≡ sum
  pub is_start : start ≡ l.from + length gap

data_tests : {A : Type 0} (short few : Bool) (d e : FsErr) (x y : A) → cond short (Err d) (cond few (Err e) (Ok x)) ≡ Ok y → (short ≡ false) × (few ≡ false) × (x ≡ y)
data_tests true few d e x y given = absurd cc
data_tests false true d e x y given = absurd cc
data_tests false false d e x y given = (refl, refl, cc)

pub data_takes : (len flags sum : ℕ) (l : Sections) (held : List ℕ) (start : ℕ) → length held ≡ l.to - l.from → data_at len flags sum l ≡ Ok start → DataTaken flags sum l held start
unfolding data_at
data_takes len flags sum l held start held_len e =
    let gap = data_gap flags l.from in
    let found = l.to - l.from in
    let passed = data_tests (ltb found gap) (ltb (found - gap) sum) (Short len) (Blocks sum (found - gap)) (l.from + gap) start e in
    let room : gap ≤ found = ltb-false _ _ passed.0 in
    let enough : sum ≤ found - gap = ltb-false _ _ passed.1 in
    let behind = drop gap held in
    record {
      gap = take gap held;
      bytes = take sum behind;
      rest = drop sum behind;
      parts = sym (take-append-drop gap held) ∙ ap (λ t. take gap held ++ t) (sym (take-append-drop sum behind));
      gap_len = omega (arith, length-take gap held, room, held_len);
      bytes_len = omega (arith, length-take sum behind, length-drop gap held, enough, held_len);
      is_start = sym passed.2 ∙ ap (λ n. l.from + n) (omega (arith, length-take gap held, room, held_len));
    }

pub data_again : (len flags : ℕ) (l : Sections) (gap bytes rest : List ℕ) → l.to - l.from ≡ length gap + (length bytes + length rest) → length gap ≡ data_gap flags l.from → data_at len flags (length bytes) l ≡ Ok (l.from + length gap)
unfolding data_at
data_again len flags l gap bytes rest all gap_len =
    let room : ltb (l.to - l.from) (data_gap flags l.from) ≡ false = le-ltb _ _ (omega (arith, all, gap_len)) in
    let enough : ltb (l.to - l.from - data_gap flags l.from) (length bytes) ≡ false = le-ltb _ _ (omega (arith, all, gap_len)) in
    rw (room, enough) (ap (λ n. Ok (l.from + n)) (sym gap_len))
