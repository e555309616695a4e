-- A bundle file is read as its bundle.
use Rattle.std.proofs.Common.{◌≡◌, ℕ, ◌+◌, ◌^◌, ◌<◌, ◌≤◌, Bool, true, false, cond, List, [], ◌∷◌, ◌++◌, length, sum_by, None, Ok, refl, sym, ap, subst, ◌∙◌, append_assoc, arith, length-append}
use Rattle.std.specs.List.{flat_map}
use Rattle.std.specs.Int.{w32, to_be_bytes}
use Rattle.addr_unityfs.specs.declared.bundle.NodePlace.{NodePlace}
use Rattle.addr_unityfs.specs.Flags.{is_at_end, data_gap}
use Rattle.addr_unityfs.specs.Spelling.{Block, Parts, block, node, info, header, contents, body}
use Rattle.addr_unityfs.specs.Format.{contents_start, IsFile, bundle_of}
use Rattle.addr_unityfs.specs.Faults.{Head, Sections, Tail, place, whole, part, head_at, header_read, header_fault, laid, sections_at, sections_read, info_at, data_at, range_fault, behind_read, bundle_read}
use Rattle.addr_unityfs.proofs.RowLaws.{size_of, AreRows, distinct_rows}
use Rattle.addr_unityfs.proofs.HeadLaws.{head_again, sound_again}
use Rattle.addr_unityfs.proofs.SectionLaws.{sections_again, Again, cut_again, info_again, data_again}
use Rattle.addr_unityfs.proofs.Ranges.{within_again, rows_from}

-- each row takes bytes, so that rows that stand in few bytes are few
few_blocks : (bs : List Block) → length bs ≤ length (flat_map block bs)
few_blocks [] = omega arith
few_blocks (b ∷ bs) = omega (arith, few_blocks bs, length-append (block b) (flat_map block bs))

few_nodes : (ns : List NodePlace) → length ns ≤ length (flat_map node ns)
few_nodes [] = omega arith
few_nodes (n ∷ ns) = omega (arith, few_nodes ns, length-append (node n) (flat_map node ns))

pub body_length : (at_end : Bool) (held rows : List ℕ) → length (cond at_end (held ++ rows) (rows ++ held)) ≡ length held + length rows
body_length true held rows = length-append held rows
body_length false held rows = omega (arith, length-append rows held)

-- the counts of rows are at most the length of the blocks info
info_counts : (p : Parts) → (length p.blocks ≤ length (info p)) × (length p.nodes ≤ length (info p))
info_counts p =
    let nodes_part = flat_map node p.nodes ++ p.spare in
    let count_part = to_be_bytes w32 (length p.nodes) ++ nodes_part in
    let blocks_part = flat_map block p.blocks ++ count_part in
    let l0 = length-append p.hash (to_be_bytes w32 (length p.blocks) ++ blocks_part) in
    let l1 = length-append (to_be_bytes w32 (length p.blocks)) blocks_part in
    let l2 = length-append (flat_map block p.blocks) count_part in
    let l3 = length-append (to_be_bytes w32 (length p.nodes)) nodes_part in
    let l4 = length-append (flat_map node p.nodes) p.spare in
    (omega (arith, few_blocks p.blocks, l0, l1, l2), omega (arith, few_nodes p.nodes, l0, l1, l2, l3, l4))

header_again : (file : List ℕ) (h : Head) (after : Tail) (at : ℕ) → head_at (whole file) ≡ Ok (h, after) → place after ≡ at → header_read file ≡ Ok (h, at)
unfolding header_read
header_again file h after at read is_at = rw read (ap (λ n. Ok (h, n)) is_at)

places_again : (len : ℕ) (h : Head) (at : ℕ) (l : Sections) → header_fault len h ≡ None → sections_at len h at ≡ Ok l → sections_read len h at ≡ Ok l
unfolding sections_read
places_again len h at l sound laid_out = rw (sound, laid_out) refl

pub is_read : (file : List ℕ) (p : Parts) → length file < 2 ^ 63 → IsFile file p → bundle_read file ≡ Ok (bundle_of (length file) p)
unfolding bundle_read behind_read
is_read file p small f =
    let end = length file in
    let h : Head = record { version = p.version; size = end; stored = length (info p); plain = length (info p); flags = p.flags } in
    let front = header end p in
    let behind = body p in
    let body_len : length behind ≡ length (contents p) + length (info p) = body_length (is_at_end p.flags) (contents p) (info p) in
    let len : end ≡ length front + (length p.padding + (length (contents p) + length (info p))) =
    ap length f.bytes ∙ (length-append front (p.padding ++ behind) ∙ ap (λ n. length front + n) (length-append p.padding behind ∙ ap (λ n. length p.padding + n) body_len))
    in
    let after : Tail = record { end = end; rest = p.padding ++ behind } in
    let read_head : head_at (whole file) ≡ Ok (h, after) =
    ap (λ x. head_at (record { end = end; rest = x })) f.bytes
    ∙ head_again h p.generation p.revision end (p.padding ++ behind) f.version.0 f.version.1 f.texts.0 f.texts.1 (omega (arith, small)) f.info_fits f.info_fits f.flags_fit
    in
    let read_header : header_read file ≡ Ok (h, length front) = header_again file h after (length front) read_head (omega (arith, len, body_len, length-append p.padding behind)) in
    let no_fault : header_fault end h ≡ None = sound_again end h (record { size = refl; combined = f.combined; kind = f.kind; same = refl }) in
    let l : Sections = laid (is_at_end p.flags) end (length (info p)) (length front + length p.padding) in
    let read_places : sections_read end h (length front) ≡ Ok l = places_again end h (length front) l no_fault (sections_again end h (length front) (length p.padding) f.padding (omega (arith, len))) in
    let both : length (front ++ p.padding) ≡ length front + length p.padding = length-append front p.padding in
    let split : file ≡ (front ++ p.padding) ++ body p = f.bytes ∙ sym (append_assoc front p.padding (body p)) in
    let cut : Again (is_at_end p.flags) (front ++ p.padding) (contents p) (info p) file l =
    subst (λ n. Again (is_at_end p.flags) (front ++ p.padding) (contents p) (info p) file (laid (is_at_end p.flags) end (length (info p)) n)) both
    (cut_again (is_at_end p.flags) (front ++ p.padding) (contents p) (info p) file split)
    in
    let payload_len : length (contents p) ≡ length p.gap + (length p.payload + length p.rest) = length-append p.gap (p.payload ++ p.rest) ∙ ap (λ n. length p.gap + n) (length-append p.payload p.rest) in
    let rows : AreRows [] p.nodes = distinct_rows [] p.nodes f.paths (rows_from (length p.payload) p.nodes (omega (arith, small, len, payload_len)) f.nodes) in
    let counts = info_counts p in
    let read_info : info_at (part l.info (length (info p)) file) ≡ Ok (sum_by size_of p.blocks, p.nodes) =
    ap (λ x. info_at (record { end = l.info + length (info p); rest = x })) cut.info
    ∙ info_again p.hash p.blocks p.nodes p.spare (l.info + length (info p)) f.hash (omega (arith, counts.0, f.info_fits)) (omega (arith, counts.1, f.info_fits)) f.blocks rows
    in
    let start : l.from ≡ contents_start end p = cut.start ∙ ap (λ n. n + cond (is_at_end p.flags) 0 (length (info p))) both in
    let read_data : data_at end p.flags (sum_by size_of p.blocks) l ≡ Ok (contents_start end p + length p.gap) =
    ap (λ n. data_at end p.flags n l) (sym f.size)
    ∙ (data_again end p.flags l p.gap p.payload p.rest (cut.room ∙ payload_len) (f.gap ∙ ap (data_gap p.flags) (sym start)) ∙ ap (λ n. Ok (n + length p.gap)) start)
    in
    let no_range : range_fault (sum_by size_of p.blocks) p.nodes ≡ None = subst (λ n. range_fault n p.nodes ≡ None) f.size (within_again (length p.payload) p.nodes (record { path = []; flags = 0; offset = 0; size = 0 }) f.nodes) in
    rw (read_header, read_places, read_info, read_data, no_range) refl
