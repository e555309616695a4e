-- What is read as a bundle is that bundle.
use Rattle.std.proofs.Common.{◌≡◌, ℕ, ◌+◌, ◌-◌, ◌≤◌, cond, List, [], ◌++◌, length, take, drop, None, Ok, refl, sym, ap, ap₂, subst, ◌∙◌, arith, length-append, length-take, length-drop}
use Rattle.std.specs.List.{AllByRecursion}
use Rattle.std.specs.Int.{w32, w64, to_be_bytes}
use Rattle.std.proofs.lemmas.List.{take-append-drop, drop_at, drop-drop}
use Rattle.addr_unityfs.specs.declared.bundle.NodePlace.{NodePlace}
use Rattle.addr_unityfs.specs.declared.bundle.Bundle.{Bundle}
use Rattle.addr_unityfs.specs.Flags.{is_at_end, header_gap, data_gap}
use Rattle.addr_unityfs.specs.Spelling.{Parts, signature, ended, info, header, body}
use Rattle.addr_unityfs.specs.Format.{IsNode, contents_start, IsFile, IsBundle}
use Rattle.addr_unityfs.specs.Faults.{Head, Sections, Tail, place, whole, part, unless, head_at, header_read, header_fault, sections_at, sections_read, info_at, data_at, range_fault, behind_read, bundle_read}
use Rattle.addr_unityfs.proofs.FieldLaws.{IsBytes, IsBytes-drop, IsBytes-take, bind_ok, unless_ok, ok_is}
use Rattle.addr_unityfs.proofs.RowLaws.{rows_fit, rows_distinct}
use Rattle.addr_unityfs.proofs.HeadLaws.{head_bytes, HeadTaken, head_takes, IsSound, header_sound}
use Rattle.addr_unityfs.proofs.SectionLaws.{between, info_bytes, Cut, cut_takes, IsLaid, sections_takes, InfoTaken, info_takes, DataTaken, data_takes}
use Rattle.addr_unityfs.proofs.Ranges.{nodes_within}

abbrev numbers : ℕ → List ℕ → List ℕ → ℕ → ℕ → ℕ → ℕ → List ℕ
numbers version generation revision size stored plain flags = signature ++ (to_be_bytes w32 version ++ (ended generation ++ (ended revision ++ (to_be_bytes w64 size ++ (to_be_bytes w32 stored ++ (to_be_bytes w32 plain ++ to_be_bytes w32 flags))))))

-- the parts of a file that was read
abbrev parts_of : {file : List ℕ} {h : Head} {after c : Tail} {l : Sections} {x : ℕ × List NodePlace} {start : ℕ} → HeadTaken (whole file) (h, after) → InfoTaken c x → DataTaken h.flags x.0 l (between l file) start → Parts
parts_of {file} {h} {after} {c} {l} {x} {start} head blocks data_part = record {
  version = h.version;
  generation = head.generation;
  revision = head.revision;
  flags = h.flags;
  padding = take (header_gap h.version (place after)) after.rest;
  hash = blocks.hash;
  blocks = blocks.blocks;
  nodes = x.1;
  spare = blocks.spare;
  gap = data_part.gap;
  payload = data_part.bytes;
  rest = data_part.rest;
}

-- where a header that was taken ends, and what follows it
record Ends (file front : List ℕ) (after : Tail) : Type 0 where
  at : place after ≡ length front
  rest : after.rest ≡ drop (place after) file
  inside : place after ≤ length file

ends_of : (file : List ℕ) (h : Head) (after : Tail) (head : HeadTaken (whole file) (h, after)) → Ends file (head_bytes h head.generation head.revision) after
ends_of file h after head =
    let front = head_bytes h head.generation head.revision in
    let split : length file ≡ length front + length after.rest = ap length head.takes.parts ∙ length-append front after.rest in
    let at : place after ≡ length front = omega (arith, split, head.takes.end) in
    record {
      at = at;
      rest = sym (ap (drop (place after)) head.takes.parts ∙ drop_at front after.rest (place after) (sym at));
      inside = omega (arith, split, at);
    }

is_parts : (file : List ℕ) (h : Head) (after : Tail) (l : Sections) (x : ℕ × List NodePlace) (start : ℕ)
    → (head : HeadTaken (whole file) (h, after)) → IsSound (length file) h → Cut (is_at_end h.flags) h.stored (place after + header_gap h.version (place after)) file l → header_gap h.version (place after) ≤ length after.rest
    → (blocks : InfoTaken (part l.info h.stored file) x) → (data_part : DataTaken h.flags x.0 l (between l file) start) → range_fault x.0 x.1 ≡ None
    → IsBundle file (record { version = h.version; start = start; nodes = x.1 })
is_parts file h after l x start head sound cut long blocks data_part ranges =
    let p : Parts = parts_of head blocks data_part in
    let pad = header_gap h.version (place after) in
    let ends = ends_of file h after head in
    let info_is : info p ≡ info_bytes h.stored l file = sym blocks.bytes in
    let info_len : length (info p) ≡ h.stored = ap length info_is ∙ cut.info_len in
    let header_is : header (length file) p ≡ head_bytes h head.generation head.revision =
    ap (λ n. numbers h.version head.generation head.revision n (length (info p)) (length (info p)) h.flags) (sym sound.size)
    ∙ (ap (λ n. numbers h.version head.generation head.revision h.size n n h.flags) info_len
    ∙ ap (λ n. numbers h.version head.generation head.revision h.size h.stored n h.flags) sound.same)
    in
    let header_end : place after ≡ length (header (length file) p) = ends.at ∙ sym (ap length header_is) in
    let padding_len : length p.padding ≡ pad = omega (arith, length-take pad after.rest, long) in
    let rest_is : drop pad after.rest ≡ drop (place after + pad) file = ap (drop pad) ends.rest ∙ drop-drop pad (place after) file in
    let body_is : drop pad after.rest ≡ body p = rest_is ∙ (cut.bytes ∙ ap₂ (λ (held : List ℕ) (rows : List ℕ). cond (is_at_end h.flags) (held ++ rows) (rows ++ held)) data_part.parts (sym info_is)) in
    let bytes : file ≡ header (length file) p ++ (p.padding ++ body p) =
    head.takes.parts ∙ (ap (λ t. t ++ after.rest) (sym header_is) ∙ ap (λ t. header (length file) p ++ t) (sym (take-append-drop pad after.rest) ∙ ap (λ t. p.padding ++ t) body_is))
    in
    let data_start : l.from ≡ contents_start (length file) p =
    cut.start ∙ ap₂ (λ m n. m + cond (is_at_end h.flags) 0 n) (omega (arith, header_end, padding_len)) (sym info_len)
    in
    let is_file : IsFile file p = record {
      bytes = bytes;
      version = (head.low, head.high);
      texts = (head.first_text, head.second_text);
      flags_fit = head.flags_fit;
      combined = sound.combined;
      kind = sound.kind;
      padding = padding_len ∙ ap (header_gap h.version) header_end;
      info_fits = omega (arith, info_len, head.stored_fits);
      hash = blocks.hash_len;
      blocks = blocks.are_blocks;
      nodes = subst (λ n. AllByRecursion (IsNode n) x.1) (sym data_part.bytes_len) (nodes_within x.0 x.1 (rows_fit [] x.1 blocks.rows) ranges);
      paths = rows_distinct [] x.1 blocks.rows;
      gap = data_part.gap_len ∙ ap (data_gap h.flags) data_start;
      size = data_part.bytes_len ∙ blocks.sum;
    } in
    (p, is_file, ap (λ n. record { version = h.version; start = n; nodes = x.1 }) (data_part.is_start ∙ ap (λ n. n + length p.gap) data_start))

-- what follows a header that was read without a fault
found_behind : (file : List ℕ) (h : Head) (after : Tail) (l : Sections) (b : Bundle) → IsBytes file → HeadTaken (whole file) (h, after) → IsSound (length file) h → IsLaid (length file) h (place after) l → behind_read (length file) h l file ≡ Ok b → IsBundle file b
unfolding behind_read
found_behind file h after l b fits head sound at e =
    let ends = ends_of file h after head in
    let pad = header_gap h.version (place after) in
    let room : length after.rest ≡ length file - place after = ap length ends.rest ∙ length-drop (place after) file in
    let cut : Cut (is_at_end h.flags) h.stored (place after + pad) file l =
    subst (Cut (is_at_end h.flags) h.stored (place after + pad) file) at.is_laid (cut_takes (is_at_end h.flags) h.stored (place after + pad) file (omega (arith, at.long, ends.inside)))
    in
    let blocks = bind_ok (info_at (part l.info h.stored file)) _ b e in
    let start = bind_ok (data_at (length file) h.flags blocks.0.0 l) _ b blocks.2 in
    let made : Bundle = record { version = h.version; start = start.0; nodes = blocks.0.1 } in
    let last = unless_ok (range_fault blocks.0.0 blocks.0.1) made b start.2 in
    subst (λ (y : Bundle). IsBundle file y) last.1
    (is_parts file h after l blocks.0 start.0 head sound cut (omega (arith, room, at.long))
    (info_takes (part l.info h.stored file) blocks.0 (IsBytes-take h.stored (drop l.info file) (IsBytes-drop l.info file fits)) blocks.1)
    (data_takes (length file) h.flags blocks.0.0 l (between l file) start.0 cut.held_len start.1) last.0)

-- the header of a file, and what follows it
record Opened (file : List ℕ) (x : Head × ℕ) : Type 0 where
  after : Tail
  is_head : head_at (whole file) ≡ Ok (x.0, after)
  at : place after ≡ x.1

opened : (file : List ℕ) (x : Head × ℕ) → header_read file ≡ Ok x → Opened file x
unfolding header_read
opened file x e =
    let head = bind_ok (head_at (whole file)) _ x e in
    subst (Opened file) (ok_is (head.0.0, place head.0.1) x head.2) (record { after = head.0.1; is_head = head.1; at = refl })

pub is_found : (file : List ℕ) (b : Bundle) → IsBytes file → bundle_read file ≡ Ok b → IsBundle file b
unfolding bundle_read sections_read
is_found file b fits e =
    let head = bind_ok (header_read file) _ b e in
    let behind = opened file head.0 head.1 in
    let places = bind_ok (sections_read (length file) head.0.0 head.0.1) _ b head.2 in
    let tested = bind_ok (unless (header_fault (length file) head.0.0) head.0.1) _ places.0 places.1 in
    let passed = unless_ok (header_fault (length file) head.0.0) head.0.1 tested.0 tested.1 in
    let taken : HeadTaken (whole file) (head.0.0, behind.after) = head_takes (whole file) (head.0.0, behind.after) fits behind.is_head in
    let at : IsLaid (length file) head.0.0 (place behind.after) places.0 =
    sections_takes (length file) head.0.0 (place behind.after) places.0 (ap (sections_at (length file) head.0.0) (behind.at ∙ passed.1) ∙ tested.2)
    in
    found_behind file head.0.0 behind.after places.0 b fits taken (header_sound (length file) head.0.0 passed.0) at places.2
