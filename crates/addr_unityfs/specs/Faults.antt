-- The first fault of a file: its fields are read and tested in order, and the first test that fails gives the answer.
use Rattle.std.specs.Prelude.{◌≡◌, ℕ, zero, suc, ◌+◌, ◌-◌, List, [], ◌∷◌, ◌++◌, length, take, drop, Bool, true, false, Option, Some, None, Result, Ok, Err, nat_lt, not, ◌==◌, ◌||◌, ◌⊎◌, if◌then◌else◌, position}
use Rattle.std.specs.List.{list_any}
use Rattle.std.specs.Int.{Width, w16, w32, w64, byte_len, from_be_bytes, cast_signed}
use Rattle.std.specs.Str.{bytes_eq, is_utf8}
use Rattle.addr_unityfs.specs.declared.bundle.NodePlace.{NodePlace}
use Rattle.addr_unityfs.specs.declared.bundle.Bundle.{Bundle}
use Rattle.addr_unityfs.specs.declared.error.FsErr.{FsErr}
use Rattle.addr_unityfs.specs.declared.error.FsErr.TheVariants.{Short, Signature, Version, NotCombined, Compressed, Size, Blocks, NodeRange, Path, NoMemory}
use Rattle.addr_unityfs.specs.Flags.{kind_of, is_combined, is_at_end, header_gap, data_gap}
use Rattle.addr_unityfs.specs.Spelling.{signature}

-- a value that was read is handed on, and a fault ends the reading
infixl 10 ◌>>=◌
abbrev pub ◌>>=◌ : {A B : Type 0} → Result A FsErr → (A → Result B FsErr) → Result B FsErr
(Ok x) >>= f = f x
(Err e) >>= f = Err e

-- the numbers of a header; its two texts are passed over
pub record Head : Type 0 where
  pub version : ℕ
  pub size : ℕ
  pub stored : ℕ
  pub plain : ℕ
  pub flags : ℕ

-- the place of the blocks info, and the places from which and to which the data and its padding may reach
pub record Sections : Type 0 where
  pub info : ℕ
  pub from : ℕ
  pub to : ℕ

-- where the blocks info ends
abbrev pub info_end : Head → Sections → ℕ
info_end h l = l.info + h.stored

-- what is still to be read, with the place in the file or table where it ends
pub record Tail : Type 0 where
  pub end : ℕ
  pub rest : List ℕ

-- the place in the file or table where what is still to be read begins
abbrev pub place : Tail → ℕ
place c = c.end - length c.rest

abbrev pub whole : List ℕ → Tail
whole file = record { end = length file; rest = file }

-- behind the first n bytes; and the first n bytes alone
abbrev pub past : ℕ → Tail → Tail
past n c = record { end = c.end; rest = drop n c.rest }

abbrev pub upto : ℕ → Tail → Tail
upto n c = record { end = place c + n; rest = take n c.rest }

-- a number of a width, big-endian
unfoldable pub number_at : Width → Tail → Result (ℕ × Tail) FsErr
number_at w c = if nat_lt (length c.rest) (byte_len w) then Err (Short (place c)) else Ok (from_be_bytes w (take (byte_len w) c.rest), past (byte_len w) c)

-- so many bytes, which are passed over
unfoldable pub skip_at : ℕ → Tail → Result Tail FsErr
skip_at n c = if nat_lt (length c.rest) n then Err (Short (place c)) else Ok (past n c)

abbrev pub cut_at_zero : Tail → Option ℕ → Result (List ℕ × Tail) FsErr
cut_at_zero c None = Err (Short (place c))
cut_at_zero c (Some n) = Ok (take n c.rest, past (n + 1) c)

-- a text up to its zero byte
unfoldable pub text_at : Tail → Result (List ℕ × Tail) FsErr
text_at c = cut_at_zero c (position (λ b. b == 0) c.rest)

-- the signature: a file that is too short for it says its length
unfoldable pub signature_at : Tail → Result Tail FsErr
signature_at c =
    if nat_lt (length c.rest) 8 then Err (Short c.end)
    else if bytes_eq (take 8 c.rest) signature then Ok (past 8 c)
    else Err Signature

unfoldable pub version_at : Tail → Result (ℕ × Tail) FsErr
version_at c = do
  v ← number_at w32 c
  if nat_lt v.0 6 || nat_lt 8 v.0 then Err (Version v.0) else Ok v

-- the fields of the header
unfoldable pub head_at : Tail → Result (Head × Tail) FsErr
head_at c = do
  signed ← signature_at c
  version ← version_at signed
  generation ← text_at version.1
  revision ← text_at generation.1
  size ← number_at w64 revision.1
  stored ← number_at w32 size.1
  plain ← number_at w32 stored.1
  flags ← number_at w32 plain.1
  Ok (record { version = version.0; size = size.0; stored = stored.0; plain = plain.0; flags = flags.0 }, flags.1)

-- the numbers of the header that bytes begin with, and the place where it ends
unfoldable pub header_read : List ℕ → Result (Head × ℕ) FsErr
header_read bytes = do
  head ← head_at (whole bytes)
  Ok (head.0, place head.1)

-- the tests on the header of a file of so many bytes
unfoldable pub header_fault : ℕ → Head → Option FsErr
header_fault len h =
    if not (h.size == len) then Some (Size (cast_signed w64 h.size) len)
    else if not (is_combined h.flags) then Some NotCombined
    else if not (kind_of h.flags == 0) then Some (Compressed (kind_of h.flags))
    else if not (h.stored == h.plain) then Some (Blocks h.stored h.plain)
    else None

abbrev pub unless : {A : Type 0} → Option FsErr → A → Result A FsErr
unless None x = Ok x
unless (Some e) x = Err e

-- the two sections behind the padded header in a file of so many bytes, by the place of the blocks info
abbrev pub laid : Bool → ℕ → ℕ → ℕ → Sections
laid true len stored at = record { info = len - stored; from = at; to = len - stored }
laid false len stored at = record { info = at; from = at + stored; to = len }

-- the sections of a file of so many bytes, whose header ends at a place
unfoldable pub sections_at : ℕ → Head → ℕ → Result Sections FsErr
sections_at len h at =
    let gap = header_gap h.version at in
    if nat_lt (len - at) (gap + h.stored) then Err (Short len)
    else Ok (laid (is_at_end h.flags) len h.stored (at + gap))

-- the tests on the header, and the sections
unfoldable pub sections_read : ℕ → Head → ℕ → Result Sections FsErr
sections_read len h at = do
  tested ← unless (header_fault len h) at
  sections_at len h tested

-- the header with its tests, and the sections: all that is read of a file before anything is kept of it
unfoldable pub front_read : List ℕ → Result Sections FsErr
front_read file = do
  head ← header_read file
  sections_read (length file) head.0 head.1

-- the bytes of a file from a place on, so many of them
abbrev pub part : ℕ → ℕ → List ℕ → Tail
part at n file = record { end = at + n; rest = take n (drop at file) }

unfoldable pub block_fault : ℕ → ℕ → ℕ → Option FsErr
block_fault plain stored flags =
    if not (kind_of flags == 0) then Some (Compressed (kind_of flags))
    else if not (stored == plain) then Some (Blocks stored plain)
    else None

-- a block is tested as soon as it is read; what counts of it is its size
unfoldable pub block_at : Tail → Result (ℕ × Tail) FsErr
block_at c = do
  plain ← number_at w32 c
  stored ← number_at w32 plain.1
  flags ← number_at w16 stored.1
  unless (block_fault plain.0 stored.0 flags.0) (plain.0, flags.1)

-- the sum of the sizes of n blocks and of those before
unfoldable pub blocks_at : ℕ → ℕ → Tail → Result (ℕ × Tail) FsErr
blocks_at zero sum c = Ok (sum, c)
blocks_at (suc n) sum c = do
  first ← block_at c
  blocks_at n (sum + first.0) first.1

-- whether a path isn't UTF-8, or repeats that of a node before
abbrev pub has_path : List ℕ → NodePlace → Bool
has_path path n = bytes_eq n.path path

unfoldable pub is_bad_path : List NodePlace → List ℕ → Bool
is_bad_path before path = not (is_utf8 path) || list_any (has_path path) before

-- a node is tested as soon as it is read, against the nodes before
unfoldable pub node_at : List NodePlace → Tail → Result (NodePlace × Tail) FsErr
node_at before c = do
  offset ← number_at w64 c
  size ← number_at w64 offset.1
  flags ← number_at w32 size.1
  path ← text_at flags.1
  if is_bad_path before path.0 then Err (Path (length before)) else Ok (record { path = path.0; flags = flags.0; offset = offset.0; size = size.0 }, path.1)

-- n nodes, behind those before; bytes after the last one are passed over
unfoldable pub nodes_at : ℕ → List NodePlace → Tail → Result (List NodePlace) FsErr
nodes_at zero before c = Ok before
nodes_at (suc n) before c = do
  first ← node_at before c
  nodes_at n (before ++ first.0 ∷ []) first.1

-- the blocks info: the sum of the blocks' sizes, and the nodes
unfoldable pub info_at : Tail → Result (ℕ × List NodePlace) FsErr
info_at c = do
  skipped ← skip_at 16 c
  blocks ← number_at w32 skipped
  sum ← blocks_at blocks.0 0 blocks.1
  nodes ← number_at w32 sum.1
  places ← nodes_at nodes.0 [] nodes.1
  Ok (sum.0, places)

-- where so many bytes of data begin, behind their padding, in a file of len bytes
unfoldable pub data_at : ℕ → ℕ → ℕ → Sections → Result ℕ FsErr
data_at len flags sum l =
    let gap = data_gap flags l.from in
    if nat_lt (l.to - l.from) gap then Err (Short len)
    else if nat_lt (l.to - l.from - gap) sum then Err (Blocks sum (l.to - l.from - gap))
    else Ok (l.from + gap)

-- whether a node passes the end of so many bytes of data; a negative number is read as one from 2^63 on, and does
abbrev pub is_outside : ℕ → NodePlace → Bool
is_outside room n = nat_lt room (n.offset + n.size)

abbrev pub range_fault_at : Option ℕ → Option FsErr
range_fault_at None = None
range_fault_at (Some i) = Some (NodeRange i)

-- the first node that lies outside
unfoldable pub range_fault : ℕ → List NodePlace → Option FsErr
range_fault room nodes = range_fault_at (position (is_outside room) nodes)

-- what follows the header: the blocks info, the data and the ranges, in a file of len bytes of which the blocks info is in
unfoldable pub behind_read : ℕ → Head → Sections → List ℕ → Result Bundle FsErr
behind_read len h l file = do
  info ← info_at (part l.info h.stored file)
  start ← data_at len h.flags info.0 l
  unless (range_fault info.0 info.1) (record { version = h.version; start = start; nodes = info.1 })

-- what a file is read as: its bundle, or its first fault
unfoldable pub bundle_read : List ℕ → Result Bundle FsErr
bundle_read file = do
  head ← header_read file
  sections ← sections_read (length file) head.0 head.1
  behind_read (length file) head.0 sections file

-- the answer of a call is what reading gives, unless memory was refused
abbrev pub Answers : {A : Type 0} → Result A FsErr → Result A FsErr → Type 0
Answers result read = (result ≡ Err NoMemory) ⊎ (result ≡ read)

-- the number by which programs print a fault; want of memory has none
abbrev pub fault_number : FsErr → Option ℕ
fault_number (Short at) = Some 1
fault_number Signature = Some 2
fault_number (Version v) = Some 3
fault_number NotCombined = Some 4
fault_number (Compressed kind) = Some 5
fault_number (Size said found) = Some 6
fault_number (Blocks said found) = Some 7
fault_number (NodeRange node) = Some 8
fault_number (Path node) = Some 9
fault_number NoMemory = None
