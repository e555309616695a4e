-- No fault of a file is want of memory.
use Rattle.std.proofs.Common.{◌≡◌, ℕ, ℤ, zero, suc, ◌+◌, Bool, true, false, cond, List, [], ◌∷◌, ◌++◌, length, Option, Some, None, Result, Ok, Err, ap}
use Rattle.std.specs.Int.{Width, w16, w32, w64}
use Rattle.addr_unityfs.specs.declared.bundle.NodePlace.{NodePlace}
use Rattle.addr_unityfs.specs.declared.error.FsErr.{FsErr}
use Rattle.addr_unityfs.specs.declared.error.FsErr.TheVariants.{Short, Signature, Version, NotCombined, Compressed, Size, Blocks, NodeRange, Path, NoMemory}
use Rattle.addr_unityfs.specs.Faults.{Head, Sections, ◌>>=◌, Tail, whole, part, number_at, skip_at, cut_at_zero, text_at, signature_at, version_at, head_at, header_read, header_fault, unless, sections_at, sections_read, block_fault, block_at, blocks_at, node_at, nodes_at, info_at, data_at, range_fault, range_fault_at, behind_read, bundle_read}

abbrev IsNamed : {A : Type 0} → Result A FsErr → Type 0
IsNamed r = r ≡ Err NoMemory → ⊥

abbrev IsNamedFault : Option FsErr → Type 0
IsNamedFault o = o ≡ Some NoMemory → ⊥

-- ---- no fault that a test names is want of memory

not_short : (at : ℕ) → Short at ≡ NoMemory → ⊥
not_short at same = absurd cc

not_signature : Signature ≡ NoMemory → ⊥
not_signature same = absurd cc

not_version : (v : ℕ) → Version v ≡ NoMemory → ⊥
not_version v same = absurd cc

not_combined : NotCombined ≡ NoMemory → ⊥
not_combined same = absurd cc

not_compressed : (kind : ℕ) → Compressed kind ≡ NoMemory → ⊥
not_compressed kind same = absurd cc

not_size : (said : ℤ) (len : ℕ) → Size said len ≡ NoMemory → ⊥
not_size said len same = absurd cc

not_blocks : (said len : ℕ) → Blocks said len ≡ NoMemory → ⊥
not_blocks said len same = absurd cc

not_range : (n : ℕ) → NodeRange n ≡ NoMemory → ⊥
not_range n same = absurd cc

not_path : (n : ℕ) → Path n ≡ NoMemory → ⊥
not_path n same = absurd cc

ok_named : {A : Type 0} (x : A) → IsNamed (Ok x)
ok_named x same = absurd cc

err_named : {A : Type 0} (e : FsErr) → (e ≡ NoMemory → ⊥) → IsNamed {A = A} (Err e)
err_named e named same = let memory : e ≡ NoMemory = cc in named memory

none_named : IsNamedFault None
none_named same = absurd cc

some_named : (e : FsErr) → (e ≡ NoMemory → ⊥) → IsNamedFault (Some e)
some_named e named same = let memory : e ≡ NoMemory = cc in named memory

-- ---- steps

named_then : {A B : Type 0} (r : Result A FsErr) (f : A → Result B FsErr) → IsNamed r → ((x : A) → IsNamed (f x)) → IsNamed (r >>= f)
named_then (Ok x) f first more = more x
named_then (Err e) f first more = λ same. let memory : e ≡ NoMemory = cc in first (ap Err memory)

named_if : {A : Type 0} (b : Bool) (r s : Result A FsErr) → IsNamed r → IsNamed s → IsNamed (cond b r s)
named_if true r s first second = first
named_if false r s first second = second

fault_if : (b : Bool) (o p : Option FsErr) → IsNamedFault o → IsNamedFault p → IsNamedFault (cond b o p)
fault_if true o p first second = first
fault_if false o p first second = second

named_unless : {A : Type 0} (o : Option FsErr) (x : A) → IsNamedFault o → IsNamed (unless o x)
named_unless None x named = λ same. absurd cc
named_unless (Some e) x named = λ same. let memory : e ≡ NoMemory = cc in named (ap Some memory)

number_named : (w : Width) (c : Tail) → IsNamed (number_at w c)
unfolding number_at
number_named w c = named_if _ _ _ (err_named _ (not_short _)) (ok_named _)

skip_named : (n : ℕ) (c : Tail) → IsNamed (skip_at n c)
unfolding skip_at
skip_named n c = named_if _ _ _ (err_named _ (not_short _)) (ok_named _)

cut_named : (c : Tail) (o : Option ℕ) → IsNamed (cut_at_zero c o)
cut_named c None = (err_named _ (not_short _))
cut_named c (Some n) = (ok_named _)

text_named : (c : Tail) → IsNamed (text_at c)
unfolding text_at
text_named c = cut_named c _

signature_named : (c : Tail) → IsNamed (signature_at c)
unfolding signature_at
signature_named c = named_if _ _ _ (err_named _ (not_short _)) (named_if _ _ _ (ok_named _) (err_named _ not_signature))

version_named : (c : Tail) → IsNamed (version_at c)
unfolding version_at
version_named c = named_then _ _ (number_named w32 c) (λ v. named_if _ _ _ (err_named _ (not_version _)) (ok_named _))

head_named : (c : Tail) → IsNamed (head_at c)
unfolding head_at
head_named c =
    named_then _ _ (signature_named c) (λ signed. named_then _ _ (version_named signed) (λ version. named_then _ _ (text_named version.1) (λ generation. named_then _ _ (text_named generation.1) (λ revision.
    named_then _ _ (number_named w64 revision.1) (λ size. named_then _ _ (number_named w32 size.1) (λ stored. named_then _ _ (number_named w32 stored.1) (λ plain. named_then _ _ (number_named w32 plain.1) (λ flags. (ok_named _)))))))))

header_named : (len : ℕ) (h : Head) → IsNamedFault (header_fault len h)
unfolding header_fault
header_named len h = fault_if _ _ _ (some_named _ (not_size _ _)) (fault_if _ _ _ (some_named _ not_combined) (fault_if _ _ _ (some_named _ (not_compressed _)) (fault_if _ _ _ (some_named _ (not_blocks _ _)) none_named)))

sections_named : (len : ℕ) (h : Head) (at : ℕ) → IsNamed (sections_at len h at)
unfolding sections_at
sections_named len h at = named_if _ _ _ (err_named _ (not_short _)) (ok_named _)

places_named : (len : ℕ) (h : Head) (at : ℕ) → IsNamed (sections_read len h at)
unfolding sections_read
places_named len h at = named_then _ _ (named_unless (header_fault len h) at (header_named len h)) (λ tested. sections_named len h tested)

block_fault_named : (plain stored flags : ℕ) → IsNamedFault (block_fault plain stored flags)
unfolding block_fault
block_fault_named plain stored flags = fault_if _ _ _ (some_named _ (not_compressed _)) (fault_if _ _ _ (some_named _ (not_blocks _ _)) none_named)

block_named : (c : Tail) → IsNamed (block_at c)
unfolding block_at
block_named c = named_then _ _ (number_named w32 c) (λ plain. named_then _ _ (number_named w32 plain.1) (λ stored. named_then _ _ (number_named w16 stored.1) (λ flags. named_unless _ _ (block_fault_named plain.0 stored.0 flags.0))))

blocks_named : (n sum : ℕ) (c : Tail) → IsNamed (blocks_at n sum c)
unfolding blocks_at
blocks_named zero sum c = (ok_named _)
blocks_named (suc n) sum c = named_then _ _ (block_named c) (λ first. blocks_named n (sum + first.0) first.1)

node_named : (before : List NodePlace) (c : Tail) → IsNamed (node_at before c)
unfolding node_at
node_named before c =
    named_then _ _ (number_named w64 c) (λ offset. named_then _ _ (number_named w64 offset.1) (λ size. named_then _ _ (number_named w32 size.1) (λ flags. named_then _ _ (text_named flags.1) (λ path. named_if _ _ _ (err_named _ (not_path _)) (ok_named _)))))

nodes_named : (n : ℕ) (before : List NodePlace) (c : Tail) → IsNamed (nodes_at n before c)
unfolding nodes_at
nodes_named zero before c = (ok_named _)
nodes_named (suc n) before c = named_then _ _ (node_named before c) (λ first. nodes_named n (before ++ first.0 ∷ []) first.1)

info_named : (c : Tail) → IsNamed (info_at c)
unfolding info_at
info_named c =
    named_then _ _ (skip_named 16 c) (λ skipped. named_then _ _ (number_named w32 skipped) (λ blocks. named_then _ _ (blocks_named blocks.0 0 blocks.1) (λ sum. named_then _ _ (number_named w32 sum.1) (λ nodes. named_then _ _ (nodes_named nodes.0 [] nodes.1) (λ places. (ok_named _))))))

data_named : (len flags sum : ℕ) (l : Sections) → IsNamed (data_at len flags sum l)
unfolding data_at
data_named len flags sum l = named_if _ _ _ (err_named _ (not_short _)) (named_if _ _ _ (err_named _ (not_blocks _ _)) (ok_named _))

place_named : (o : Option ℕ) → IsNamedFault (range_fault_at o)
place_named None = none_named
place_named (Some i) = (some_named _ (not_range _))

range_named : (room : ℕ) (nodes : List NodePlace) → IsNamedFault (range_fault room nodes)
unfolding range_fault
range_named room nodes = place_named _

behind_named : (len : ℕ) (h : Head) (l : Sections) (file : List ℕ) → IsNamed (behind_read len h l file)
unfolding behind_read
behind_named len h l file = named_then _ _ (info_named (part l.info h.stored file)) (λ info. named_then _ _ (data_named len h.flags info.0 l) (λ start. named_unless _ _ (range_named info.0 info.1)))

numbers_named : (file : List ℕ) → IsNamed (header_read file)
unfolding header_read
numbers_named file = named_then _ _ (head_named (whole file)) (λ head. (ok_named _))

pub bundle_named : (file : List ℕ) → bundle_read file ≡ Err NoMemory → ⊥
unfolding bundle_read
bundle_named file = named_then _ _ (numbers_named file) (λ head. named_then _ _ (places_named (length file) head.0 head.1) (λ l. behind_named (length file) head.0 l file))
