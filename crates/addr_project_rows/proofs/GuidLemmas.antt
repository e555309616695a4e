-- GUIDs: what the reader of hex digits answers is the GUID that they spell, and each GUID has 16 bytes.
use Rattle.std.proofs.Common.{◌≡◌, ℕ, Bool, true, false, cond, List, Option, Some, None, Result, Ok, Err, refl, sym, ap, subst, ◌∙◌, arith}
use Rattle.std.specs.Cmp.Lexicographic.{bytes_decides}
use Rattle.std.specs.Option.{option_map}
use Rattle.std.specs.Str.{bytes_eq}
use Rattle.hex.specs.Hex.{decode_sized}
use Rattle.hex.specs.declared.error.FromHexError.{FromHexError}
use Rattle.hex.proofs.HexLemmas.{decode_of-ok, decode_sized-ok, decode_sized-twice}
use Rattle.addr_base.specs.Ids.{Are16Bytes, ReadsHex, hex_of}
use Rattle.addr_base.specs.declared.ids.Guid.{Guid}
use Rattle.addr_base.proofs.HexLemmas.{spelled_decodes}
use Rattle.addr_project_rows.specs.Fields.{guid_spelled, guid_from}

decoded_bytes : (s bytes : List ℕ) → decode_sized s 16 ≡ Ok bytes → Are16Bytes bytes
decoded_bytes s bytes is =
    let long = decode_sized-ok s 16 bytes is in
    let parts = decode_of-ok s bytes (sym (decode_sized-twice s 16 long) ∙ is) in
    record { sixteen = omega (arith, long, parts.2); small = parts.3 }

-- the GUID of bytes that pass a test
abbrev guid_if : List ℕ → Bool → Option Guid
guid_if bytes b = cond b (Some (record { 0 = bytes })) None

pub parsed : (s : List ℕ) (found : Option Guid) → ReadsHex s (option_map (λ (g : Guid). g.0) found) → found ≡ guid_from s
parsed s (Some guid) reads =
    let same : bytes_eq (hex_of guid.0) s ≡ true = (bytes_decides (hex_of guid.0) s).1 (sym reads.1) in
    sym (ap (guid_spelled s) (spelled_decodes s guid.0 reads.0 reads.1) ∙ ap (λ (b : Bool). cond b (Some guid) None) same)
parsed s None none = sym (unspelled (decode_sized s 16) refl)
  where
    by_test : (bytes : List ℕ) → decode_sized s 16 ≡ Ok bytes → (b : Bool) → bytes_eq (hex_of bytes) s ≡ b → guid_if bytes b ≡ None
    by_test bytes is true same = absurd (none bytes (decoded_bytes s bytes is) (sym ((bytes_decides (hex_of bytes) s).0 same)))
    by_test bytes is false other = refl

    unspelled : (r : Result (List ℕ) FromHexError) → decode_sized s 16 ≡ r → guid_spelled s r ≡ None
    unspelled (Ok bytes) is = by_test bytes is (bytes_eq (hex_of bytes) s) refl
    unspelled (Err e) is = refl

-- a GUID that is read has 16 bytes
pub guid_bytes : (s : List ℕ) (guid : Guid) → guid_from s ≡ Some guid → Are16Bytes guid.0
guid_bytes s guid is = by_bytes (decode_sized s 16) refl is
  where
    by_test : (bytes : List ℕ) → decode_sized s 16 ≡ Ok bytes → (b : Bool) → guid_if bytes b ≡ Some guid → Are16Bytes guid.0
    by_test bytes decoded true same =
        let equal : bytes ≡ guid.0 = cc in
        subst Are16Bytes equal (decoded_bytes s bytes decoded)
    by_test bytes decoded false same = absurd (cc)

    by_bytes : (r : Result (List ℕ) FromHexError) → decode_sized s 16 ≡ r → guid_spelled s r ≡ Some guid → Are16Bytes guid.0
    by_bytes (Ok bytes) decoded same = by_test bytes decoded (bytes_eq (hex_of bytes) s) same
    by_bytes (Err e) decoded same = absurd (cc)
