-- The 16 bytes of a text: what reading digits answers is what the definition gives, and what was written reads back.
use Rattle.std.proofs.Common.{◌≡◌, ℕ, Bool, true, false, cond, List, Option, Some, None, Result, Ok, Err, refl, sym, ap, ◌∙◌, arith, bytes_eq, option_map}
use Rattle.std.proofs.lemmas.Slice.Eq.{bytes_eq-Decides}
use Rattle.hex.specs.Hex.{decode_sized}
use Rattle.hex.specs.declared.error.FromHexError.{FromHexError}
use Rattle.hex.proofs.HexLemmas.{decode_of-ok, decode_sized-ok, decode_sized-twice, decode_sized-encode_lower}
use Rattle.addr_base.specs.Ids.{Are16Bytes, ReadsHex, hex_of}
use Rattle.addr_base.specs.declared.ids.Digest.{Digest}
use Rattle.addr_base.specs.declared.ids.Guid.{Guid}
use Rattle.addr_json.specs.Members.{if_spelled, bytes_from, digest_in, guid_in}
use Rattle.addr_json.specs.Trees.{digest_tree, guid_tree}

decoded_sixteen : (text bytes : List ℕ) → decode_sized text 16 ≡ Ok bytes → Are16Bytes bytes
decoded_sixteen text bytes is =
    let len = decode_sized-ok text 16 bytes is in
    let parts = decode_of-ok text bytes (sym (decode_sized-twice text 16 len) ∙ is) in
    record { sixteen = omega (arith, len, parts.2); small = parts.3 }

pub bytes_back : (bytes : List ℕ) → Are16Bytes bytes → bytes_from (hex_of bytes) ≡ Some bytes
unfolding bytes_from
bytes_back bytes are =
    ap (if_spelled (hex_of bytes)) (decode_sized-encode_lower bytes 16 are.sixteen are.small)
    ∙ ap (λ (b : Bool). cond b (Some bytes) None) ((bytes_eq-Decides (hex_of bytes) (hex_of bytes)).1 refl)

-- a text that spells no 16 bytes
none_from : (text : List ℕ) → ((bytes : List ℕ) → Are16Bytes bytes → text ≡ hex_of bytes → ⊥) → bytes_from text ≡ None
unfolding bytes_from
none_from text none = by_digits (decode_sized text 16) refl
  where
    by_test : (bytes : List ℕ) → Are16Bytes bytes → (b : Bool) → bytes_eq text (hex_of bytes) ≡ b → cond b (Some bytes) None ≡ None
    by_test bytes are true is = absurd (none bytes are ((bytes_eq-Decides text (hex_of bytes)).0 is))
    by_test bytes are false is = refl

    by_digits : (r : Result (List ℕ) FromHexError) → decode_sized text 16 ≡ r → if_spelled text r ≡ None
    by_digits (Ok bytes) is = by_test bytes (decoded_sixteen text bytes is) (bytes_eq text (hex_of bytes)) refl
    by_digits (Err fault) is = refl

pub bytes_read : (text : List ℕ) (found : Option (List ℕ)) → ReadsHex text found → found ≡ bytes_from text
bytes_read text (Some bytes) reads = sym (ap bytes_from reads.1 ∙ bytes_back bytes reads.0)
bytes_read text None reads = sym (none_from text reads)

pub digest_back : (digest : Digest) → Are16Bytes digest.0 → digest_in (digest_tree digest) ≡ Some digest
digest_back digest are = ap (λ (found : Option (List ℕ)). option_map (λ bytes. let d : Digest = record { 0 = bytes } in d) found) (bytes_back digest.0 are)

pub guid_back : (guid : Guid) → Are16Bytes guid.0 → guid_in (guid_tree guid) ≡ Some guid
guid_back guid are = ap (λ (found : Option (List ℕ)). option_map (λ bytes. let g : Guid = record { 0 = bytes } in g) found) (bytes_back guid.0 are)
