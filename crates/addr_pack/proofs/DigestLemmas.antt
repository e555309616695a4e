-- Digests are 16 bytes, so that their digits tell them apart.
use Rattle.std.proofs.Common.{◌≡◌, ◌*◌, ℕ, zero, suc, List, [], ◌∷◌, ◌++◌, length, take, refl, arith, length-append}
use Rattle.std.specs.Prelude.{slice_index}
use Rattle.std.specs.Int.{w32, to_be_bytes}
use Rattle.std.proofs.lemmas.List.{length-take-le}
use Rattle.hex.specs.Hex.{IsBytes}
use Rattle.sha2.specs.Sha256.{digest_bytes, final_hash, initial_hash_256, sha256}
use Rattle.addr_base.specs.Ids.{Are16Bytes, digest_of}

bytes-append : (xs ys : List ℕ) → IsBytes xs → IsBytes ys → IsBytes (xs ++ ys)
bytes-append [] ys left right i = right i
bytes-append (x ∷ xs) ys left right zero = left 0
bytes-append (x ∷ xs) ys left right (suc i) = bytes-append xs ys (λ k. left (suc k)) right i

bytes-take : (n : ℕ) (xs : List ℕ) → IsBytes xs → IsBytes (take n xs)
bytes-take zero xs are i = omega arith
bytes-take (suc n) [] are i = omega arith
bytes-take (suc n) (x ∷ xs) are zero = are 0
bytes-take (suc n) (x ∷ xs) are (suc i) = bytes-take n xs (λ k. are (suc k)) i

word-bytes : (n : ℕ) → IsBytes (to_be_bytes w32 n)
word-bytes n zero = omega arith
word-bytes n (suc zero) = omega arith
word-bytes n (suc (suc zero)) = omega arith
word-bytes n (suc (suc (suc zero))) = omega arith
word-bytes n (suc (suc (suc (suc i)))) = omega arith

digest-length : (h : List ℕ) (n : ℕ) → length (digest_bytes h n) ≡ 4 * n
unfolding digest_bytes
digest-length h zero = refl
digest-length h (suc n) = let before = digest-length h n in let more = length-append (digest_bytes h n) (to_be_bytes w32 (slice_index h n)) in omega (arith, before, more)

digest-bytes : (h : List ℕ) (n : ℕ) → IsBytes (digest_bytes h n)
unfolding digest_bytes
digest-bytes h zero i = omega arith
digest-bytes h (suc n) i = bytes-append (digest_bytes h n) (to_be_bytes w32 (slice_index h n)) (digest-bytes h n) (word-bytes (slice_index h n)) i

pub digests-fit : (bytes : List ℕ) → Are16Bytes (digest_of bytes)
unfolding sha256
digests-fit bytes = record {
  sixteen = length-take-le 16 (digest_bytes (final_hash initial_hash_256 bytes) 8) (let long = digest-length (final_hash initial_hash_256 bytes) 8 in omega arith);
  small = bytes-take 16 (digest_bytes (final_hash initial_hash_256 bytes) 8) (digest-bytes (final_hash initial_hash_256 bytes) 8);
}
