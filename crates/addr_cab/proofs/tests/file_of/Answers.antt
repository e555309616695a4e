use Rattle.std.proofs.Common.{replicate, ◌≡◌, ◌≢◌, ℕ, zero, suc, ◌+◌, ◌/◌, ◌%◌, ◌<◌, ◌≤◌, ◌^◌, Bool, true, false, not, cond, eqb, List, [], ◌∷◌, length, get_or, arith, codes, length-append, refl, ap, eq-eqb}
use Rattle.std.specs.List.{AllByRecursion, list_all}
use Rattle.std.proofs.lemmas.Bool.{and_parts}
use Rattle.std.proofs.lemmas.List.{length-replicate}
use Rattle.std.proofs.lemmas.List.Elements.{All-from_recursion}
use Rattle.addr_unityfs.specs.declared.bundle.NodeOut.{NodeOut}
use Rattle.addr_unityfs.specs.Flags.{to_sixteen}
use Rattle.addr_unityfs.specs.Format.{NoZero}
use Rattle.addr_unityfs.specs.Written.{plain_block, blocks_of, data_of, CanWrite}
use Rattle.addr_unityfs.proofs.WrittenLengths.{lengths}
use Rattle.addr_cab.proofs.tests.file_of.Goals as goal

last_len : (size : ℕ) (t : Bool) → length (cond t [] (plain_block size ∷ [])) ≤ 1
last_len size true = omega arith
last_len size false = omega arith

count : (size : ℕ) → length (blocks_of size) ≤ size / 131072 + 1
count size =
    let full = replicate (size / 131072) (plain_block 131072) in
    omega (arith, length-append full (cond (eqb (size % 131072) 0) [] (plain_block (size % 131072) ∷ [])), length-replicate (size / 131072) (plain_block 131072), last_len (size % 131072) (eqb (size % 131072) 0))

not_zero : (b : ℕ) → not (eqb b 0) ≡ true → b ≢ 0
not_zero b test e = let is = eq-eqb b 0 e in cc

no_zeros : (text : List ℕ) → list_all (λ b. not (eqb b 0)) text ≡ true → AllByRecursion (λ b. b ≢ 0) text
no_zeros [] test = tt
no_zeros (b ∷ bs) test = let parts = and_parts (not (eqb b 0)) (list_all (λ c. not (eqb c 0)) bs) test in (not_zero b parts.0, no_zeros bs parts.1)

no_zero : (text known : List ℕ) → text ≡ known → list_all (λ b. not (eqb b 0)) known ≡ true → NoZero text
no_zero text known same test = rw same (All-from_recursion (λ b. b ≢ 0) known (no_zeros known test))

apart : (a b : NodeOut) → a.path ≢ b.path → (i j : ℕ) (d : NodeOut) → i < j → j < 2 → (get_or (a ∷ b ∷ []) i d).path ≢ (get_or (a ∷ b ∷ []) j d).path
apart a b differ i zero d less within = absurd (omega (arith, less))
apart a b differ zero (suc zero) d less within = differ
apart a b differ (suc i) (suc zero) d less within = absurd (omega (arith, less))
apart a b differ i (suc (suc j)) d less within = absurd (omega (arith, within))

both : (p q table content : List ℕ) → p ≡ codes "CAB-00000000000000000000000000000001" → q ≡ codes "CAB-00000000000000000000000000000001.resS" → length table + length content < 2 ^ 20
    → CanWrite [] (record { path = p; flags = 4; bytes = table } ∷ record { path = q; flags = 0; bytes = content } ∷ [])
unfolding to_sixteen
both p q table content p_is q_is small =
    let a : NodeOut = record { path = p; flags = 4; bytes = table } in
    let b : NodeOut = record { path = q; flags = 0; bytes = content } in
    let l = lengths [] (a ∷ b ∷ []) in
    record {
      text = λ k d lt. absurd (omega (arith, lt));
      paths = All-from_recursion (λ n. NoZero n.path) (a ∷ b ∷ []) (no_zero p _ p_is refl, (no_zero q _ q_is refl, tt));
      distinct = apart a b (λ e. absurd (omega (arith, ap length p_is, ap length q_is, ap length e)));
      small = rw l.file_is (omega (arith, small, ap length p_is, ap length q_is, l.payload_is, count (length (data_of (a ∷ b ∷ [])))));
    }

pub write_bundle-requires : goal.write_bundle-requires
write_bundle-requires c =
    both c.in_ok-copy_of.field-0 c.in_ok-copy_of-3.field-0 c.in_ok-copy_of-2.field-0 c.in_ok-copy_of-4.field-0 c.in_ok-copy_of.ensures c.in_ok-copy_of-3.ensures (rw (c.in_ok-copy_of-2.ensures, c.in_ok-copy_of-4.ensures) c.requires)
