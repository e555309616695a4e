-- A header that is read is the header that was written, and what was written is read again.
use Rattle.std.proofs.Common.{◌≡◌, ℕ, ◌^◌, ◌<◌, ◌≤◌, Bool, true, false, cond, eqb, ltb, ◌||◌, List, ◌++◌, length, take, drop, None, Ok, Err, refl, sym, ap, subst, ◌∙◌, append_assoc, arith, length-append, eq-eqb, bytes_eq}
use Rattle.std.specs.Int.{w32, w64, to_be_bytes, cast_signed}
use Rattle.std.proofs.lemmas.Bool.{ltb-false, le-ltb, eqb-true}
use Rattle.std.proofs.lemmas.List.{take_at, drop_at, take-append-drop}
use Rattle.std.proofs.lemmas.Slice.Eq.{bytes_eq-Decides}
use Rattle.addr_unityfs.specs.Faults.{Head, Tail, past, number_at, text_at, signature_at, version_at, head_at, header_fault}
use Rattle.addr_unityfs.specs.declared.error.FsErr.{FsErr}
use Rattle.addr_unityfs.specs.declared.error.FsErr.TheVariants.{Short, Signature, Version, NotCombined, Compressed, Size, Blocks}
use Rattle.addr_unityfs.specs.Flags.{kind_of, is_combined}
use Rattle.addr_unityfs.specs.Spelling.{signature, ended}
use Rattle.addr_unityfs.specs.Format.{NoZero}
use Rattle.addr_unityfs.proofs.FieldLaws.{IsBytes, IsBytes-drop, bind_ok, guard_ok, ok_is, Takes, Takes-then, wide32, wide64, number_takes, number_again, text_takes, text_again}
use Rattle.addr_unityfs.proofs.RowLaws.{test_passed}

-- the bytes of a header with the numbers h and two texts
abbrev pub head_bytes : Head → List ℕ → List ℕ → List ℕ
head_bytes h generation revision = signature ++ (to_be_bytes w32 h.version ++ (ended generation ++ (ended revision ++ (to_be_bytes w64 h.size ++ (to_be_bytes w32 h.stored ++ (to_be_bytes w32 h.plain ++ to_be_bytes w32 h.flags))))))

pub signature_len : length signature ≡ 8
unfolding signature
signature_len = refl

pub two_tests : {A : Type 0} (short same : Bool) (d e : FsErr) (x y : A) → cond short (Err d) (cond same (Ok x) (Err e)) ≡ Ok y → (same ≡ true) × (x ≡ y)
two_tests true same d e x y given = absurd cc
two_tests false true d e x y given = (refl, cc)
two_tests false false d e x y given = absurd cc

signature_takes : (c d : Tail) → IsBytes c.rest → signature_at c ≡ Ok d → Takes c signature d
unfolding signature_at
signature_takes c d fits e =
    let passed = two_tests (ltb (length c.rest) 8) (bytes_eq (take 8 c.rest) signature) (Short c.end) Signature (past 8 c) d e in
    let front : take 8 c.rest ≡ signature = (bytes_eq-Decides (take 8 c.rest) signature).0 passed.0 in
    subst (λ (y : Tail). Takes c signature y) passed.1
    (record { parts = sym (take-append-drop 8 c.rest) ∙ ap (λ t. t ++ drop 8 c.rest) front; end = refl; fits = IsBytes-drop 8 c.rest fits })

signature_again : (end : ℕ) (rest : List ℕ) → signature_at (record { end = end; rest = signature ++ rest }) ≡ Ok (record { end = end; rest = rest })
unfolding signature_at
signature_again end rest =
    let long : ltb (length (signature ++ rest)) 8 ≡ false = le-ltb _ _ (omega (arith, length-append signature rest, signature_len)) in
    rw (long, take_at signature rest 8 signature_len, (bytes_eq-Decides signature signature).1 refl, drop_at signature rest 8 signature_len) refl

or_false : (a b : Bool) → (a || b) ≡ false → (a ≡ false) × (b ≡ false)
or_false true b e = absurd cc
or_false false b e = (refl, e)

version_takes : (c : Tail) (x : ℕ × Tail) → IsBytes c.rest → version_at c ≡ Ok x → Takes c (to_be_bytes w32 x.0) x.1 × (6 ≤ x.0) × (x.0 ≤ 8)
unfolding version_at
version_takes c x fits e =
    let v = bind_ok (number_at w32 c) (λ v. cond (ltb v.0 6 || ltb 8 v.0) (Err (Version v.0)) (Ok v)) x e in
    let t = number_takes w32 (2 ^ 32) wide32 c v.0 fits v.1 in
    let passed = guard_ok (ltb v.0.0 6 || ltb 8 v.0.0) (Version v.0.0) v.0 x v.2 in
    let within = or_false (ltb v.0.0 6) (ltb 8 v.0.0) passed.0 in
    subst (λ (y : ℕ × Tail). Takes c (to_be_bytes w32 y.0) y.1 × (6 ≤ y.0) × (y.0 ≤ 8)) passed.1 (t.0, ltb-false _ _ within.0, ltb-false _ _ within.1)

version_again : (v end : ℕ) (rest : List ℕ) → 6 ≤ v → v ≤ 8 → version_at (record { end = end; rest = to_be_bytes w32 v ++ rest }) ≡ Ok (v, record { end = end; rest = rest })
unfolding version_at
version_again v end rest low high = rw (number_again w32 (2 ^ 32) wide32 v end rest (omega (arith, high)), le-ltb v 6 low, le-ltb 8 v high) refl

pub record HeadTaken (c : Tail) (x : Head × Tail) : Type 0 where
  pub generation : List ℕ
  pub revision : List ℕ
  pub takes : Takes c (head_bytes x.0 generation revision) x.1
  pub low : 6 ≤ x.0.version
  pub high : x.0.version ≤ 8
  pub first_text : NoZero generation
  pub second_text : NoZero revision
  pub stored_fits : x.0.stored < 2 ^ 32
  pub flags_fit : x.0.flags < 2 ^ 32

pub head_takes : (c : Tail) (x : Head × Tail) → IsBytes c.rest → head_at c ≡ Ok x → HeadTaken c x
unfolding head_at
head_takes c x fits e =
    let signed = bind_ok (signature_at c) _ x e in
    let t0 = signature_takes c signed.0 fits signed.1 in
    let version = bind_ok (version_at signed.0) _ x signed.2 in
    let t1 = version_takes signed.0 version.0 t0.fits version.1 in
    let generation = bind_ok (text_at version.0.1) _ x version.2 in
    let t2 = text_takes version.0.1 generation.0 t1.0.fits generation.1 in
    let revision = bind_ok (text_at generation.0.1) _ x generation.2 in
    let t3 = text_takes generation.0.1 revision.0 t2.0.fits revision.1 in
    let size = bind_ok (number_at w64 revision.0.1) _ x revision.2 in
    let t4 = number_takes w64 (2 ^ 64) wide64 revision.0.1 size.0 t3.0.fits size.1 in
    let stored = bind_ok (number_at w32 size.0.1) _ x size.2 in
    let t5 = number_takes w32 (2 ^ 32) wide32 size.0.1 stored.0 t4.0.fits stored.1 in
    let plain = bind_ok (number_at w32 stored.0.1) _ x stored.2 in
    let t6 = number_takes w32 (2 ^ 32) wide32 stored.0.1 plain.0 t5.0.fits plain.1 in
    let flags = bind_ok (number_at w32 plain.0.1) _ x plain.2 in
    let t7 = number_takes w32 (2 ^ 32) wide32 plain.0.1 flags.0 t6.0.fits flags.1 in
    let s6 = Takes-then stored.0.1 _ plain.0.1 _ flags.0.1 t6.0 t7.0 in
    let s5 = Takes-then size.0.1 _ stored.0.1 _ flags.0.1 t5.0 s6 in
    let s4 = Takes-then revision.0.1 _ size.0.1 _ flags.0.1 t4.0 s5 in
    let s3 = Takes-then generation.0.1 _ revision.0.1 _ flags.0.1 t3.0 s4 in
    let s2 = Takes-then version.0.1 _ generation.0.1 _ flags.0.1 t2.0 s3 in
    let s1 = Takes-then signed.0 _ version.0.1 _ flags.0.1 t1.0 s2 in
    let s0 = Takes-then c _ signed.0 _ flags.0.1 t0 s1 in
    let made : Head × Tail = (record { version = version.0.0; size = size.0.0; stored = stored.0.0; plain = plain.0.0; flags = flags.0.0 }, flags.0.1) in
    subst (λ (y : Head × Tail). HeadTaken c y) (ok_is made x flags.2) (record {
      generation = generation.0.0;
      revision = revision.0.0;
      takes = s0;
      low = t1.1;
      high = t1.2;
      first_text = t2.1;
      second_text = t3.1;
      stored_fits = t5.1;
      flags_fit = t7.1;
    })

regroup : (a b c d e f g h x : List ℕ) → (a ++ (b ++ (c ++ (d ++ (e ++ (f ++ (g ++ h))))))) ++ x ≡ a ++ (b ++ (c ++ (d ++ (e ++ (f ++ (g ++ (h ++ x)))))))
regroup a b c d e f g h x = simp append_assoc

pub head_again : (h : Head) (generation revision : List ℕ) (end : ℕ) (rest : List ℕ) → 6 ≤ h.version → h.version ≤ 8 → NoZero generation → NoZero revision → h.size < 2 ^ 64 → h.stored < 2 ^ 32 → h.plain < 2 ^ 32 → h.flags < 2 ^ 32
    → head_at (record { end = end; rest = head_bytes h generation revision ++ rest }) ≡ Ok (h, record { end = end; rest = rest })
unfolding head_at
head_again h generation revision end rest low high first second size stored plain flags =
    let x7 = to_be_bytes w32 h.flags ++ rest in
    let x6 = to_be_bytes w32 h.plain ++ x7 in
    let x5 = to_be_bytes w32 h.stored ++ x6 in
    let x4 = to_be_bytes w64 h.size ++ x5 in
    let x3 = ended revision ++ x4 in
    let x2 = ended generation ++ x3 in
    let x1 = to_be_bytes w32 h.version ++ x2 in
    ap (λ x. head_at (record { end = end; rest = x })) (regroup signature (to_be_bytes w32 h.version) (ended generation) (ended revision) (to_be_bytes w64 h.size) (to_be_bytes w32 h.stored) (to_be_bytes w32 h.plain) (to_be_bytes w32 h.flags) rest)
    ∙ rw (signature_again end x1, version_again h.version end x2 low high, text_again end generation x3 first, text_again end revision x4 second, number_again w64 (2 ^ 64) wide64 h.size end x5 size, number_again w32 (2 ^ 32) wide32 h.stored end x6 stored, number_again w32 (2 ^ 32) wide32 h.plain end x7 plain, number_again w32 (2 ^ 32) wide32 h.flags end rest flags) refl

-- a header without a fault
pub record IsSound (len : ℕ) (h : Head) : Type 0 where
  pub size : h.size ≡ len
  pub combined : is_combined h.flags ≡ true
  pub kind : kind_of h.flags ≡ 0
  pub same : h.stored ≡ h.plain

pub header_sound : (len : ℕ) (h : Head) → header_fault len h ≡ None → IsSound len h
unfolding header_fault
header_sound len h none =
    let size = test_passed (eqb h.size len) (Size (cast_signed w64 h.size) len) _ none in
    let combined = test_passed (is_combined h.flags) NotCombined _ size.1 in
    let kind = test_passed (eqb (kind_of h.flags) 0) (Compressed (kind_of h.flags)) _ combined.1 in
    let same = test_passed (eqb h.stored h.plain) (Blocks h.stored h.plain) None kind.1 in
    record { size = eqb-true _ _ size.0; combined = combined.0; kind = eqb-true _ _ kind.0; same = eqb-true _ _ same.0 }

pub sound_again : (len : ℕ) (h : Head) → IsSound len h → header_fault len h ≡ None
unfolding header_fault
sound_again len h sound = rw (eq-eqb h.size len sound.size, sound.combined, eq-eqb (kind_of h.flags) 0 sound.kind, eq-eqb h.stored h.plain sound.same) refl
