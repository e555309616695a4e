-- A header that is read ends behind so many of the bytes, and more bytes behind them change nothing of it.
use Rattle.std.proofs.Common.{◌≡◌, ℕ, ◌+◌, ◌≤◌, Bool, true, false, cond, ltb, ◌||◌, List, length, take, Ok, Err, refl, sym, ap, subst, ◌∙◌, arith, length-drop, bytes_eq}
use Rattle.std.specs.List.{position}
use Rattle.std.specs.Int.{Width, w32, w64, byte_len, from_be_bytes}
use Rattle.std.proofs.lemmas.Bool.{ltb-false}
use Rattle.std.proofs.lemmas.List.{drop-drop}
use Rattle.std.proofs.lemmas.List.Quantifiers.{position-Some}
use Rattle.addr_unityfs.specs.Faults.{Head, Tail, place, whole, past, number_at, text_at, signature_at, version_at, head_at}
use Rattle.addr_unityfs.specs.declared.error.FsErr.{FsErr}
use Rattle.addr_unityfs.specs.declared.error.FsErr.TheVariants.{Short, Signature, Version}
use Rattle.addr_unityfs.specs.Spelling.{signature}
use Rattle.addr_unityfs.proofs.FieldLaws.{bind_ok, guard_ok, ok_is, is_zero, cut_ok}

-- ---- behind so many of the bytes

pub record IsPast (c d : Tail) : Type 0 where
  pub by : ℕ
  pub few : by ≤ length c.rest
  pub same : d ≡ past by c

pub past-then : (a b c : Tail) → IsPast a b → IsPast b c → IsPast a c
past-then a b c p q = record {
  by = p.by + q.by;
  few = omega (arith, p.few, q.few, ap (λ (t : Tail). length t.rest) p.same, length-drop p.by a.rest);
  same = q.same ∙ (ap (past q.by) p.same ∙ ap (λ (r : List ℕ). record { end = a.end; rest = r }) (drop-drop q.by p.by a.rest));
}

number_past : (w : Width) (c : Tail) (x : ℕ × Tail) → number_at w c ≡ Ok x → IsPast c x.1
unfolding number_at
number_past w c x e =
    let k = byte_len w in
    let g = guard_ok (ltb (length c.rest) k) (Short (place c)) (from_be_bytes w (take k c.rest), past k c) x e in
    record { by = k; few = ltb-false _ _ g.0; same = ap (λ (y : ℕ × Tail). y.1) (sym g.1) }

text_past : (c : Tail) (x : List ℕ × Tail) → text_at c ≡ Ok x → IsPast c x.1
unfolding text_at
text_past c x e =
    let cut = cut_ok c (position is_zero c.rest) x e in
    let found = position-Some is_zero c.rest cut.0 0 cut.1 in
    record { by = cut.0 + 1; few = omega (arith, found.0); same = ap (λ (y : List ℕ × Tail). y.1) (sym cut.2) }

-- both tests passed
both_tests : {A : Type 0} (short same : Bool) (d e : FsErr) (x y : A) → cond short (Err d) (cond same (Ok x) (Err e)) ≡ Ok y → (short ≡ false) × (same ≡ true) × (x ≡ y)
both_tests true same d e x y given = absurd cc
both_tests false true d e x y given = (refl, refl, cc)
both_tests false false d e x y given = absurd cc

signature_past : (c d : Tail) → signature_at c ≡ Ok d → IsPast c d
unfolding signature_at
signature_past c d e =
    let passed = both_tests (ltb (length c.rest) 8) (bytes_eq (take 8 c.rest) signature) (Short c.end) Signature (past 8 c) d e in
    record { by = 8; few = ltb-false _ _ passed.0; same = sym passed.2 }

version_past : (c : Tail) (x : ℕ × Tail) → version_at c ≡ Ok x → IsPast c x.1
unfolding version_at
version_past c x e =
    let v = bind_ok (number_at w32 c) (λ v. cond (ltb v.0 6 || ltb 8 v.0) (Err (Version v.0)) (Ok v)) x e in
    let passed = guard_ok (ltb v.0.0 6 || ltb 8 v.0.0) (Version v.0.0) v.0 x v.2 in
    subst (λ (y : ℕ × Tail). IsPast c y.1) passed.1 (number_past w32 c v.0 v.1)

pub head_past : (c : Tail) (x : Head × Tail) → head_at c ≡ Ok x → IsPast c x.1
unfolding head_at
head_past c x e =
    let signed = bind_ok (signature_at c) _ x e in
    let version = bind_ok (version_at signed.0) _ x signed.2 in
    let generation = bind_ok (text_at version.0.1) _ x version.2 in
    let revision = bind_ok (text_at generation.0.1) _ x generation.2 in
    let size = bind_ok (number_at w64 revision.0.1) _ x revision.2 in
    let stored = bind_ok (number_at w32 size.0.1) _ x size.2 in
    let plain = bind_ok (number_at w32 stored.0.1) _ x stored.2 in
    let flags = bind_ok (number_at w32 plain.0.1) _ x plain.2 in
    let p0 = past-then c signed.0 version.0.1 (signature_past c signed.0 signed.1) (version_past signed.0 version.0 version.1) in
    let p1 = past-then c version.0.1 generation.0.1 p0 (text_past version.0.1 generation.0 generation.1) in
    let p2 = past-then c generation.0.1 revision.0.1 p1 (text_past generation.0.1 revision.0 revision.1) in
    let p3 = past-then c revision.0.1 size.0.1 p2 (number_past w64 revision.0.1 size.0 size.1) in
    let p4 = past-then c size.0.1 stored.0.1 p3 (number_past w32 size.0.1 stored.0 stored.1) in
    let p5 = past-then c stored.0.1 plain.0.1 p4 (number_past w32 stored.0.1 plain.0 plain.1) in
    let p6 = past-then c plain.0.1 flags.0.1 p5 (number_past w32 plain.0.1 flags.0 flags.1) in
    subst (λ (y : Head × Tail). IsPast c y.1) (ok_is _ x flags.2) p6

pub head_inside : (file : List ℕ) (x : Head × Tail) → head_at (whole file) ≡ Ok x → place x.1 ≤ length file
head_inside file x e =
    let p = head_past (whole file) x e in
    omega (arith, ap place p.same, length-drop p.by file)
