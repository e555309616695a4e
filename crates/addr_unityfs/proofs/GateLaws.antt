-- When a fault is told: the signature with 8 bytes, the version with 12; what is told stays told, and is never want of memory.
use Rattle.std.proofs.Common.{◌≡◌, ℕ, ◌+◌, ◌-◌, ◌≤◌, Bool, true, false, cond, eqb, ltb, ◌||◌, List, [], ◌++◌, length, take, drop, replicate, Some, None, Ok, Err, refl, sym, ap, ◌∙◌, arith, length-append, length-take, length-drop, bytes_eq, eq-eqb}
use Rattle.std.specs.Int.{w32, from_be_bytes}
use Rattle.std.proofs.lemmas.Bool.{le-ltb, false_from_ne_true}
use Rattle.std.proofs.lemmas.Slice.Eq.{bytes_eq-Decides}
use Rattle.std.proofs.lemmas.List.{take_all, append-nil, length-replicate}
use Rattle.addr_unityfs.specs.declared.error.FsErr.{FsErr}
use Rattle.addr_unityfs.specs.declared.error.FsErr.TheVariants.{Short, Signature, Version, NoMemory}
use Rattle.addr_unityfs.specs.declared.stage.Stage.{Stage}
use Rattle.addr_unityfs.specs.declared.stage.Stage.TheVariants.{Head, Info, Rest, Bad}
use Rattle.addr_unityfs.specs.Spelling.{signature}
use Rattle.addr_unityfs.specs.Faults as faults
use Rattle.addr_unityfs.specs.Faults.{number_at, signature_at, version_at, head_at, header_read, sections_read, behind_read, bundle_read}
use Rattle.addr_unityfs.specs.Early.{told, fault_of, early_of, early_at, version_in, is_other_version}
use Rattle.addr_unityfs.specs.within.Stages.{told_stage, done_stage, laid_stage, header_stage, stage_of, fault_in, is_bad}
use Rattle.addr_unityfs.specs.within.Kept.{Kept, kept_with}
use Rattle.addr_unityfs.proofs.NamedLaws.{bundle_named}
use Rattle.addr_unityfs.proofs.EarlyLaws.{early_is_first}
use Rattle.addr_unityfs.proofs.StageLaws.{stage_fault, bad_stays}
use Rattle.addr_unityfs.proofs.TookLaws.{take-append, early_exact}

signature_err : (bytes : List ℕ) → 8 ≤ length bytes → bytes_eq (take 8 bytes) signature ≡ false → header_read bytes ≡ Err Signature
unfolding header_read head_at signature_at
signature_err bytes long other = rw (le-ltb (length bytes) 8 long, other) refl

version_err : (bytes : List ℕ) → 12 ≤ length bytes → bytes_eq (take 8 bytes) signature ≡ true → (ltb (from_be_bytes w32 (take 4 (drop 8 bytes))) 6 || ltb 8 (from_be_bytes w32 (take 4 (drop 8 bytes)))) ≡ true
    → header_read bytes ≡ Err (Version (from_be_bytes w32 (take 4 (drop 8 bytes))))
unfolding header_read head_at signature_at version_at number_at
version_err bytes long same other = rw (le-ltb (length bytes) 8 (omega (arith, long)), same, le-ltb (length (drop 8 bytes)) 4 (omega (arith, long, length-drop 8 bytes)), other) refl

bad_stage : (b : Bool) (bytes : List ℕ) (e : FsErr) → told e ≡ Some e → fault_in (cond b (Bad e) (told_stage bytes e)) ≡ Some e
bad_stage true bytes e is = refl
bad_stage false bytes (Short at) is = absurd cc
bad_stage false bytes e is = refl

told_at : (total : ℕ) (bytes : List ℕ) (e : FsErr) → told e ≡ Some e → header_read bytes ≡ Err e → early_of total bytes ≡ Some e
unfolding stage_of
told_at total bytes e is same = stage_fault total bytes ∙ (ap (λ r. fault_in (header_stage total bytes r)) same ∙ bad_stage (eqb (length bytes) total) bytes e is)

pub signature_told : (total : ℕ) (bytes : List ℕ) → 8 ≤ length bytes → bytes_eq (take 8 bytes) signature ≡ false → early_of total bytes ≡ Some Signature
signature_told total bytes long other = told_at total bytes Signature refl (signature_err bytes long other)

pub version_told : (total : ℕ) (bytes : List ℕ) → 12 ≤ length bytes → bytes_eq (take 8 bytes) signature ≡ true → (ltb (from_be_bytes w32 (take 4 (drop 8 bytes))) 6 || ltb 8 (from_be_bytes w32 (take 4 (drop 8 bytes)))) ≡ true
    → early_of total bytes ≡ Some (Version (from_be_bytes w32 (take 4 (drop 8 bytes))))
version_told total bytes long same other = told_at total bytes (Version (from_be_bytes w32 (take 4 (drop 8 bytes)))) refl (version_err bytes long same other)

pub signature_other : (total : ℕ) (bytes : List ℕ) → 8 ≤ length bytes → (take 8 bytes ≡ signature → ⊥) → early_of total bytes ≡ Some Signature
signature_other total bytes long other = signature_told total bytes long (false_from_ne_true _ (λ same. other ((bytes_eq-Decides (take 8 bytes) signature).0 same)))

pub version_other : (total : ℕ) (bytes : List ℕ) → 12 ≤ length bytes → take 8 bytes ≡ signature → is_other_version (version_in bytes) ≡ true → early_of total bytes ≡ Some (Version (version_in bytes))
version_other total bytes long same other = version_told total bytes long ((bytes_eq-Decides (take 8 bytes) signature).1 same) other

pub header_told : (total : ℕ) (bytes : List ℕ) (x : faults.Head × ℕ) (e : FsErr) → header_read bytes ≡ Ok x → sections_read total x.0 x.1 ≡ Err e → early_of total bytes ≡ Some e
unfolding stage_of
header_told total bytes x e head fault = stage_fault total bytes ∙ (ap (λ r. fault_in (header_stage total bytes r)) head ∙ ap (λ r. fault_in (laid_stage total bytes x.0 r)) fault)

pub info_told : (total : ℕ) (bytes : List ℕ) (x : faults.Head × ℕ) (l : faults.Sections) (e : FsErr) → header_read bytes ≡ Ok x → sections_read total x.0 x.1 ≡ Ok l → l.info + x.0.stored ≤ length bytes
    → behind_read total x.0 l bytes ≡ Err e → early_of total bytes ≡ Some e
unfolding stage_of
info_told total bytes x l e head places long fault =
    stage_fault total bytes ∙ (ap (λ r. fault_in (header_stage total bytes r)) head ∙ (ap (λ r. fault_in (laid_stage total bytes x.0 r)) places
    ∙ (ap (λ b. fault_in (cond b (Info (l.info + x.0.stored)) (done_stage (behind_read total x.0 l bytes)))) (le-ltb (length bytes) (l.info + x.0.stored) long) ∙ ap (λ r. fault_in (done_stage r)) fault)))

pub whole_told : (total : ℕ) (bytes : List ℕ) → length bytes ≡ total → early_of total bytes ≡ fault_of (bundle_read bytes)
unfolding early_of
whole_told total bytes len = rw (eq-eqb (length bytes) total len) refl

-- ---- what is told stays told

is_told : (s : Stage) (e : FsErr) → fault_in s ≡ Some e → s ≡ Bad e
is_told (Head text) e same = absurd cc
is_told (Info until) e same = absurd cc
is_told Rest e same = absurd cc
is_told (Bad f) e same = let at : f ≡ e = cc in ap Bad at

pub is_told_bad : (s : Stage) (e : FsErr) → fault_in s ≡ Some e → is_bad s ≡ true
is_told_bad s e same = ap is_bad (is_told s e same)

pub early_stays : (total : ℕ) (fed piece : List ℕ) (e : FsErr) → early_at total fed ≡ Some e → early_at total (fed ++ piece) ≡ Some e
early_stays total fed piece e early =
    let more = take (total - length fed) piece in
    let bad : Bad e ≡ stage_of total (take total fed) = sym (is_told (stage_of total (take total fed)) e (sym (stage_fault total (take total fed)) ∙ early)) in
    let still = bad_stays total e (take total fed) more (omega (arith, length-append (take total fed) more, length-take total fed, length-take (total - length fed) piece)) bad in
    ap (early_of total) (take-append total fed piece) ∙ (stage_fault total (take total fed ++ more) ∙ ap fault_in (sym still))

-- ---- no fault that is told is want of memory

pub told_named : (total : ℕ) (stage : Stage) (kept : List ℕ) → length kept ≤ total → stage ≡ stage_of total kept → fault_in stage ≡ Some NoMemory → ⊥
told_named total stage kept long is same =
    let all : take total kept ≡ kept = take_all total kept long in
    let early : early_at total kept ≡ Some NoMemory = ap (early_of total) all ∙ (stage_fault total kept ∙ (ap fault_in (sym is) ∙ same)) in
    let zeros = replicate (total - length kept) 0 in
    let len : length (take total kept ++ zeros) ≡ total = omega (arith, length-append (take total kept) zeros, length-replicate {A = ℕ} (total - length kept) 0, ap length all, long) in
    bundle_named (take total kept ++ zeros) (early_is_first total kept zeros NoMemory len early)

pub early_named : (total : ℕ) (fed : List ℕ) → early_at total fed ≡ Some NoMemory → ⊥
early_named total fed early = told_named total (stage_of total (take total fed)) (take total fed) (omega (arith, length-take total fed)) refl (sym (stage_fault total (take total fed)) ∙ early)

pub held_told : (total : ℕ) (stage : Stage) (kept fed : List ℕ) (e : FsErr) → Kept total stage kept fed → stage ≡ stage_of total kept → early_at total fed ≡ Some e → is_bad stage ≡ true
held_told total stage kept fed e k is early = is_told_bad stage e (early_exact total stage kept fed k is ∙ early)

pub held_same : (total : ℕ) (stage : Stage) (kept new fed piece : List ℕ) (e : FsErr) → Kept total stage kept fed → stage ≡ stage_of total kept → new ≡ kept_with stage total kept piece → early_at total fed ≡ Some e → length new ≡ length kept
held_same total stage kept new fed piece e k is items early =
    ap length (items ∙ ap (λ (b : Bool). cond b kept (kept ++ take (total - length kept) piece)) (held_told total stage kept fed e k is early))

-- ---- before a fault is told all is kept

good_while_none : (s : Stage) → fault_in s ≡ None → is_bad s ≡ false
good_while_none (Head text) same = refl
good_while_none (Info until) same = refl
good_while_none Rest same = refl
good_while_none (Bad e) same = absurd cc

pub all_kept : (total : ℕ) (stage : Stage) (kept fed : List ℕ) → Kept total stage kept fed → stage ≡ stage_of total kept → early_at total fed ≡ None → length kept ≡ length (take total fed)
all_kept total stage kept fed k is none =
    let rest : k.rest ≡ [] = k.all (good_while_none stage (early_exact total stage kept fed k is ∙ none)) in
    ap length (sym (k.parts ∙ (ap (λ (t : List ℕ). kept ++ t) rest ∙ append-nil kept)))

pub told_is_bad : (total : ℕ) (stage : Stage) (kept fed : List ℕ) (e : FsErr) → Kept total stage kept fed → stage ≡ stage_of total kept → early_at total fed ≡ Some e → stage ≡ Bad e
told_is_bad total stage kept fed e k is early = is_told stage e (early_exact total stage kept fed k is ∙ early)

pub not_both : {A E : Type 0} (e : E) (x : A) → Err e ≡ Ok x → ⊥
not_both e x same = absurd cc
