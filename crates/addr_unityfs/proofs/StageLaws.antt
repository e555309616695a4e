-- The stage of the bytes so far stays what it is when more come, but for a header or a blocks info that is not in.
use Rattle.std.proofs.Common.{◌≡◌, ℕ, ◌+◌, ◌-◌, ◌<◌, ◌≤◌, Bool, true, false, cond, eqb, ltb, List, [], ◌∷◌, ◌++◌, length, Some, None, Result, Ok, Err, refl, sym, ap, subst, ◌∙◌, arith, length-append, eq-eqb}
use Rattle.std.proofs.lemmas.Bool.{ltb-false, ltb-true, le-ltb, eqb-true}
use Rattle.std.proofs.lemmas.List.{append-nil}
use Rattle.addr_unityfs.specs.declared.bundle.Bundle.{Bundle}
use Rattle.addr_unityfs.specs.Faults as faults
use Rattle.addr_unityfs.specs.Faults.{Sections, ◌>>=◌, place, whole, laid, sections_at, unless, header_fault, head_at, header_read, sections_read, behind_read, bundle_read}
use Rattle.addr_unityfs.specs.declared.error.FsErr.{FsErr}
use Rattle.addr_unityfs.specs.declared.error.FsErr.TheVariants.{Short}
use Rattle.addr_unityfs.specs.declared.stage.Stage.{Stage}
use Rattle.addr_unityfs.specs.declared.stage.Stage.TheVariants.{Head, Info, Rest, Bad}
use Rattle.addr_unityfs.specs.Flags.{is_at_end, header_gap}
use Rattle.addr_unityfs.specs.Early.{told, fault_of, early_behind, early_read, early_of}
use Rattle.addr_unityfs.specs.within.Stages.{told_stage, done_stage, laid_stage, header_stage, stage_of, fault_in}
use Rattle.addr_unityfs.proofs.FieldLaws.{bind_ok, guard_ok, ok_is, unless_ok}
use Rattle.addr_unityfs.proofs.PastLaws.{head_inside}
use Rattle.addr_unityfs.proofs.OnLaws.{GoesOn, header_goes}
use Rattle.addr_unityfs.proofs.EarlyLaws.{behind_on}

-- the stage of more bytes, where that of the first is a: either nothing is known yet, or it is a
abbrev Stays : ℕ → Stage → Stage → Type 0
Stays len (Head text) after = Unit {0}
Stays len (Info until) after = len < until → after ≡ Info until
Stays len Rest after = after ≡ Rest
Stays len (Bad e) after = after ≡ Bad e

same_stays : (len : ℕ) (a b : Stage) → b ≡ a → Stays len a b
same_stays len (Head text) b e = tt
same_stays len (Info until) b e = λ lt. e
same_stays len Rest b e = e
same_stays len (Bad f) b e = e

told_bad : (old : List ℕ) (len : ℕ) (e : FsErr) (after : Stage) → (told e ≡ Some e → after ≡ Bad e) → Stays len (told_stage old e) after
told_bad old len (Short at) after same = tt
told_bad old len e after same = same refl

bool_clash : true ≡ false → ⊥
bool_clash e = absurd cc

gate_stays : (small large : Bool) (until len : ℕ) (r s : Result Bundle FsErr) → (small ≡ false → large ≡ false) → (large ≡ false → until ≤ len) → (large ≡ true → len < until) → (small ≡ false → s ≡ r)
    → Stays len (cond small (Info until) (done_stage r)) (cond large (Info until) (done_stage s))
gate_stays true true until len r s more past below same = λ lt. refl
gate_stays true false until len r s more past below same = λ lt. absurd (omega (arith, lt, past refl))
gate_stays false true until len r s more past below same = absurd (bool_clash (more refl))
gate_stays false false until len r s more past below same = same_stays len (done_stage r) (done_stage s) (ap done_stage (same refl))

laid_stays : (total : ℕ) (old piece : List ℕ) (h : faults.Head) (r : Result Sections FsErr) → Stays (length (old ++ piece)) (laid_stage total old h r) (laid_stage total (old ++ piece) h r)
laid_stays total old piece h (Err e) = refl
laid_stays total old piece h (Ok l) =
    let until = l.info + h.stored in
    let len = length-append old piece in
    gate_stays (ltb (length old) until) (ltb (length (old ++ piece)) until) until (length (old ++ piece)) (behind_read total h l old) (behind_read total h l (old ++ piece))
    (λ out. le-ltb _ _ (omega (arith, ltb-false _ _ out, len))) (λ out. ltb-false _ _ out) (λ short. ltb-true _ _ short) (λ out. behind_on total h l old piece (ltb-false _ _ out))

told_is_bad : (bytes : List ℕ) (e : FsErr) → told e ≡ Some e → told_stage bytes e ≡ Bad e
told_is_bad bytes (Short at) is = absurd cc
told_is_bad bytes e is = refl

bad_at : (whole : Bool) (bytes : List ℕ) (e : FsErr) → told e ≡ Some e → cond whole (Bad e) (told_stage bytes e) ≡ Bad e
bad_at true bytes e is = refl
bad_at false bytes e is = told_is_bad bytes e is

err_stays : (whole : Bool) (old : List ℕ) (len : ℕ) (e : FsErr) (after : Stage) → (whole ≡ true → after ≡ Bad e) → (told e ≡ Some e → after ≡ Bad e) → Stays len (cond whole (Bad e) (told_stage old e)) after
err_stays true old len e after all some = all refl
err_stays false old len e after all some = told_bad old len e after some

header_stays : (total : ℕ) (old piece : List ℕ) (r s : Result (faults.Head × ℕ) FsErr) → (length old ≡ total → (s ≡ r) × (length (old ++ piece) ≡ total)) → GoesOn r s (λ x. x)
    → Stays (length (old ++ piece)) (header_stage total old r) (header_stage total (old ++ piece) s)
header_stays total old piece (Ok x) s none goes = subst (λ t. Stays (length (old ++ piece)) (laid_stage total old x.0 (sections_read total x.0 x.1)) (header_stage total (old ++ piece) t)) (sym (goes.value x refl)) (laid_stays total old piece x.0 (sections_read total x.0 x.1))
header_stays total old piece (Err e) s none goes =
    err_stays (eqb (length old) total) old (length (old ++ piece)) e (header_stage total (old ++ piece) s)
    (λ whole. let n = none (eqb-true _ _ whole) in ap (header_stage total (old ++ piece)) n.0 ∙ rw (n.1, eq-eqb total total refl) refl)
    (λ is. ap (header_stage total (old ++ piece)) (goes.fault e is refl) ∙ bad_at (eqb (length (old ++ piece)) total) (old ++ piece) e is)

nothing_more : (bytes more : List ℕ) → length (bytes ++ more) ≤ length bytes → more ≡ []
nothing_more bytes [] len = refl
nothing_more bytes (b ∷ more) len = absurd (omega (arith, len, length-append bytes (b ∷ more)))

pub stage_stays : (total : ℕ) (old piece : List ℕ) → length (old ++ piece) ≤ total → Stays (length (old ++ piece)) (stage_of total old) (stage_of total (old ++ piece))
unfolding stage_of
stage_stays total old piece long =
    header_stays total old piece (header_read old) (header_read (old ++ piece))
    (λ all. let none = nothing_more old piece (omega (arith, all, long)) in let same : old ++ piece ≡ old = ap (λ t. old ++ t) none ∙ append-nil old in (ap header_read same, ap length same ∙ all))
    (header_goes old piece)

pub info_stays : (total until : ℕ) (old piece : List ℕ) → length (old ++ piece) ≤ total → Info until ≡ stage_of total old → length (old ++ piece) < until → Info until ≡ stage_of total (old ++ piece)
info_stays total until old piece long e lt = let stays : Stays (length (old ++ piece)) (Info until) (stage_of total (old ++ piece)) = subst (λ a. Stays (length (old ++ piece)) a (stage_of total (old ++ piece))) (sym e) (stage_stays total old piece long) in sym (stays lt)

pub rest_stays : (total : ℕ) (old piece : List ℕ) → length (old ++ piece) ≤ total → Rest ≡ stage_of total old → Rest ≡ stage_of total (old ++ piece)
rest_stays total old piece long e = let stays : Stays (length (old ++ piece)) Rest (stage_of total (old ++ piece)) = subst (λ a. Stays (length (old ++ piece)) a (stage_of total (old ++ piece))) (sym e) (stage_stays total old piece long) in sym stays

pub bad_stays : (total : ℕ) (f : FsErr) (old piece : List ℕ) → length (old ++ piece) ≤ total → Bad f ≡ stage_of total old → Bad f ≡ stage_of total (old ++ piece)
bad_stays total f old piece long e = let stays : Stays (length (old ++ piece)) (Bad f) (stage_of total (old ++ piece)) = subst (λ a. Stays (length (old ++ piece)) a (stage_of total (old ++ piece))) (sym e) (stage_stays total old piece long) in sym stays

-- ---- the fault of a stage is the early fault

laid_inside : (at_end : Bool) (total stored at gap : ℕ) → gap + stored ≤ total - at → at ≤ total → (laid at_end total stored (at + gap)).info + stored ≤ total
laid_inside true total stored at gap room long = omega (arith, room, long)
laid_inside false total stored at gap room long = omega (arith, room, long)

sections_inside : (total at : ℕ) (h : faults.Head) (l : Sections) → at ≤ total → sections_read total h at ≡ Ok l → l.info + h.stored ≤ total
unfolding sections_read sections_at
sections_inside total at h l long e =
    let tested = bind_ok (unless (header_fault total h) at) _ l e in
    let same = (unless_ok (header_fault total h) at tested.0 tested.1).1 in
    let gap = header_gap h.version tested.0 in
    let passed = guard_ok (ltb (total - tested.0) (gap + h.stored)) (Short total) (laid (is_at_end h.flags) total h.stored (tested.0 + gap)) l tested.2 in
    subst (λ (m : Sections). m.info + h.stored ≤ total) passed.1 (laid_inside (is_at_end h.flags) total h.stored tested.0 gap (omega (arith, ltb-false _ _ passed.0)) (omega (arith, same, long)))

gate_fault : (b : Bool) (until : ℕ) (r : Result Bundle FsErr) → cond b None (fault_of r) ≡ fault_in (cond b (Info until) (done_stage r))
gate_fault true until r = refl
gate_fault false until (Ok b) = refl
gate_fault false until (Err e) = refl

laid_fault : (total : ℕ) (bytes : List ℕ) (h : faults.Head) (r : Result Sections FsErr) → early_behind total bytes h r ≡ fault_in (laid_stage total bytes h r)
laid_fault total bytes h (Err e) = refl
laid_fault total bytes h (Ok l) = gate_fault (ltb (length bytes) (l.info + h.stored)) (l.info + h.stored) (behind_read total h l bytes)

told_fault : (bytes : List ℕ) (e : FsErr) → told e ≡ fault_in (told_stage bytes e)
told_fault bytes (Short at) = refl
told_fault bytes e = refl

part_fault : (total : ℕ) (bytes : List ℕ) (r : Result (faults.Head × ℕ) FsErr) → eqb (length bytes) total ≡ false → early_read total bytes r ≡ fault_in (header_stage total bytes r)
part_fault total bytes (Err e) out = rw out (told_fault bytes e)
part_fault total bytes (Ok x) out = laid_fault total bytes x.0 (sections_read total x.0 x.1)

-- in a file that is whole the blocks info is in
whole_laid : (total : ℕ) (bytes : List ℕ) (h : faults.Head) (r : Result Sections FsErr) → ((l : Sections) → r ≡ Ok l → ltb (length bytes) (l.info + h.stored) ≡ false) → fault_of (r >>= (λ l. behind_read total h l bytes)) ≡ fault_in (laid_stage total bytes h r)
whole_laid total bytes h (Err e) inside = refl
whole_laid total bytes h (Ok l) inside = rw (inside l refl) (gate_fault false 0 (behind_read total h l bytes))

whole_fault : (total : ℕ) (bytes : List ℕ) (r : Result (faults.Head × ℕ) FsErr) → eqb (length bytes) total ≡ true → length bytes ≡ total → ((x : faults.Head × ℕ) → r ≡ Ok x → x.1 ≤ length bytes)
    → fault_of (r >>= (λ x. sections_read total x.0 x.1 >>= (λ l. behind_read total x.0 l bytes))) ≡ fault_in (header_stage total bytes r)
whole_fault total bytes (Err e) all len inside = rw all refl
whole_fault total bytes (Ok x) all len inside = whole_laid total bytes x.0 (sections_read total x.0 x.1) (λ l e. le-ltb _ _ (omega (arith, sections_inside total x.1 x.0 l (omega (arith, inside x refl, len)) e, len)))

header_inside : (bytes : List ℕ) (x : faults.Head × ℕ) → header_read bytes ≡ Ok x → x.1 ≤ length bytes
unfolding header_read
header_inside bytes x e =
    let head = bind_ok (head_at (whole bytes)) _ x e in
    let same = ok_is (head.0.0, place head.0.1) x head.2 in
    subst (λ (y : faults.Head × ℕ). y.1 ≤ length bytes) same (head_inside bytes head.0 head.1)

of_fault : (b : Bool) (total : ℕ) (bytes : List ℕ) → eqb (length bytes) total ≡ b → cond b (fault_of (bundle_read bytes)) (early_read total bytes (header_read bytes)) ≡ fault_in (header_stage total bytes (header_read bytes))
unfolding bundle_read
of_fault true total bytes e =
    ap (λ (n : ℕ). fault_of (header_read bytes >>= (λ x. sections_read n x.0 x.1 >>= (λ l. behind_read n x.0 l bytes)))) (eqb-true _ _ e)
    ∙ whole_fault total bytes (header_read bytes) e (eqb-true _ _ e) (header_inside bytes)
of_fault false total bytes e = part_fault total bytes (header_read bytes) e

pub stage_fault : (total : ℕ) (bytes : List ℕ) → early_of total bytes ≡ fault_in (stage_of total bytes)
unfolding early_of stage_of
stage_fault total bytes = of_fault (eqb (length bytes) total) total bytes refl

-- ---- the same as answers

pub info_after : (total until : ℕ) (stage : Stage) (bytes old piece : List ℕ) → length bytes ≤ total → length bytes < until → stage ≡ Info until → bytes ≡ old ++ piece → stage ≡ stage_of total old → Info until ≡ stage_of total bytes
info_after total until stage bytes old piece long lt is same e =
    subst (λ t. Info until ≡ stage_of total t) (sym same) (info_stays total until old piece (omega (arith, ap length same, long)) (sym is ∙ e) (omega (arith, ap length same, lt)))

pub rest_after : (total : ℕ) (stage : Stage) (bytes old piece : List ℕ) → length bytes ≤ total → stage ≡ Rest → bytes ≡ old ++ piece → stage ≡ stage_of total old → stage ≡ stage_of total bytes
rest_after total stage bytes old piece long is same e =
    subst (λ t. stage ≡ stage_of total t) (sym same) (is ∙ rest_stays total old piece (omega (arith, ap length same, long)) (sym is ∙ e))

pub bad_after : (total : ℕ) (f : FsErr) (stage : Stage) (bytes old piece : List ℕ) → length bytes ≤ total → stage ≡ Bad f → bytes ≡ old ++ piece → stage ≡ stage_of total old → stage ≡ stage_of total bytes
bad_after total f stage bytes old piece long is same e =
    subst (λ t. stage ≡ stage_of total t) (sym same) (is ∙ bad_stays total f old piece (omega (arith, ap length same, long)) (sym is ∙ e))
