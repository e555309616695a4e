-- What is kept of the bytes that came, and the stage, are those of all bytes that came.
use Rattle.std.proofs.Common.{◌≡◌, ℕ, ◌+◌, ◌-◌, Bool, true, false, cond, eqb, List, [], ◌++◌, length, take, Some, Result, Ok, Err, refl, sym, ap, ◌∙◌, append_assoc, arith, length-take, inl, inr}
use Rattle.std.proofs.lemmas.Bool.{cases_lt, eqb-true, false_from_ne_true}
use Rattle.std.proofs.lemmas.List.{append-nil, take-append-le, take_all}
use Rattle.std.proofs.Math.Seq.{take-append-add}
use Rattle.addr_unityfs.specs.declared.bundle.Bundle.{Bundle}
use Rattle.addr_unityfs.specs.declared.error.FsErr.{FsErr}
use Rattle.addr_unityfs.specs.declared.error.FsErr.TheVariants.{Short}
use Rattle.addr_unityfs.specs.declared.stage.Stage.{Stage}
use Rattle.addr_unityfs.specs.declared.stage.Stage.TheVariants.{Head, Info, Rest, Bad}
use Rattle.addr_unityfs.specs.Faults.{signature_at, head_at, header_read, bundle_read}
use Rattle.addr_unityfs.specs.Early.{early_at}
use Rattle.addr_unityfs.specs.within.Stages.{start_at, in_text, stage_of, fault_in, is_bad}
use Rattle.addr_unityfs.specs.Arriving.{read_with}
use Rattle.addr_unityfs.specs.within.Kept.{Kept, kept_with}
use Rattle.addr_unityfs.proofs.EarlyLaws.{early_is_first}
use Rattle.addr_unityfs.proofs.StageLaws.{bad_stays, stage_fault}

pub take-append : (n : ℕ) (xs ys : List ℕ) → take n (xs ++ ys) ≡ take n xs ++ take (n - length xs) ys
take-append n xs ys =
    elim (cases_lt n (length xs)) [
      | inl lt ↦ let none : 0 ≡ n - length xs = omega (arith, lt) in take-append-le n xs ys (omega (arith, lt)) ∙ (sym (append-nil (take n xs)) ∙ ap (λ (k : ℕ). take n xs ++ take k ys) none)
      | inr le ↦ let k : length xs + (n - length xs) ≡ n = omega (arith, le) in ap (λ (m : ℕ). take m (xs ++ ys)) (sym k) ∙ (take-append-add xs ys (n - length xs) ∙ ap (λ (t : List ℕ). t ++ take (n - length xs) ys) (sym (take_all n xs le)))
    ]

clash : true ≡ false → ⊥
clash e = absurd cc

kept_cases : (b : Bool) (total : ℕ) (stage next : Stage) (kept new fed piece : List ℕ) → is_bad stage ≡ b → stage ≡ stage_of total kept → next ≡ stage_of total new → new ≡ cond b kept (kept ++ take (total - length kept) piece) → Kept total stage kept fed → Kept total next new (fed ++ piece)
kept_cases true total stage next kept new fed piece bad is becomes items k = record {
  rest = k.rest ++ take (total - length fed) piece;
  parts = take-append total fed piece ∙ (ap (λ (t : List ℕ). t ++ take (total - length fed) piece) k.parts ∙ (append_assoc kept k.rest (take (total - length fed) piece) ∙ ap (λ (t : List ℕ). t ++ (k.rest ++ take (total - length fed) piece)) (sym items)));
  all = λ good. absurd (clash (sym bad ∙ (ap is_bad (is ∙ (ap (stage_of total) (sym items) ∙ sym becomes)) ∙ good)));
}
kept_cases false total stage next kept new fed piece good is becomes items k =
    let front : take total fed ≡ kept = k.parts ∙ (ap (λ (t : List ℕ). kept ++ t) (k.all good) ∙ append-nil kept) in
    let room : total - length kept ≡ total - length fed = omega (arith, ap length front, length-take total fed) in
    record {
      rest = [];
      parts = take-append total fed piece ∙ (ap (λ (t : List ℕ). t ++ take (total - length fed) piece) front ∙ (ap (λ (n : ℕ). kept ++ take n piece) (sym room) ∙ (sym items ∙ sym (append-nil new))));
      all = λ g. refl;
    }

pub kept_more : (total : ℕ) (stage next : Stage) (kept new fed piece : List ℕ) → stage ≡ stage_of total kept → next ≡ stage_of total new → new ≡ kept_with stage total kept piece → Kept total stage kept fed → Kept total next new (fed ++ piece)
kept_more total stage next kept new fed piece is becomes items k = kept_cases (is_bad stage) total stage next kept new fed piece refl is becomes items k

good_stage : (total : ℕ) (stage : Stage) (kept fed : List ℕ) → is_bad stage ≡ false → Kept total stage kept fed → stage ≡ stage_of total kept → stage ≡ stage_of total (take total fed)
good_stage total stage kept fed good k is = is ∙ ap (stage_of total) (sym (k.parts ∙ (ap (λ (t : List ℕ). kept ++ t) (k.all good) ∙ append-nil kept)))

kept_stage : (total : ℕ) (stage : Stage) (kept fed : List ℕ) → Kept total stage kept fed → stage ≡ stage_of total kept → stage ≡ stage_of total (take total fed)
kept_stage total (Head text) kept fed k is = good_stage total (Head text) kept fed refl k is
kept_stage total (Info until) kept fed k is = good_stage total (Info until) kept fed refl k is
kept_stage total Rest kept fed k is = good_stage total Rest kept fed refl k is
kept_stage total (Bad f) kept fed k is = bad_stays total f kept k.rest (omega (arith, ap length k.parts, length-take total fed)) is ∙ ap (stage_of total) (sym k.parts)

pub early_exact : (total : ℕ) (stage : Stage) (kept fed : List ℕ) → Kept total stage kept fed → stage ≡ stage_of total kept → fault_in stage ≡ early_at total fed
early_exact total stage kept fed k is = ap fault_in (kept_stage total stage kept fed k is) ∙ sym (stage_fault total (take total fed))

pub early_first : (total : ℕ) (stage : Stage) (kept fed more : List ℕ) (e : FsErr) → Kept total stage kept fed → stage ≡ stage_of total kept → fault_in stage ≡ Some e → length (take total fed ++ more) ≡ total → bundle_read (take total fed ++ more) ≡ Err e
early_first total stage kept fed more e k is told len = early_is_first total fed more e len (sym (early_exact total stage kept fed k is) ∙ told)

pub first_bad : Bad (Short 0) ≡ stage_of 0 []
unfolding stage_of header_read head_at signature_at
first_bad = refl

pub first_head : (total : ℕ) → (total ≡ 0 → ⊥) → Head false ≡ stage_of total []
unfolding stage_of header_read head_at signature_at in_text start_at
first_head total some = let out : eqb 0 total ≡ false = false_from_ne_true _ (λ yes. some (sym (eqb-true _ _ yes))) in rw out refl

-- ---- a file that came whole

abbrev pub ok_of : {E X : Type 0} → X → Result X E
ok_of x = Ok x

ok_same : {X E : Type 0} (x y : X) → ok_of {E = E} x ≡ ok_of y → x ≡ y
ok_same x y e = cc

kept_whole : (total : ℕ) (stage : Stage) (kept fed : List ℕ) → length fed ≡ total → is_bad stage ≡ false → Kept total stage kept fed → kept ≡ fed
kept_whole total stage kept fed len good k = sym (append-nil kept) ∙ (ap (λ (t : List ℕ). kept ++ t) (sym (k.all good)) ∙ (sym k.parts ∙ take_all total fed (omega (arith, len))))

good_read : (total : ℕ) (stage : Stage) (kept fed : List ℕ) (read : Result (List ℕ × Bundle) FsErr) → length fed ≡ total → is_bad stage ≡ false → Kept total stage kept fed → read ≡ read_with kept (bundle_read kept) → read ≡ read_with fed (bundle_read fed)
good_read total stage kept fed read len good k is = is ∙ ap (λ (t : List ℕ). read_with t (bundle_read t)) (kept_whole total stage kept fed len good k)

bad_read : (total : ℕ) (f : FsErr) (kept fed : List ℕ) → length fed ≡ total → Kept total (Bad f) kept fed → Bad f ≡ stage_of total kept → bundle_read fed ≡ Err f
bad_read total f kept fed len k is =
    let whole : take total fed ++ [] ≡ fed = append-nil (take total fed) ∙ take_all total fed (omega (arith, len)) in
    ap bundle_read (sym whole) ∙ early_first total (Bad f) kept fed [] f k is refl (ap length whole ∙ len)

pub whole_read : {E : Type 0} (total : ℕ) (stage : Stage) (kept fed : List ℕ) (read : Result (List ℕ × Bundle) FsErr) → length fed ≡ total → stage ≡ stage_of total kept → Kept total stage kept fed
    → ((e : FsErr) → stage ≡ Bad e → ok_of {E = E} read ≡ ok_of (Err e)) → (is_bad stage ≡ false → read ≡ read_with kept (bundle_read kept)) → read ≡ read_with fed (bundle_read fed)
whole_read total (Head text) kept fed read len is k bad good = good_read total (Head text) kept fed read len refl k (good refl)
whole_read total (Info until) kept fed read len is k bad good = good_read total (Info until) kept fed read len refl k (good refl)
whole_read total Rest kept fed read len is k bad good = good_read total Rest kept fed read len refl k (good refl)
whole_read total (Bad f) kept fed read len is k bad good = ok_same read (Err f) (bad f refl) ∙ ap (read_with fed) (sym (bad_read total f kept fed len k is))
