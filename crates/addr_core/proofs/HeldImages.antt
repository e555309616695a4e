-- The images that a core holds: as a list of tests, and none of a bundle that nobody needs.
use Rattle.std.proofs.Common.{◌≡◌, inl, inr, ℕ, ◌+◌, zero, suc, Bool, false, ltb, List, [], ◌∷◌, length, map, Option, Some, None, slice_get, is_some, sym, ◌∙◌, ap, arith}
use Rattle.std.proofs.lemmas.Bool.{false≢true, cases_Bool}
use Rattle.addr_base.specs.declared.ids.BundleNo.{BundleNo}
use Rattle.addr_base.specs.declared.ids.Digest.{Digest}
use Rattle.addr_locate.specs.Rows.{Rows}
use Rattle.addr_history.specs.declared.event.Event.{Event}
use Rattle.addr_history.specs.Legal.{Legal}
use Rattle.addr_history.specs.Places.{is_resident, bundles_of}
use Rattle.addr_history.proofs.CountSteps.{resident_counted}
use Rattle.addr_history.proofs.Owed.{numbers}
use Rattle.addr_core.specs.Machine.{HasImages, IdleHaveNone}
use Rattle.addr_core.proofs.Advance.{machine, images_length}
use Rattle.addr_queue.proofs.Changing.{slice_there}

pub images_held : {I : Type 0} (fits : I → ℕ → Digest → Type 0) (rows : Rows) (limit : ℕ) (h : List Event) (images : List (Option I)) → HasImages (machine fits rows limit h images) → map is_some images ≡ map (is_resident rows h) (bundles_of rows)
unfolding HasImages
images_held fits rows limit h images held = held

pub held_place : {I : Type 0} (test : BundleNo → Bool) (n m : ℕ) (images : List (Option I)) (k : ℕ) (o : Option I) → map is_some images ≡ map test (numbers n m) → slice_get images k ≡ Some o → is_some o ≡ test (record { 0 = n + k })
held_place test n m [] k o held is = cc
held_place test n zero (x ∷ images) k o held is = cc
held_place test n (suc m) (x ∷ images) zero o held is =
    let at : n ≡ n + zero = omega arith in
    let head : is_some x ≡ test (record { 0 = n }) = cc in
    let same : o ≡ x = cc in
    ap is_some same ∙ head ∙ ap (λ i. test (let r : BundleNo = record { 0 = i } in r)) at
held_place test n (suc m) (x ∷ images) (suc k) o held is =
    let tail : map is_some images ≡ map test (numbers (n + 1) m) = cc in
    let at : (n + 1) + k ≡ n + suc k = omega arith in
    held_place test (n + 1) m images k o tail is ∙ ap (λ i. test (let r : BundleNo = record { 0 = i } in r)) at

pub idle_have_none : {I : Type 0} (fits : I → ℕ → Digest → Type 0) (rows : Rows) (limit : ℕ) (h : List Event) (images : List (Option I)) → Legal rows limit h → HasImages (machine fits rows limit h images) → IdleHaveNone (machine fits rows limit h images)
unfolding IdleHaveNone
idle_have_none {I} fits rows limit h images legal held b lt uncounted =
    let there = slice_there images b.0 (omega (arith, images_length fits rows limit h images held)) in
    there.1 ∙ ap (λ (o : Option I). Some o) (empty there.0 (held_place (is_resident rows h) 0 (length rows.bundles) images b.0 there.0 (images_held fits rows limit h images held) there.1 ∙ ap (λ n. is_resident rows h (let r : BundleNo = record { 0 = n } in r)) (let at : 0 + b.0 ≡ b.0 = omega arith in at) ∙ gone))
  where
    gone : is_resident rows h b ≡ false
    gone = elim (cases_Bool (is_resident rows h b)) [
      | inl is ↦ absurd (false≢true (sym (ap (ltb 0) uncounted) ∙ resident_counted rows limit h legal b is))
      | inr none ↦ none
    ]

    empty : (o : Option I) → is_some o ≡ false → o ≡ None
    empty None is = cc
    empty (Some x) is = absurd (false≢true (sym is))
