-- The images that a Release lets go, found by the bundles of its operation alone.
use Rattle.std.proofs.Common.{◌≡◌, inl, inr, ℕ, ◌+◌, ◌<◌, zero, suc, Bool, true, false, ◌&&◌, ◌||◌, not, eqb, List, [], ◌∷◌, length, map, set, get_or, Option, Some, None, is_some, refl, sym, ◌∙◌, ap, arith, if◌then◌else◌}
use Rattle.std.proofs.lemmas.Bool.{false≢true, eq-eqb, ne_eqb, cases_eq}
use Rattle.std.proofs.lemmas.List.{length-set, length-map, get_or-set_same, get_or-set_other, same_lists}
use Rattle.std.proofs.lemmas.List.FromFn.{length-enumerate_from}
use Rattle.std.specs.List.{list_any, enumerate_from}
use Rattle.addr_base.specs.declared.ids.BundleNo.{BundleNo}
use Rattle.addr_locate.specs.Rows.{Rows, no_repeats}
use Rattle.addr_history.specs.declared.event.Event.{Event}
use Rattle.addr_history.specs.Events.{is_in}
use Rattle.addr_history.specs.Places.{is_resident, bundles_of}
use Rattle.addr_history.proofs.Owed.{numbers}
use Rattle.addr_core.specs.Machine.{images_left}
use Rattle.addr_core.proofs.Keeping.{left_from}
use Rattle.addr_queue.specs.Changes.{change_each, cleared_each}
use Rattle.addr_queue.proofs.Changing.{length_cleared}
use Rattle.addr_queue.specs.declared.slots.Slot.{Slot}
use Rattle.addr_core.specs.within.Kept.{AreSlots}
use Rattle.addr_queue.specs.Slots.{passes, is_missing, let_go}
use Rattle.addr_queue.specs.Changes.{cleared_each}
use Rattle.addr_core.proofs.Nows.{slot_at, missing_at}
use Rattle.addr_core.proofs.SlotSteps.{changed_once}

module _ {I : Type 0} where
  cleared_at : (test : BundleNo → Bool) (needs : List BundleNo) (images : List (Option I)) (k : ℕ) (d : Option I) → k < length images → get_or (cleared_each None test needs images) k d ≡ (if list_any (λ (c : BundleNo). eqb c.0 k) needs && test (record { 0 = k }) then None else get_or images k d)
  cleared_at test [] images k d lt = refl
  cleared_at test (b ∷ needs) images k d lt =
      cleared_at test needs (if test b then set images b.0 None else images) k d (within (test b))
      ∙ elim (cases_eq b.0 k) [
        | inl same ↦ here same (test (record { 0 = k })) refl
        | inr other ↦
            ap (λ (o : Option I). if list_any (λ (c : BundleNo). eqb c.0 k) needs && test (record { 0 = k }) then None else o) (off other (test b))
            ∙ ap (λ t. let o : Option I = if (t || list_any (λ (c : BundleNo). eqb c.0 k) needs) && test (record { 0 = k }) then None else get_or images k d in o) (sym (ne_eqb b.0 k other))
      ]
    where
      within : (t : Bool) → k < length (if t then set images b.0 None else images)
      within true = omega (arith, length-set images b.0 None)
      within false = lt

      off : (b.0 ≡ k → ⊥) → (t : Bool) → get_or (if t then set images b.0 None else images) k d ≡ get_or images k d
      off other true = get_or-set_other images b.0 k None d (λ same. other (sym same))
      off other false = refl

      either : (s : Bool) → (let o : Option I = if s && true then None else None in o) ≡ None
      either true = refl
      either false = refl

      neither : (s : Bool) (o : Option I) → (if s && false then None else o) ≡ o
      neither true o = refl
      neither false o = refl

      here : b.0 ≡ k → (t : Bool) → test (record { 0 = k }) ≡ t → (if list_any (λ (c : BundleNo). eqb c.0 k) needs && test (record { 0 = k }) then None else get_or (if test b then set images b.0 None else images) k d) ≡ (if (eqb b.0 k || list_any (λ (c : BundleNo). eqb c.0 k) needs) && test (record { 0 = k }) then None else get_or images k d)
      here same t is = by t is (ap (λ n. test (let r : BundleNo = record { 0 = n } in r)) same ∙ is)
        where
          by : (t : Bool) → test (record { 0 = k }) ≡ t → test b ≡ t → (if list_any (λ (c : BundleNo). eqb c.0 k) needs && test (record { 0 = k }) then None else get_or (if test b then set images b.0 None else images) k d) ≡ (if (eqb b.0 k || list_any (λ (c : BundleNo). eqb c.0 k) needs) && test (record { 0 = k }) then None else get_or images k d)
          by true one two =
              ap (λ t. let o : Option I = if list_any (λ (c : BundleNo). eqb c.0 k) needs && t then None else get_or (if test b then set images b.0 None else images) k d in o) one
              ∙ ap (λ t. let o : Option I = if list_any (λ (c : BundleNo). eqb c.0 k) needs && true then None else get_or (if t then set images b.0 None else images) k d in o) two
              ∙ ap (λ n. let o : Option I = if list_any (λ (c : BundleNo). eqb c.0 k) needs && true then None else get_or (set images n None) k d in o) same
              ∙ ap (λ (o : Option I). if list_any (λ (c : BundleNo). eqb c.0 k) needs && true then None else o) (get_or-set_same images k None d lt)
              ∙ either (list_any (λ (c : BundleNo). eqb c.0 k) needs)
              ∙ sym (ap (λ t. let o : Option I = if (t || list_any (λ (c : BundleNo). eqb c.0 k) needs) && test (record { 0 = k }) then None else get_or images k d in o) (eq-eqb b.0 k same) ∙ ap (λ t. let o : Option I = if t then None else get_or images k d in o) one)
          by false one two =
              ap (λ t. let o : Option I = if list_any (λ (c : BundleNo). eqb c.0 k) needs && t then None else get_or (if test b then set images b.0 None else images) k d in o) one
              ∙ neither (list_any (λ (c : BundleNo). eqb c.0 k) needs) (get_or (if test b then set images b.0 None else images) k d)
              ∙ ap (λ t. get_or (let l : List (Option I) = if t then set images b.0 None else images in l) k d) two
              ∙ sym (ap (λ t. let o : Option I = if (eqb b.0 k || list_any (λ (c : BundleNo). eqb c.0 k) needs) && t then None else get_or images k d in o) one ∙ neither (eqb b.0 k || list_any (λ (c : BundleNo). eqb c.0 k) needs) (get_or images k d))

  left_at : (kept : BundleNo → Bool) (n : ℕ) (images : List (Option I)) (k : ℕ) (d : Option I) → k < length images → get_or (left_from kept n images) k d ≡ (if kept (record { 0 = n + k }) then get_or images k d else None)
  left_at kept n [] k d lt = absurd (omega arith)
  left_at kept n (x ∷ images) zero d lt = let at : n ≡ n + zero = omega arith in ap (λ m. let o : Option I = if kept (record { 0 = m }) then x else None in o) at
  left_at kept n (x ∷ images) (suc k) d lt = let at : (n + 1) + k ≡ n + suc k = omega arith in left_at kept (n + 1) images k d (omega arith) ∙ ap (λ m. let o : Option I = if kept (record { 0 = m }) then get_or images k d else None in o) at

  length_left : (kept : BundleNo → Bool) (n : ℕ) (images : List (Option I)) → length (left_from kept n images) ≡ length images
  length_left kept n images = length-map (enumerate_from n images) (λ p. if kept (record { 0 = p.0 }) then p.1 else None) ∙ length-enumerate_from n images

  held_at : (test : BundleNo → Bool) (n m : ℕ) (images : List (Option I)) (k : ℕ) (d : Option I) → map is_some images ≡ map test (numbers n m) → k < length images → is_some (get_or images k d) ≡ test (record { 0 = n + k })
  held_at test n m [] k d held lt = absurd (omega arith)
  held_at test n zero (x ∷ images) k d held lt = cc
  held_at test n (suc m) (x ∷ images) zero d held lt = let at : n ≡ n + zero = omega arith in (let head : is_some x ≡ test (record { 0 = n }) = cc in head) ∙ ap (λ i. test (let r : BundleNo = record { 0 = i } in r)) at
  held_at test n (suc m) (x ∷ images) (suc k) d held lt =
      let tail : map is_some images ≡ map test (numbers (n + 1) m) = cc in
      let at : (n + 1) + k ≡ n + suc k = omega arith in
      held_at test (n + 1) m images k d tail (omega arith) ∙ ap (λ i. test (let r : BundleNo = record { 0 = i } in r)) at

  none_there : (o : Option I) → is_some o ≡ false → o ≡ None
  none_there None is = refl
  none_there (Some x) is = absurd (false≢true (sym is))

  -- clearing those of some bundles that aren't resident leaves the images of the resident ones, where no other bundle's place changed
  pub cleared_left : (test was now : BundleNo → Bool) (needs : List BundleNo) (m : ℕ) (images : List (Option I)) → length images ≡ m → map is_some images ≡ map was (numbers 0 m)
      → ((b : BundleNo) → b.0 < m → is_in b needs ≡ true → test b ≡ not (now b)) → ((b : BundleNo) → b.0 < m → is_in b needs ≡ false → now b ≡ was b)
      → cleared_each None test needs images ≡ left_from now 0 images
  cleared_left test was now needs m images long held needed other =
      same_lists (cleared_each None test needs images) (left_from now 0 images) (length_cleared None test needs images ∙ sym (length_left now 0 images)) (λ k d lt. at k d (omega (arith, length_cleared None test needs images)))
    where
      at : (k : ℕ) (d : Option I) → k < length images → get_or (cleared_each None test needs images) k d ≡ get_or (left_from now 0 images) k d
      at k d lt =
          cleared_at test needs images k d lt
          ∙ by (is_in (record { 0 = k }) needs) refl (now (record { 0 = k })) refl
          ∙ sym (left_at now 0 images k d lt ∙ (let zero_k : 0 + k ≡ k = omega arith in ap (λ i. let o : Option I = if now (record { 0 = i }) then get_or images k d else None in o) zero_k))
        where
          by : (s : Bool) → is_in (record { 0 = k }) needs ≡ s → (t : Bool) → now (record { 0 = k }) ≡ t → (if list_any (λ (c : BundleNo). eqb c.0 k) needs && test (record { 0 = k }) then None else get_or images k d) ≡ (if now (record { 0 = k }) then get_or images k d else None)
          by true there t is = ap (λ s. let o : Option I = if s && test (record { 0 = k }) then None else get_or images k d in o) there ∙ ap (λ s. let o : Option I = if s then None else get_or images k d in o) (needed (record { 0 = k }) (omega arith) there) ∙ flip (now (record { 0 = k }))
            where
              flip : (s : Bool) → (if not s then None else get_or images k d) ≡ (if s then get_or images k d else None)
              flip true = refl
              flip false = refl
          by false out true is = ap (λ s. let o : Option I = if s && test (record { 0 = k }) then None else get_or images k d in o) out ∙ sym (ap (λ s. let o : Option I = if s then get_or images k d else None in o) is)
          by false out false is =
              ap (λ s. let o : Option I = if s && test (record { 0 = k }) then None else get_or images k d in o) out
              ∙ none_there (get_or images k d) (held_at was 0 m images k d held lt ∙ (let zero_k : 0 + k ≡ k = omega arith in ap (λ i. was (let r : BundleNo = record { 0 = i } in r)) zero_k) ∙ sym (other (record { 0 = k }) (omega arith) out) ∙ is)
              ∙ sym (ap (λ s. let o : Option I = if s then get_or images k d else None in o) is)

-- what a release lets go
pub released_images : {I : Type 0} (rows : Rows) (h g : List Event) (slots : List Slot) (needs : List BundleNo) (images : List (Option I)) → no_repeats needs ≡ true → AreSlots rows h slots → AreSlots rows g (change_each let_go (map (λ (b : BundleNo). b.0) needs) slots) → length images ≡ length rows.bundles → map is_some images ≡ map (is_resident rows h) (bundles_of rows)
    → cleared_each None (passes is_missing (change_each let_go (map (λ (b : BundleNo). b.0) needs) slots)) needs images ≡ images_left rows g images
released_images rows h g slots needs images once before after long held =
    cleared_left (passes is_missing slots2) (is_resident rows h) (is_resident rows g) needs (length rows.bundles) images long held
    (λ b lt there. missing_at rows g slots2 after b lt)
    (λ b lt out.
    let slot = slot_at rows g slots2 after b lt in
    let old = changed_once let_go needs slots b.0 slot.0 once slot.1.0 in
    let same : old.0 ≡ slot.0 = ap (λ t. let s : Slot = if t then let_go old.0 else old.0 in s) (sym out) ∙ old.1.1 in
    sym slot.1.1.resident ∙ ap (λ (s : Slot). s.resident) (sym same) ∙ (before.each b old.0 old.1.0).resident)
  where
    slots2 : List Slot
    slots2 = change_each let_go (map (λ (b : BundleNo). b.0) needs) slots
