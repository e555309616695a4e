-- Lists of images, one place a bundle, as a test says which of them are kept.
use Rattle.std.proofs.Common.{◌≡◌, ◌⊎◌, inl, inr, ℕ, ◌+◌, ◌≤◌, zero, suc, Bool, true, false, List, [], ◌∷◌, map, set, Option, Some, None, is_some, slice_get, refl, sym, ◌∙◌, ap, subst, arith, if◌then◌else◌}
use Rattle.std.proofs.lemmas.Bool.{false≢true}
use Rattle.std.specs.List.{enumerate_from}
use Rattle.addr_base.specs.declared.ids.BundleNo.{BundleNo}
use Rattle.addr_history.proofs.Owed.{numbers}

same_from : (test kept : BundleNo → Bool) (n k : ℕ) → ((m : ℕ) → n ≤ m → test (record { 0 = m }) ≡ kept (record { 0 = m })) → map test (numbers n k) ≡ map kept (numbers n k)
same_from test kept n zero same = refl
same_from test kept n (suc k) same =
    ap (λ t. t ∷ map test (numbers (n + 1) k)) (same n (omega arith)) ∙ ap (λ (l : List Bool). kept (record { 0 = n }) ∷ l) (same_from test kept (n + 1) k (λ m le. same m (omega arith)))

-- lists of images, whatever test says which are kept
module _ {I : Type 0} where
  abbrev pub left_from : (BundleNo → Bool) → ℕ → List (Option I) → List (Option I)
  left_from test n images = map (λ p. if test (record { 0 = p.0 }) then p.1 else None) (enumerate_from n images)

  pub left_all : (test kept : BundleNo → Bool) → ((b : BundleNo) → test b ≡ true → kept b ≡ true) → (images : List (Option I)) (n k : ℕ) → map is_some images ≡ map test (numbers n k) → left_from kept n images ≡ images
  left_all test kept implies [] n k held = refl
  left_all test kept implies (x ∷ images) n zero held = cc
  left_all test kept implies (x ∷ images) n (suc k) held =
      let head : is_some x ≡ test (record { 0 = n }) = cc in
      let tail : map is_some images ≡ map test (numbers (n + 1) k) = cc in
      ap (λ (o : Option I). o ∷ left_from kept (n + 1) images) (at x (kept (record { 0 = n })) (λ some. implies (record { 0 = n }) (sym head ∙ some)))
      ∙ ap (λ (l : List (Option I)). x ∷ l) (left_all test kept implies images (n + 1) k tail)
    where
      at : (y : Option I) (t : Bool) → (is_some y ≡ true → t ≡ true) → (if t then y else None) ≡ y
      at y true implied = refl
      at None false implied = refl
      at (Some v) false implied = absurd (false≢true (implied refl))

  pub held_left : (test kept : BundleNo → Bool) → ((b : BundleNo) → kept b ≡ true → test b ≡ true) → (images : List (Option I)) (n k : ℕ) → map is_some images ≡ map test (numbers n k) → map is_some (left_from kept n images) ≡ map kept (numbers n k)
  held_left test kept implies [] n zero held = refl
  held_left test kept implies [] n (suc k) held = cc
  held_left test kept implies (x ∷ images) n zero held = cc
  held_left test kept implies (x ∷ images) n (suc k) held =
      let head : is_some x ≡ test (record { 0 = n }) = cc in
      let tail : map is_some images ≡ map test (numbers (n + 1) k) = cc in
      ap (λ t. t ∷ map is_some (left_from kept (n + 1) images)) (at x (kept (record { 0 = n })) (λ is. head ∙ implies (record { 0 = n }) is))
      ∙ ap (λ (l : List Bool). kept (record { 0 = n }) ∷ l) (held_left test kept implies images (n + 1) k tail)
    where
      at : (y : Option I) (t : Bool) → (t ≡ true → is_some y ≡ true) → is_some (if t then y else None) ≡ t
      at y true implied = implied refl
      at y false implied = refl

  pub held_set : (test kept : BundleNo → Bool) (v : I) (images : List (Option I)) (j n k : ℕ) → kept (record { 0 = n + j }) ≡ true → ((m : ℕ) → (m ≡ n + j → ⊥) → test (record { 0 = m }) ≡ kept (record { 0 = m })) → map is_some images ≡ map test (numbers n k) → map is_some (set images j (Some v)) ≡ map kept (numbers n k)
  held_set test kept v [] j n zero here same held = refl
  held_set test kept v [] j n (suc k) here same held = cc
  held_set test kept v (x ∷ images) j n zero here same held = cc
  held_set test kept v (x ∷ images) zero n (suc k) here same held =
      let tail : map is_some images ≡ map test (numbers (n + 1) k) = cc in
      let at : n + zero ≡ n = omega arith in
      ap (λ t. t ∷ map is_some images) (sym (subst (λ m. kept (record { 0 = m }) ≡ true) at here))
      ∙ ap (λ (l : List Bool). kept (record { 0 = n }) ∷ l) (tail ∙ same_from test kept (n + 1) k (λ m le. same m (λ is. omega arith)))
  held_set test kept v (x ∷ images) (suc j) n (suc k) here same held =
      let head : is_some x ≡ test (record { 0 = n }) = cc in
      let tail : map is_some images ≡ map test (numbers (n + 1) k) = cc in
      let along : n + suc j ≡ (n + 1) + j = omega arith in
      ap (λ t. t ∷ map is_some (set images j (Some v))) (head ∙ same n (λ is. omega arith))
      ∙ ap (λ (l : List Bool). kept (record { 0 = n }) ∷ l) (held_set test kept v images j (n + 1) k (subst (λ m. kept (record { 0 = m }) ≡ true) along here) (λ m other. same m (λ is. other (is ∙ along))) tail)

  pub fit_left : (kept : BundleNo → Bool) (images : List (Option I)) (n b : ℕ) (image : I) → slice_get (left_from kept n images) b ≡ Some (Some image) → slice_get images b ≡ Some (Some image)
  fit_left kept [] n b image is = cc
  fit_left kept (x ∷ images) n zero image is = at (kept (record { 0 = n })) is
    where
      at : (t : Bool) → Some (if t then x else None) ≡ Some (Some image) → Some x ≡ Some (Some image)
      at true given = given
      at false given = cc
  fit_left kept (x ∷ images) n (suc b) image is = fit_left kept images (n + 1) b image is

  pub fit_set : (v : I) (images : List (Option I)) (j b : ℕ) (image : I) → slice_get (set images j (Some v)) b ≡ Some (Some image) → ((b ≡ j) × (image ≡ v)) ⊎ (slice_get images b ≡ Some (Some image))
  fit_set v [] j b image is = inr is
  fit_set v (x ∷ images) zero zero image is = inl (refl, cc)
  fit_set v (x ∷ images) zero (suc b) image is = inr is
  fit_set v (x ∷ images) (suc j) zero image is = inr is
  fit_set v (x ∷ images) (suc j) (suc b) image is = elim (fit_set v images j b image is) [
    | inl (place, same) ↦ inl (ap suc place, same)
    | inr old ↦ inr old
  ]
