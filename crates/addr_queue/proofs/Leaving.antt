-- Bundles that leave a line or join it, one after another.
use Rattle.std.proofs.Common.{◌≡◌, inl, inr, ℕ, ◌+◌, ◌<◌, Bool, true, false, ◌&&◌, ◌||◌, not, eqb, List, [], ◌∷◌, ◌++◌, length, filter, drop, get_or, refl, sym, ◌∙◌, ap, append_assoc, if◌then◌else◌}
use Rattle.std.proofs.lemmas.Bool.{false≢true, and_parts, and_from, eqb-true, eq-eqb, ne_eqb, not-true, cases_Bool}
use Rattle.std.proofs.lemmas.List.{drop_more, append-nil}
use Rattle.std.proofs.lemmas.List.Elements.{filter_agree}
use Rattle.std.proofs.lemmas.List.Folds.{list_any-append}
use Rattle.std.specs.List.{list_any}
use Rattle.addr_base.specs.declared.ids.BundleNo.{BundleNo}
use Rattle.addr_locate.specs.Rows.{no_repeats}
use Rattle.addr_history.specs.Events.{is_in}
use Rattle.addr_history.proofs.Ranges.{same_bundle}
use Rattle.addr_queue.specs.Slots.{left_each, joined_each}
use Rattle.addr_history.proofs.QueueSteps.{in_filter, filter_filter}

right : (s : Bool) {t : Bool} → t ≡ true → (s || t) ≡ true
right true is = refl
right false is = is

pub head_in : (b : BundleNo) (bs : List BundleNo) → is_in b (b ∷ bs) ≡ true
head_in b bs = ap (λ t. t || is_in b bs) (eq-eqb b.0 b.0 refl)

-- one of a list isn't the one before it, where none stands twice
pub other_one : (b c : BundleNo) (bs : List BundleNo) → is_in b bs ≡ false → is_in c bs ≡ true → eqb c.0 b.0 ≡ false
other_one b c bs out there = ne_eqb c.0 b.0 (λ same. false≢true (sym out ∙ ap (λ n. list_any (λ (d : BundleNo). eqb d.0 n) bs) (sym same) ∙ there))

module _ (test : BundleNo → Bool) where
  abbrev left_by : BundleNo → List BundleNo → List BundleNo
  left_by b order = if test b then filter (λ c. not (eqb c.0 b.0)) order else order

  abbrev joined_by : BundleNo → List BundleNo → List BundleNo
  joined_by b order = if test b then order ++ b ∷ [] else order

  stays_in : (b c : BundleNo) (order : List BundleNo) → eqb c.0 b.0 ≡ false → is_in c order ≡ true → is_in c (left_by b order) ≡ true
  stays_in b c order other there = by (test b)
    where
      by : (t : Bool) → is_in c (if t then filter (λ d. not (eqb d.0 b.0)) order else order) ≡ true
      by true = in_filter c (λ d. not (eqb d.0 b.0)) order ∙ and_from (is_in c order) (not (eqb c.0 b.0)) there (ap not other)
      by false = there

  stays_out : (b c : BundleNo) (order : List BundleNo) → eqb c.0 b.0 ≡ false → is_in c order ≡ false → is_in c (joined_by b order) ≡ false
  stays_out b c order other out = by (test b)
    where
      turned : eqb b.0 c.0 ≡ false
      turned = ne_eqb b.0 c.0 (λ same. false≢true (sym other ∙ eq-eqb c.0 b.0 (sym same)))

      by : (t : Bool) → is_in c (if t then order ++ b ∷ [] else order) ≡ false
      by true = list_any-append (λ d. eqb d.0 c.0) order (b ∷ []) ∙ ap (λ t. t || (eqb b.0 c.0 || false)) out ∙ ap (λ t. t || false) turned
      by false = out

  pub leave_step : (needs : List BundleNo) (i : ℕ) (d : BundleNo) (order : List BundleNo) → i < length needs → no_repeats (drop i needs) ≡ true → ((b : BundleNo) → is_in b (drop i needs) ≡ true → test b ≡ true → is_in b order ≡ true)
      → (no_repeats (drop (i + 1) needs) ≡ true) × ((b : BundleNo) → is_in b (drop (i + 1) needs) ≡ true → test b ≡ true → is_in b (left_by (get_or needs i d) order) ≡ true) × (left_each test (drop (i + 1) needs) (left_by (get_or needs i d) order) ≡ left_each test (drop i needs) order)
  leave_step needs i d order lt once there =
      let b = get_or needs i d in
      let bs = drop (i + 1) needs in
      let is : drop i needs ≡ b ∷ bs = drop_more needs i d lt in
      let parts = and_parts (not (is_in b bs)) (no_repeats bs) (sym (ap no_repeats is) ∙ once) in (
        parts.1,
        λ c in_bs passes. stays_in b c order (other_one b c bs (not-true (is_in b bs) parts.0) in_bs) (there c (ap (is_in c) is ∙ right (eqb b.0 c.0) in_bs) passes),
        sym (ap (λ (l : List BundleNo). left_each test l order) is),
      )

  pub leave_head : (needs : List BundleNo) (i : ℕ) (d : BundleNo) (order : List BundleNo) → i < length needs → ((b : BundleNo) → is_in b (drop i needs) ≡ true → test b ≡ true → is_in b order ≡ true) → test (get_or needs i d) ≡ true → is_in (get_or needs i d) order ≡ true
  leave_head needs i d order lt there passes = there (get_or needs i d) (ap (is_in (get_or needs i d)) (drop_more needs i d lt) ∙ head_in (get_or needs i d) (drop (i + 1) needs)) passes

  pub head_within : (P : BundleNo → Type 0) (needs : List BundleNo) (i : ℕ) (d : BundleNo) → i < length needs → ((b : BundleNo) → is_in b (drop i needs) ≡ true → P b) → P (get_or needs i d)
  head_within P needs i d lt all = all (get_or needs i d) (ap (is_in (get_or needs i d)) (drop_more needs i d lt) ∙ head_in (get_or needs i d) (drop (i + 1) needs))

  pub rest_within : (P : BundleNo → Type 0) (needs : List BundleNo) (i : ℕ) (d : BundleNo) → i < length needs → ((b : BundleNo) → is_in b (drop i needs) ≡ true → P b) → (b : BundleNo) → is_in b (drop (i + 1) needs) ≡ true → P b
  rest_within P needs i d lt all b there = all b (ap (is_in b) (drop_more needs i d lt) ∙ right (eqb (get_or needs i d).0 b.0) there)

  pub join_step : (needs : List BundleNo) (i : ℕ) (d : BundleNo) (order : List BundleNo) → i < length needs → no_repeats (drop i needs) ≡ true → ((b : BundleNo) → is_in b (drop i needs) ≡ true → test b ≡ true → is_in b order ≡ false)
      → (no_repeats (drop (i + 1) needs) ≡ true) × ((b : BundleNo) → is_in b (drop (i + 1) needs) ≡ true → test b ≡ true → is_in b (joined_by (get_or needs i d) order) ≡ false) × (joined_each test (drop (i + 1) needs) (joined_by (get_or needs i d) order) ≡ joined_each test (drop i needs) order)
  join_step needs i d order lt once new =
      let b = get_or needs i d in
      let bs = drop (i + 1) needs in
      let is : drop i needs ≡ b ∷ bs = drop_more needs i d lt in
      let parts = and_parts (not (is_in b bs)) (no_repeats bs) (sym (ap no_repeats is) ∙ once) in (
        parts.1,
        λ c in_bs passes. stays_out b c order (other_one b c bs (not-true (is_in b bs) parts.0) in_bs) (new c (ap (is_in c) is ∙ right (eqb b.0 c.0) in_bs) passes),
        sym (ap (λ (l : List BundleNo). joined_each test l order) is),
      )

  -- all at once
  pub left_is : (needs order : List BundleNo) → left_each test needs order ≡ filter (λ c. not (is_in c needs && test c)) order
  left_is [] order = all order
    where
      all : (bs : List BundleNo) → bs ≡ filter (λ c. true) bs
      all [] = refl
      all (b ∷ bs) = ap (λ (l : List BundleNo). b ∷ l) (all bs)
  left_is (b ∷ needs) order = left_is needs (left_by b order) ∙ by (test b) refl
    where
      both : (s t u : Bool) → (not s && not (t && u)) ≡ not ((s && true) || (t && u))
      both true t u = refl
      both false t u = refl

      turned : (x y : ℕ) → eqb x y ≡ eqb y x
      turned x y = elim (cases_Bool (eqb y x)) [
        | inl is ↦ swap is ∙ sym is
        | inr not_it ↦ ne_eqb x y (λ same. false≢true (sym not_it ∙ eq-eqb y x (sym same))) ∙ sym not_it
      ]
        where
          swap : eqb y x ≡ true → eqb x y ≡ true
          swap is = eq-eqb x y (sym (eqb-true y x is))

      at_true : (c : BundleNo) → test b ≡ true → (not (eqb c.0 b.0) && not (is_in c needs && test c)) ≡ not ((eqb b.0 c.0 || is_in c needs) && test c)
      at_true c passes = elim (cases_Bool (eqb b.0 c.0)) [
        | inl same ↦
            let it : test c ≡ true = ap test (sym (same_bundle b c same)) ∙ passes in
            ap (λ t. not t && not (is_in c needs && test c)) (turned c.0 b.0 ∙ same) ∙ sym (ap (λ t. not ((t || is_in c needs) && test c)) same ∙ ap not it)
        | inr other ↦ ap (λ t. not t && not (is_in c needs && test c)) (turned c.0 b.0 ∙ other) ∙ sym (ap (λ t. not ((t || is_in c needs) && test c)) other)
      ]

      at_false : (c : BundleNo) → test b ≡ false → not (is_in c needs && test c) ≡ not ((eqb b.0 c.0 || is_in c needs) && test c)
      at_false c fails = elim (cases_Bool (eqb b.0 c.0)) [
        | inl same ↦
            let it : test c ≡ false = ap test (sym (same_bundle b c same)) ∙ fails in
            ap (λ t. not (is_in c needs && t)) it ∙ off (is_in c needs) ∙ sym (ap (λ t. not ((eqb b.0 c.0 || is_in c needs) && t)) it ∙ off (eqb b.0 c.0 || is_in c needs))
        | inr other ↦ sym (ap (λ t. not ((t || is_in c needs) && test c)) other)
      ]
        where
          off : (t : Bool) → not (t && false) ≡ true
          off true = refl
          off false = refl

      by : (t : Bool) → test b ≡ t → filter (λ c. not (is_in c needs && test c)) (if t then filter (λ c. not (eqb c.0 b.0)) order else order) ≡ filter (λ c. not (is_in c (b ∷ needs) && test c)) order
      by true passes = filter_filter (λ c. not (is_in c needs && test c)) (λ c. not (eqb c.0 b.0)) order ∙ filter_agree (λ c. not (eqb c.0 b.0) && not (is_in c needs && test c)) (λ c. not (is_in c (b ∷ needs) && test c)) (λ c. at_true c passes) order
      by false fails = filter_agree (λ c. not (is_in c needs && test c)) (λ c. not (is_in c (b ∷ needs) && test c)) (λ c. at_false c fails) order

  pub joined_is : (needs order : List BundleNo) → joined_each test needs order ≡ order ++ filter test needs
  joined_is [] order = sym (append-nil order)
  joined_is (b ∷ needs) order = joined_is needs (joined_by b order) ∙ by (test b)
    where
      by : (t : Bool) → (if t then order ++ b ∷ [] else order) ++ filter test needs ≡ order ++ (if t then b ∷ filter test needs else filter test needs)
      by true = append_assoc order (b ∷ []) (filter test needs)
      by false = refl
