-- A bundle that keeps the rules passes the tests.
use Rattle.std.proofs.Common.{◌≡◌, ◌≢◌, ◌⊎◌, inl, inr, ℕ, suc, ◌≤◌, ◌&&◌, ◌||◌, nat_le, nat_eq, not, Bool, true, false, List, [], ◌∷◌, ◌++◌, length, codes, Option, Some, None, refl, ap, subst, ◌∙◌, arith, Ordering, nat_cmp, bytes_eq}
use Rattle.std.proofs.lemmas.Bool.{and_from, or_cases, false_from_ne_true, false≢true, eqb-true, eq-eqb}
use Rattle.std.proofs.lemmas.List.Folds.{list_any_at}
use Rattle.std.proofs.lemmas.List.Sums.{list_all-from_AllPass}
use Rattle.std.proofs.lemmas.Slice.Eq.{bytes_eq-Decides, starts_is}
use Rattle.std.specs.Cmp.Lexicographic.{slice_cmp}
use Rattle.std.specs.List.{AllPass, Contains, list_all, starts_with}
use Rattle.std.specs.List.Sorted.{IsStrictlySortedBy}
use Rattle.std.specs.Ordering.{is_lt}
use Rattle.addr_base.specs.Escapes.{escaped}
use Rattle.addr_base.specs.declared.ids.Digest.{Digest}
use Rattle.addr_base.specs.declared.ids.Guid.{Guid}
use Rattle.addr_state.specs.declared.model.StateBundle.{StateBundle}
use Rattle.addr_state.specs.Sound.{IsWellFormed, guid_cmp}
use Rattle.addr_state.specs.Files.{is_bundle_byte, side_file}
use Rattle.addr_state.specs.Rules.{is_above, ascends, guids_ascend, texts_ascend, is_among, is_group, is_name, is_file, has_texts, is_entry, has_lists}
use Rattle.addr_state.proofs.RowLemmas.{le_true}

-- ---- lists that ascend

abbrev pub key_cmp : {A : Type 0} → (A → List ℕ) → A → A → Ordering
key_cmp key x y = slice_cmp nat_cmp (key x) (key y)

ascends_sorted : {A : Type 0} (key : A → List ℕ) (before : Option (List ℕ)) (xs : List A) → ((x : A) (rest : List A) → xs ≡ x ∷ rest → is_above (key x) before ≡ true) → IsStrictlySortedBy (key_cmp key) xs → ascends key before xs ≡ true
unfolding ascends IsStrictlySortedBy
ascends_sorted key before [] above rise = refl
ascends_sorted key before (x ∷ []) above rise = and_from (is_above (key x) before) true (above x [] refl) refl
ascends_sorted {A = A} key before (x ∷ y ∷ ys) above rise =
    and_from (is_above (key x) before) _ (above x (y ∷ ys) refl) (ascends_sorted key (Some (key x)) (y ∷ ys) (λ z rest is. (let same : y ≡ z = cc in subst (λ (w : A). is_lt (slice_cmp nat_cmp (key x) (key w)) ≡ true) same (ap is_lt rise.0.0))) rise.1)

guids_up : (guids : List Guid) → IsStrictlySortedBy guid_cmp guids → guids_ascend guids ≡ true
guids_up guids rise = ascends_sorted (λ (g : Guid). g.0) None guids (λ g rest is. refl) rise

pub texts_up : (texts : List (List ℕ)) → IsStrictlySortedBy (slice_cmp nat_cmp) texts → texts_ascend texts ≡ true
texts_up texts rise = ascends_sorted (λ (t : List ℕ). t) None texts (λ t rest is. refl) rise

-- ---- GUIDs among others

same_guid : (x y : Guid) → x.0 ≡ y.0 → x ≡ y
same_guid x y same = λ i. record { 0 = same i }

pub among_contained : (gs : List Guid) (g : Guid) → is_among gs g ≡ true → Contains gs g
among_contained [] g is = absurd (false≢true is)
among_contained (h ∷ hs) g is = by_either (λ later. among_contained hs g later) (or_cases (bytes_eq h.0 g.0) (is_among hs g) is)
  where
    by_either : (is_among hs g ≡ true → Contains hs g) → (bytes_eq h.0 g.0 ≡ true) ⊎ (is_among hs g ≡ true) → Contains (h ∷ hs) g
    by_either more (inl here) = (0, omega arith, same_guid h g ((bytes_eq-Decides h.0 g.0).0 here))
    by_either more (inr later) = let at = more later in (suc at.0, omega (arith, at.1), at.2)

pub contained_among : (gs : List Guid) (g : Guid) → Contains gs g → is_among gs g ≡ true
contained_among gs g (k, within, is) = list_any_at (λ h. bytes_eq h.0 g.0) gs k g within (ap (λ (h : Guid). bytes_eq h.0 g.0) is ∙ (bytes_eq-Decides g.0 g.0).1 refl)

later : (h : Guid) (hs : List Guid) (g : Guid) → Contains hs g → Contains (h ∷ hs) g
later h hs g (k, within, is) = (suc k, omega (arith, within), is)

are_entries : (earlier objects gs : List Guid) → ((g : Guid) → Contains gs g → Contains objects g) → ((g : Guid) → Contains gs g → Contains earlier g → ⊥) → list_all (is_entry earlier objects) gs ≡ true
are_entries earlier objects [] within new = refl
are_entries earlier objects (g ∷ gs) within new =
    let here : Contains (g ∷ gs) g = (0, omega arith, refl) in
    and_from (is_entry earlier objects g) _
    (and_from (is_among objects g) _ (contained_among objects g (within g here)) (ap not (false_from_ne_true (is_among earlier g) (λ is. new g here (among_contained earlier g is)))))
    (are_entries earlier objects gs (λ h is. within h (later g gs h is)) (λ h is. new h (later g gs h is)))

-- ---- the texts of a bundle

group_good : (group : List ℕ) → 1 ≤ length group → length group ≤ 255 → group ≢ codes "Content Update" → is_group group ≡ true
group_good group filled short free =
    and_from (nat_le 1 (length group)) _ (le_true 1 (length group) filled) (and_from (nat_le (length group) 255) _ (le_true (length group) 255 short)
    (ap not (false_from_ne_true (bytes_eq group (codes "Content Update")) (λ is. free ((bytes_eq-Decides group (codes "Content Update")).0 is)))))

front_good : (front name rest : List ℕ) → name ≡ front ++ rest → starts_with nat_eq name front ≡ true
front_good front name rest is = (starts_is {E = nat_eq} (λ a b. (eqb-true a b, eq-eqb a b)) name front (starts_with nat_eq name front) refl).1 rest is

name_good : (group name : List ℕ) → length name ≤ 200 → AllPass is_bundle_byte name → (rest : List ℕ) × (name ≡ (escaped group ++ 95 ∷ []) ++ rest) → is_name group name ≡ true
name_good group name short bytes front =
    and_from (nat_le (length name) 200) _ (le_true (length name) 200 short) (and_from (list_all is_bundle_byte name) _ (list_all-from_AllPass is_bundle_byte name bytes) (front_good (escaped group ++ 95 ∷ []) name front.0 front.1))

either : (a b : Bool) → (a ≡ true) ⊎ (b ≡ true) → (a || b) ≡ true
either true b (inl e) = refl
either false b (inl e) = absurd (false≢true e)
either true b (inr e) = refl
either false b (inr e) = e

file_good : (file name : List ℕ) (digest : Digest) → (file ≡ side_file false name digest) ⊎ (file ≡ side_file true name digest) → is_file file name digest ≡ true
file_good file name digest (inl is) = either (bytes_eq file (side_file false name digest)) (bytes_eq file (side_file true name digest)) (inl ((bytes_eq-Decides file (side_file false name digest)).1 is))
file_good file name digest (inr is) = either (bytes_eq file (side_file false name digest)) (bytes_eq file (side_file true name digest)) (inr ((bytes_eq-Decides file (side_file true name digest)).1 is))

pub texts_good : (above : Option (List ℕ)) (b : StateBundle) → IsWellFormed b → is_above b.name above ≡ true → has_texts above b ≡ true
unfolding has_texts
texts_good above b f up =
    and_from (is_group b.group) _ (group_good b.group f.group_filled f.group_short f.group_free) (and_from (is_name b.group b.name) _ (name_good b.group b.name f.name_short f.name_bytes f.name_front)
    (and_from (is_above b.name above) _ up (and_from (is_file b.file b.name b.digest) _ (file_good b.file b.name b.digest f.file) (le_true (length b.id) 1400 f.id_short))))

pub lists_good : (earlier : List Guid) (b : StateBundle) → IsWellFormed b → ((g : Guid) → Contains b.entries g → Contains earlier g → ⊥) → has_lists earlier b ≡ true
unfolding has_lists
lists_good earlier b f new =
    and_from (guids_ascend b.entries && guids_ascend b.objects) _ (and_from (guids_ascend b.entries) _ (guids_up b.entries f.entries_rise) (guids_up b.objects f.objects_rise)) (are_entries earlier b.objects b.entries f.entries_objects new)
