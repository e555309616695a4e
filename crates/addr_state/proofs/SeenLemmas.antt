-- The set of GUIDs: none, one more, and what is among them.
use Rattle.std.proofs.Common.{◌≡◌, ℕ, ◌+◌, ◌<◌, Bool, true, false, ◌||◌, ◌&&◌, cond, List, [], ◌∷◌, ◌++◌, length, get_or, take, refl, sym, ap, subst, ◌∙◌, append_assoc, append-nil}
use Rattle.std.specs.BTreeSet.{BTreeSet, contains, Updates}
use Rattle.std.specs.List.{list_any, list_all}
use Rattle.std.specs.Ordering.{eq_by_cmp}
use Rattle.std.specs.Str.{bytes_eq}
use Rattle.std.proofs.lemmas.List.{take_more}
use Rattle.std.proofs.lemmas.List.Folds.{list_any-append}
use Rattle.std.proofs.lemmas.Map.Text.{is_eq-slice_cmp}
use Rattle.addr_base.specs.declared.ids.Guid.{Guid}
use Rattle.addr_state.specs.declared.model.StateBundle.{StateBundle}
use Rattle.addr_state.specs.Rules.{is_among, is_entry, guids_ascend, has_lists}
use Rattle.addr_state.specs.Sound.{guid_cmp}
use Rattle.addr_state.specs.within.Seen.{HasGuids, is_new_in}

either : (t c d : Bool) → c ≡ d → cond t true c ≡ (d || (t || false))
either true c true e = refl
either true c false e = refl
either false c true e = e
either false c false e = e

pub guid_none : (seen : BTreeSet Guid) → seen.keys ≡ [] → HasGuids seen []
unfolding HasGuids
guid_none seen empty = λ q. ap (list_any (eq_by_cmp guid_cmp q)) empty

guid_more : (seen new : BTreeSet Guid) (found : List Guid) (g : Guid) → HasGuids seen found → Updates guid_cmp seen new g true → HasGuids new (found ++ g ∷ [])
unfolding HasGuids
guid_more seen new found g has updates = λ q.
    updates.0 q ∙ ap (λ (t : Bool). cond t true (contains guid_cmp seen q)) (is_eq-slice_cmp g.0 q.0) ∙ either (bytes_eq g.0 q.0) (contains guid_cmp seen q) (is_among found q) (has q) ∙ sym (list_any-append (λ h. bytes_eq h.0 q.0) found (g ∷ []))

pub guid_start : (seen : BTreeSet Guid) (found gs : List Guid) → HasGuids seen found → HasGuids seen (found ++ take 0 gs)
guid_start seen found gs has = subst (HasGuids seen) (sym (append-nil found)) has

pub guid_next : (seen new : BTreeSet Guid) (found gs : List Guid) (i : ℕ) (g : Guid) → i < length gs → HasGuids seen (found ++ take i gs) → Updates guid_cmp seen new (get_or gs i g) true → HasGuids new (found ++ take (i + 1) gs)
guid_next seen new found gs i g small has updates =
    subst (HasGuids new) (append_assoc found (take i gs) (get_or gs i g ∷ []) ∙ ap (λ (hs : List Guid). found ++ hs) (sym (take_more gs i g small))) (guid_more seen new (found ++ take i gs) (get_or gs i g) has updates)

pub entries_same : (earlier objects : BTreeSet Guid) (before among : List Guid) → HasGuids earlier before → HasGuids objects among → (gs : List Guid) → list_all (is_new_in earlier objects) gs ≡ list_all (is_entry before among) gs
unfolding HasGuids
entries_same earlier objects before among has_earlier has_objects [] = refl
entries_same earlier objects before among has_earlier has_objects (g ∷ gs) = rw (has_objects g, has_earlier g, entries_same earlier objects before among has_earlier has_objects gs)

pub lists_are : (before objects entries : List Guid) (b : StateBundle) (r up fit : Bool) → r ≡ (up && fit) → up ≡ (guids_ascend b.entries && guids_ascend b.objects) → fit ≡ list_all (is_entry before objects) entries
    → objects ≡ b.objects → entries ≡ b.entries → r ≡ has_lists before b
unfolding has_lists
lists_are before objects entries b r up fit is ascend fits same also =
    is ∙ (ap (λ (t : Bool). t && fit) ascend ∙ ap (λ (t : Bool). (guids_ascend b.entries && guids_ascend b.objects) && t)
    (fits ∙ (ap (λ (gs : List Guid). list_all (is_entry before gs) entries) same ∙ ap (λ (gs : List Guid). list_all (is_entry before b.objects) gs) also)))
