-- Lists of those that wait, after a write at one place.
use Rattle.std.proofs.Common.{◌≡◌, ℕ, ◌+◌, ◌<◌, ◌≤◌, zero, suc, Bool, true, false, ◌||◌, not, eqb, List, [], ◌∷◌, ◌++◌, length, set, drop, get_or, Option, Some, slice_get, refl, sym, ◌∙◌, ap, subst, arith, if◌then◌else◌}
use Rattle.std.proofs.lemmas.Bool.{false≢true, and_parts, eq-eqb, not-true}
use Rattle.std.proofs.lemmas.List.{map-set, drop_more}
use Rattle.addr_base.specs.declared.ids.BundleNo.{BundleNo}
use Rattle.addr_locate.specs.Rows.{no_repeats}
use Rattle.addr_history.specs.Events.{is_in}
use Rattle.addr_queue.specs.Changes.{put_at, changed_from, change}
use Rattle.addr_core.specs.within.Courses.{Waiting, waiting_lists, HasRoom, waited_each}
use Rattle.addr_queue.proofs.Changing.{get_set_same, get_set_other}
use Rattle.addr_queue.proofs.Places.{get_there}
use Rattle.addr_queue.proofs.Leaving.{head_in, other_one}

set_same : {X : Type 0} (xs : List X) (n : ℕ) (x : X) → slice_get xs n ≡ Some x → set xs n x ≡ xs
set_same [] n x is = refl
set_same (y ∷ xs) zero x is = ap (λ z. z ∷ xs) (let same : x ≡ y = cc in same)
set_same (y ∷ xs) (suc n) x is = ap (λ (l : List _). y ∷ l) (set_same xs n x is)

pub list_at : (ws : List Waiting) (n : ℕ) (w : Waiting) → slice_get ws n ≡ Some w → slice_get (waiting_lists ws) n ≡ Some w.ops
list_at [] n w is = cc
list_at (x ∷ ws) zero w is = ap Some (let same : x.ops ≡ w.ops = cc in same)
list_at (x ∷ ws) (suc n) w is = list_at ws n w is

pub list_from : (ws : List Waiting) (n : ℕ) (ops : List ℕ) → slice_get (waiting_lists ws) n ≡ Some ops → (w : Waiting) × ((slice_get ws n ≡ Some w) × (w.ops ≡ ops))
list_from [] n ops is = cc
list_from (x ∷ ws) zero ops is = (x, (refl, let same : x.ops ≡ ops = cc in same))
list_from (x ∷ ws) (suc n) ops is = list_from ws n ops is

module _ (ws : List Waiting) (n : ℕ) (x w : Waiting) (lt : n < length ws) (read : x ≡ get_or ws n x) where
  there : slice_get ws n ≡ Some x
  there = get_there ws n x lt read

  pub lists_set : (ops : List ℕ) → w.ops ≡ ops → waiting_lists (set ws n w) ≡ set (waiting_lists ws) n ops
  lists_set ops is = map-set (λ (v : Waiting). v.ops) ws n w ∙ ap (set (waiting_lists ws) n) is

  pub lists_kept : w.ops ≡ x.ops → waiting_lists (set ws n w) ≡ waiting_lists ws
  lists_kept is = lists_set x.ops is ∙ set_same (waiting_lists ws) n x.ops (list_at ws n x there)

  pub lists_added : (op : ℕ) → w.ops ≡ x.ops ++ op ∷ [] → waiting_lists (set ws n w) ≡ change (λ ops. ops ++ op ∷ []) n (waiting_lists ws)
  lists_added op is = lists_set (x.ops ++ op ∷ []) is ∙ sym (ap (λ (o : Option (List ℕ)). put_at (waiting_lists ws) n (changed_from (λ ops. ops ++ op ∷ []) o)) (list_at ws n x there))

  pub lists_spare : 0 < w.spare → (v : Waiting) → slice_get (set ws n w) n ≡ Some v → 0 < v.spare
  lists_spare room v is = subst (λ (u : Waiting). 0 < u.spare) (let both : Some w ≡ Some v = sym (get_set_same ws n x w there) ∙ is in let same : w ≡ v = cc in same) room

  pub others_kept : (m : ℕ) → (m ≡ n → ⊥) → slice_get (set ws n w) m ≡ slice_get ws m
  others_kept m ne = get_set_other ws n m w ne

pub past_none : (ws : List Waiting) (n : ℕ) (v : Waiting) → length ws ≤ n → slice_get ws n ≡ Some v → 0 < v.spare
past_none [] n v le is = cc
past_none (x ∷ ws) zero v le is = absurd (omega arith)
past_none (x ∷ ws) (suc n) v le is = past_none ws n v (omega arith) is

-- a step of the loop in which an operation begins to wait
module _ (test : BundleNo → Bool) where
  pub wait_head : (needs : List BundleNo) (i : ℕ) (d : BundleNo) (ws : List Waiting) → i < length needs → HasRoom test (drop i needs) ws → test (get_or needs i d) ≡ true → (w : Waiting) → slice_get ws (get_or needs i d).0 ≡ Some w → 0 < w.spare
  wait_head needs i d ws lt room passes w at = room (get_or needs i d) w (ap (is_in (get_or needs i d)) (drop_more needs i d lt) ∙ head_in (get_or needs i d) (drop (i + 1) needs)) passes at

  pub wait_step : (op : ℕ) (needs : List BundleNo) (i : ℕ) (d : BundleNo) (old new : List Waiting) → i < length needs → no_repeats (drop i needs) ≡ true → HasRoom test (drop i needs) old
      → waiting_lists new ≡ (if test (get_or needs i d) then change (λ ops. ops ++ op ∷ []) (get_or needs i d).0 (waiting_lists old) else waiting_lists old) → ((n : ℕ) → (n ≡ (get_or needs i d).0 → ⊥) → slice_get new n ≡ slice_get old n)
      → (no_repeats (drop (i + 1) needs) ≡ true) × HasRoom test (drop (i + 1) needs) new × (waited_each test op (drop (i + 1) needs) (waiting_lists new) ≡ waited_each test op (drop i needs) (waiting_lists old))
  wait_step op needs i d old new lt once room lists others =
      let b0 = get_or needs i d in
      let bs = drop (i + 1) needs in
      let is : drop i needs ≡ b0 ∷ bs = drop_more needs i d lt in
      let parts = and_parts (not (is_in b0 bs)) (no_repeats bs) (sym (ap no_repeats is) ∙ once) in (
        parts.1,
        λ b w in_bs passes at.
            let other : b.0 ≡ b0.0 → ⊥ = λ same. false≢true (sym (other_one b0 b bs (not-true (is_in b0 bs) parts.0) in_bs) ∙ eq-eqb b.0 b0.0 same) in
            room b w (ap (is_in b) is ∙ right (eqb b0.0 b.0) in_bs) passes (sym (others b.0 other) ∙ at),
        ap (waited_each test op bs) lists ∙ sym (ap (λ (l : List BundleNo). waited_each test op l (waiting_lists old)) is),
      )
    where
      right : (s : Bool) {t : Bool} → t ≡ true → (s || t) ≡ true
      right true is = refl
      right false is = is
