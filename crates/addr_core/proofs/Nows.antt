-- What a load looks at, in the words of the definitions.
use Rattle.std.proofs.Common.{◌≡◌, ℕ, ltb, false, Result, Ok, Err, sym, ◌+◌, ◌*◌, ◌≤◌, ◌<◌, Bool, true, ◌&&◌, not, List, length, Some, is_some, slice_get, ◌∙◌, ap, arith, if◌then◌else◌}
use Rattle.std.specs.List.{count_by}
use Rattle.addr_base.specs.declared.ids.BundleNo.{BundleNo}
use Rattle.addr_locate.specs.Rows.{Rows, are_bundles}
use Rattle.addr_history.specs.declared.event.Event.{Event}
use Rattle.addr_history.specs.Counts.{is_closed, is_unreleased}
use Rattle.addr_history.specs.Places.{is_resident, is_fetched, is_absent}
use Rattle.addr_base.specs.declared.ids.OpId.{OpId}
use Rattle.addr_history.specs.declared.error.AcquireErr.{AcquireErr}
use Rattle.addr_history.specs.declared.error.AcquireErr.TheVariants.{NoHandle, JournalFull}
use Rattle.addr_history.specs.Answers.{reserved, acquire_reply}
use Rattle.addr_history.proofs.Owed.{within_limit}
use Rattle.addr_history.proofs.Members.{below_at}
use Rattle.addr_queue.specs.declared.slots.Slot.{Slot}
use Rattle.addr_core.specs.within.Kept.{AreSlots, IsSlot, IsNow}
use Rattle.addr_queue.specs.Slots.{passes_from, passes, is_out, is_missing}
use Rattle.addr_history.proofs.StatusSteps.{count_within}
use Rattle.addr_history.proofs.QueueEvents.{queue_length}
use Rattle.addr_queue.proofs.Changing.{slice_there}

module _ (rows : Rows) (h : List Event) (slots : List Slot) (are : AreSlots rows h slots) where
  pub slot_at : (b : BundleNo) → b.0 < length rows.bundles → (s : Slot) × ((slice_get slots b.0 ≡ Some s) × IsSlot rows h b s)
  slot_at b lt = let there = slice_there slots b.0 (omega (arith, are.many)) in (there.0, (there.1, are.each b there.0 there.1))

  out_at : (b : BundleNo) → b.0 < length rows.bundles → passes is_out slots b ≡ is_absent rows h b
  unfolding is_absent
  out_at b lt =
      let slot = slot_at b lt in
      ap (passes_from is_out) slot.1.0
      ∙ ap (λ t. (not t && not (is_some slot.0.fetcher)) && not slot.0.queued) slot.1.1.resident
      ∙ ap (λ t. (not (is_resident rows h b) && not t) && not slot.0.queued) slot.1.1.fetched
      ∙ ap (λ t. (not (is_resident rows h b) && not (is_fetched h b)) && not t) slot.1.1.queued

  pub missing_at : (b : BundleNo) → b.0 < length rows.bundles → passes is_missing slots b ≡ not (is_resident rows h b)
  missing_at b lt = let slot = slot_at b lt in ap (passes_from is_missing) slot.1.0 ∙ ap not slot.1.1.resident

  pub absent_is : (needs : List BundleNo) → are_bundles (length rows.bundles) needs ≡ true → count_by (passes is_out slots) needs ≡ count_by (is_absent rows h) needs
  absent_is needs all = count_within (passes is_out slots) (is_absent rows h) needs (λ b there. out_at b (below_at (length rows.bundles) b.0 needs all there))

  pub lacking_is : (needs : List BundleNo) → are_bundles (length rows.bundles) needs ≡ true → count_by (passes is_missing slots) needs ≡ count_by (λ b. not (is_resident rows h b)) needs
  lacking_is needs all = count_within (passes is_missing slots) (λ b. not (is_resident rows h b)) needs (λ b there. missing_at b (below_at (length rows.bundles) b.0 needs all there))

pub reserved_now : (rows : Rows) (limit : ℕ) (h : List Event) (slots : List Slot) (queued fetched opens : ℕ) (closed : Bool) → IsNow rows limit h slots queued fetched opens closed → (o q f c : ℕ) → o ≡ opens → q ≡ queued → f ≡ fetched → c ≡ (if closed then 0 else 1) → o + 2 * q + f + c ≡ reserved rows h
unfolding reserved
reserved_now rows limit h slots queued fetched opens closed now o q f c is_o is_q is_f is_c =
    let owes : c ≡ (if is_closed h then 0 else 1) = is_c ∙ ap (λ t. let n : ℕ = if t then 0 else 1 in n) now.now_closed in
    omega (arith, now.now_open, now.now_queued, now.now_fetched, queue_length rows limit now.known.sound h)

pub reserved_small : (rows : Rows) (limit : ℕ) (h : List Event) (slots : List Slot) (queued fetched opens : ℕ) (closed : Bool) → IsNow rows limit h slots queued fetched opens closed → reserved rows h ≤ 1000000
reserved_small rows limit h slots queued fetched opens closed now = omega (arith, within_limit rows limit now.known.sound now.known.positive h now.known.legal, now.known.few)

-- the answer of an acquire behind the test of the handle
abbrev acquires : ℕ → ℕ → ℕ → Result (Unit {0}) AcquireErr
acquires limit used owed = if ltb limit (used + owed + 2) then Err (JournalFull used owed 2) else Ok tt

acquire_is : (rows : Rows) (limit : ℕ) (h : List Event) (op : OpId) → is_unreleased h op ≡ true → (used owed : ℕ) → used ≡ length h → owed ≡ reserved rows h → acquires limit used owed ≡ acquire_reply rows limit h op
unfolding acquire_reply
acquire_is rows limit h op is used owed is_used is_owed =
    ap (λ u. acquires limit u owed) is_used ∙ ap (acquires limit (length h)) is_owed ∙ sym (ap (λ t. let r : Result (Unit {0}) AcquireErr = if not t then Err NoHandle else acquires limit (length h) (reserved rows h) in r) is)

pub acquire_full : (rows : Rows) (limit : ℕ) (h : List Event) (op : OpId) → is_unreleased h op ≡ true → (used owed : ℕ) → used ≡ length h → owed ≡ reserved rows h → ltb limit (used + owed + 2) ≡ true → Err (JournalFull used owed 2) ≡ acquire_reply rows limit h op
acquire_full rows limit h op is used owed is_used is_owed full =
    sym (ap (λ t. let r : Result (Unit {0}) AcquireErr = if t then Err (JournalFull used owed 2) else Ok tt in r) full) ∙ acquire_is rows limit h op is used owed is_used is_owed

pub acquire_ok : (rows : Rows) (limit : ℕ) (h : List Event) (op : OpId) → is_unreleased h op ≡ true → (used owed : ℕ) → used ≡ length h → owed ≡ reserved rows h → ltb limit (used + owed + 2) ≡ false → Ok tt ≡ acquire_reply rows limit h op
acquire_ok rows limit h op is used owed is_used is_owed room =
    sym (ap (λ t. let r : Result (Unit {0}) AcquireErr = if t then Err (JournalFull used owed 2) else Ok tt in r) room) ∙ acquire_is rows limit h op is used owed is_used is_owed
