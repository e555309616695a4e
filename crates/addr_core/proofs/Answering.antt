-- Answers read off what is kept.
use Rattle.std.proofs.Common.{◌≡◌, ℕ, zero, suc, ltb, eqb, ◌<◌, Bool, true, false, not, List, length, Option, Some, None, Result, Ok, Err, is_some, slice_get, refl, sym, ◌∙◌, ap, arith, if◌then◌else◌}
use Rattle.std.proofs.lemmas.Bool.{lt-ltb, le-ltb, eqb-true, false≢true}
use Rattle.std.specs.Option.{option_map_or}
use Rattle.std.specs.Prelude.{unwrap_or, ◌==◌}
use Rattle.addr_base.specs.declared.ids.BundleNo.{BundleNo}
use Rattle.addr_base.specs.declared.ids.OpId.{OpId}
use Rattle.addr_locate.specs.Rows.{Rows}
use Rattle.addr_history.specs.declared.answers.BundleState.{BundleState}
use Rattle.addr_history.specs.declared.answers.BundleState.TheVariants.{Resident, Fetching, Queued, Absent}
use Rattle.addr_history.specs.declared.answers.NoHandle.{NoHandle}
use Rattle.addr_history.specs.declared.answers.OpStatus.{OpStatus}
use Rattle.addr_history.specs.declared.answers.OpStatus.TheVariants.{Pending, Ready}
use Rattle.addr_history.specs.declared.answers.Next.{Next}
use Rattle.addr_history.specs.declared.answers.Next.TheVariants.{Bundle, Idle, End}
use Rattle.addr_history.specs.declared.event.Event.{Event}
use Rattle.addr_history.specs.Counts.{is_closed, is_unreleased, references_of, count_of}
use Rattle.addr_history.specs.Places.{is_resident, is_fetched, is_queued, state_of}
use Rattle.addr_history.specs.Status.{status_of}
use Rattle.addr_history.specs.Answers.{take_reply, count_reply, status_reply}
use Rattle.addr_history.specs.Legal.{Legal}
use Rattle.addr_queue.specs.Queue.{Ordered}
use Rattle.addr_queue.specs.declared.slots.Slot.{Slot}
use Rattle.addr_core.specs.declared.courses.Course.{Course}
use Rattle.addr_core.specs.within.Kept.{Holds, IsSlot}
use Rattle.addr_history.proofs.Legality.{unreleased_is}
use Rattle.addr_core.proofs.CourseSteps.{status_is, unreleased_at, no_references, not_unreleased}
use Rattle.addr_queue.proofs.Changing.{within_from, past_from}
use Rattle.addr_core.specs.declared.wanted.Wanted.{Wanted}

not_zero : (n : ℕ) → eqb n 0 ≡ false → ltb 0 n ≡ true
not_zero zero is = absurd (false≢true (sym is))
not_zero (suc n) is = lt-ltb 0 (suc n) (omega arith)

module _ (rows : Rows) (limit : ℕ) (h : List Event) (wanted : List Wanted) (slots : List Slot) (courses : List Course) (lists : List (List ℕ)) (order : Ordered) (fetched opens : ℕ) (closed : Bool) (holds : Holds rows h wanted slots courses lists order fetched opens closed) where
  pub next_some : (b : BundleNo) → Some b ≡ slice_get order.bundles 0 → Bundle b ≡ take_reply rows h
  unfolding take_reply
  next_some b is = ap (λ (o : Option BundleNo). option_map_or Bundle o (if is_closed h then End else Idle)) (is ∙ ap (λ (l : Ordered). slice_get l.bundles 0) holds.in_order)

  pub next_none : (t : Bool) → closed ≡ t → None ≡ slice_get order.bundles 0 → (if t then End else Idle) ≡ take_reply rows h
  unfolding take_reply
  next_none t is none =
      ap (λ s. let n : Next = if s then End else Idle in n) (sym is ∙ holds.now_closed)
      ∙ ap (λ (o : Option BundleNo). option_map_or Bundle o (if is_closed h then End else Idle)) (none ∙ ap (λ (l : Ordered). slice_get l.bundles 0) holds.in_order)

  abbrev pub state_at : Slot → BundleState
  state_at s = if s.resident then Resident else if is_some s.fetcher then Fetching else if s.queued then Queued else Absent

  pub count_some : (b : BundleNo) (s : Slot) → slice_get slots b.0 ≡ Some s → Some (s.count, state_at s) ≡ count_reply rows h b
  unfolding count_reply state_of
  count_some b s at =
      let is : IsSlot rows h b s = holds.are_slots.each b s at in
      ap (λ n. let o : Option (ℕ × BundleState) = Some (n, state_at s) in o) is.count
      ∙ ap (λ t. let o : Option (ℕ × BundleState) = Some (count_of rows h b, if t then Resident else if is_some s.fetcher then Fetching else if s.queued then Queued else Absent) in o) is.resident
      ∙ ap (λ t. let o : Option (ℕ × BundleState) = Some (count_of rows h b, if is_resident rows h b then Resident else if t then Fetching else if s.queued then Queued else Absent) in o) is.fetched
      ∙ ap (λ t. let o : Option (ℕ × BundleState) = Some (count_of rows h b, if is_resident rows h b then Resident else if is_fetched h b then Fetching else if t then Queued else Absent) in o) is.queued
      ∙ sym (ap (λ t. let o : Option (ℕ × BundleState) = if t then Some (count_of rows h b, if is_resident rows h b then Resident else if is_fetched h b then Fetching else if is_queued rows h b then Queued else Absent) else None in o) (lt-ltb b.0 (length rows.bundles) (omega (arith, within_from slots b.0 s at, holds.are_slots.many))))

  pub count_none : (b : BundleNo) → slice_get slots b.0 ≡ None → None ≡ count_reply rows h b
  unfolding count_reply
  count_none b none = sym (ap (λ t. let o : Option (ℕ × BundleState) = if t then Some (count_of rows h b, state_of rows h b) else None in o) (le-ltb b.0 (length rows.bundles) (omega (arith, past_from slots b.0 none, holds.are_slots.many))))

  abbrev pub no_handle : Result OpStatus NoHandle
  no_handle = Err (record {})

  abbrev pub course_status : Course → Result OpStatus NoHandle
  course_status c = if c.references == 0 then no_handle else Ok (unwrap_or c.failed (if c.missing == 0 then Ready else Pending))

  pub status_some : Legal rows limit h → (op : OpId) (c : Course) → slice_get courses op.0 ≡ Some c → course_status c ≡ status_reply rows h op
  unfolding status_reply
  status_some legal op c at = by (eqb c.references 0) refl
    where
      now : is_unreleased h op ≡ ltb 0 c.references
      now = unreleased_at rows h courses lists holds.are_courses op c at

      by : (t : Bool) → eqb c.references 0 ≡ t → (if t then no_handle else Ok (unwrap_or c.failed (if c.missing == 0 then Ready else Pending))) ≡ (if is_unreleased h op then Ok (status_of rows h op) else no_handle)
      by true is = sym (ap (λ t. let r : Result OpStatus NoHandle = if t then Ok (status_of rows h op) else no_handle in r) (now ∙ ap (ltb 0) (eqb-true c.references 0 is)))
      by false is =
          let open_now : is_unreleased h op ≡ true = now ∙ not_zero c.references is in
          ap (λ s. let r : Result OpStatus NoHandle = Ok s in r) (status_is rows limit h courses lists holds.are_courses op c at open_now)
          ∙ sym (ap (λ t. let r : Result OpStatus NoHandle = if t then Ok (status_of rows h op) else no_handle in r) open_now)

  pub status_none : Legal rows limit h → (op : OpId) → slice_get courses op.0 ≡ None → no_handle ≡ status_reply rows h op
  unfolding status_reply
  status_none legal op none = sym (ap (λ t. let r : Result OpStatus NoHandle = if t then Ok (status_of rows h op) else no_handle in r) (not_unreleased rows limit h legal courses lists holds.are_courses op (past_from courses op.0 none)))

  pub references_some : (op : OpId) (c : Course) → slice_get courses op.0 ≡ Some c → c.references ≡ references_of h op
  references_some op c at = holds.are_courses.references op c at

  pub references_past : Legal rows limit h → (op : OpId) → slice_get courses op.0 ≡ None → 0 ≡ references_of h op
  references_past legal op none = sym (no_references rows limit h legal courses lists holds.are_courses op (past_from courses op.0 none))

-- who has more than one reference is unreleased
pub open_more : (h : List Event) (op : OpId) → 1 < references_of h op → is_unreleased h op ≡ true
open_more h op more = unreleased_is h op ∙ lt-ltb 0 (references_of h op) (omega (arith, more))
