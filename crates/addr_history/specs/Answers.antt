-- The reply of every call, the first refusal first, and the events that it adds: functions of rows, limit and history.
use Rattle.std.specs.Prelude.{ℕ, ◌+◌, ◌*◌, Bool, true, false, not, nat_lt, List, [], ◌∷◌, length, slice_get, Option, Some, None, Result, Ok, Err, if◌then◌else◌}
use Rattle.std.specs.Option.{option_map_or}
use Rattle.std.specs.List.{list_any, count_by, position}
use Rattle.addr_base.specs.declared.cause.Cause.{Cause}
use Rattle.addr_base.specs.declared.ids.BundleNo.{BundleNo}
use Rattle.addr_base.specs.declared.ids.OpId.{OpId}
use Rattle.addr_base.specs.declared.ids.RowNo.{RowNo}
use Rattle.addr_locate.specs.Rows.{Rows}
use Rattle.addr_locate.specs.Merge.{is_match, merged}
use Rattle.addr_history.specs.declared.answers.BundleState.{BundleState}
use Rattle.addr_history.specs.declared.answers.Next.{Next}
use Rattle.addr_history.specs.declared.answers.Next.TheVariants.{Bundle, Idle, End}
use Rattle.addr_history.specs.declared.answers.NoHandle.{NoHandle}
use Rattle.addr_history.specs.declared.answers.NotTaken.{NotTaken}
use Rattle.addr_history.specs.declared.answers.OpStatus.{OpStatus}
use Rattle.addr_history.specs.declared.answers.Settled.{Settled}
use Rattle.addr_history.specs.declared.answers.Settled.TheVariants.{Kept, Dropped}
use Rattle.addr_history.specs.declared.ask.Ask.{Ask}
use Rattle.addr_history.specs.declared.error.AcquireErr.{AcquireErr}
use Rattle.addr_history.specs.declared.error.AcquireErr.TheVariants as acquires
use Rattle.addr_history.specs.declared.error.LoadErr.{LoadErr}
use Rattle.addr_history.specs.declared.error.LoadErr.TheVariants.{Closed, NoLocation, JournalFull}
use Rattle.addr_history.specs.declared.event.Event.{Event}
use Rattle.addr_history.specs.declared.event.Event.TheVariants.{Load, Acquire, Release, Take, Done, Fail, Close}
use Rattle.addr_history.specs.Events.{needs_of}
use Rattle.addr_history.specs.Counts.{is_closed, is_unreleased, loads_of, references_in, count_of}
use Rattle.addr_history.specs.Places.{is_fetched, is_fetched_by, is_queued, is_absent, queue, state_of, bundles_of}
use Rattle.addr_history.specs.Status.{status_of}

-- the events that are still owed: a Release of each reference, a Take and an end for each queued bundle, an end for each that is fetched, the Close
unfoldable pub reserved : Rows → List Event → ℕ
reserved rows h = references_in h + 2 * count_by (is_queued rows h) (bundles_of rows) + count_by (is_fetched h) (bundles_of rows) + (if is_closed h then 0 else 1)

-- the events that an ask would need: its Load and Release, and a Take and an end for each absent bundle
unfoldable pub needed : Rows → List Event → Ask → ℕ
needed rows h ask = 2 + 2 * count_by (is_absent rows h) (needs_of rows ask)

-- the place of the first key that no row of the asked kind has
unfoldable pub first_missing : Rows → Ask → Option ℕ
first_missing rows ask = position (λ key. not (list_any (is_match ask.kind key) rows.assets)) ask.keys

-- whether there is no row
abbrev pub has_no_row : List RowNo → Bool
has_no_row [] = true
has_no_row (r ∷ rows) = false

-- load: the number of the next operation
unfoldable pub load_reply : Rows → ℕ → List Event → Ask → Result OpId LoadErr
load_reply rows limit h ask =
    if is_closed h then Err Closed
    else if has_no_row (merged rows.assets ask.keys ask.mode ask.kind) then Err (NoLocation (first_missing rows ask))
    else if nat_lt limit (length h + reserved rows h + needed rows h ask) then Err (JournalFull (length h) (reserved rows h) (needed rows h ask))
    else Ok (record { 0 = loads_of h })

abbrev pub load_adds : Result OpId LoadErr → ℕ → Ask → List Event
load_adds (Ok op) caller ask = Load op caller ask ∷ []
load_adds (Err _) caller ask = []

-- acquire: only an unreleased operation, and where its Acquire and one Release more have room
unfoldable pub acquire_reply : Rows → ℕ → List Event → OpId → Result (Unit {0}) AcquireErr
acquire_reply rows limit h op =
    if not (is_unreleased h op) then Err acquires.NoHandle
    else if nat_lt limit (length h + reserved rows h + 2) then Err (acquires.JournalFull (length h) (reserved rows h) 2)
    else Ok tt

abbrev pub acquire_adds : Result (Unit {0}) AcquireErr → ℕ → OpId → List Event
acquire_adds (Ok _) caller op = Acquire op caller ∷ []
acquire_adds (Err _) caller op = []

-- release: only an unreleased operation
unfoldable pub release_reply : List Event → OpId → Result (Unit {0}) NoHandle
release_reply h op = if is_unreleased h op then Ok tt else Err (record {})

unfoldable pub release_adds : List Event → ℕ → OpId → List Event
release_adds h caller op = if is_unreleased h op then Release op caller ∷ [] else []

-- status: of an unreleased operation
unfoldable pub status_reply : Rows → List Event → OpId → Result OpStatus NoHandle
status_reply rows h op = if is_unreleased h op then Ok (status_of rows h op) else Err (record {})

-- take: the first queued bundle
unfoldable pub take_reply : Rows → List Event → Next
take_reply rows h = option_map_or Bundle (slice_get (queue rows h) 0) (if is_closed h then End else Idle)

abbrev pub take_adds : Next → ℕ → List Event
take_adds (Bundle b) worker = Take b worker ∷ []
take_adds Idle worker = []
take_adds End worker = []

-- done: kept where the bundle's count is positive; the image comes back where that worker doesn't fetch the bundle
unfoldable pub done_reply : {I : Type 0} → Rows → List Event → ℕ → BundleNo → I → Result Settled I
done_reply rows h worker b image = if is_fetched_by h b worker then Ok (if nat_lt 0 (count_of rows h b) then Kept else Dropped) else Err image

unfoldable pub done_adds : List Event → ℕ → BundleNo → List Event
done_adds h worker b = if is_fetched_by h b worker then Done b worker ∷ [] else []

-- fail: only of a bundle that the worker fetches
unfoldable pub fail_reply : List Event → ℕ → BundleNo → Result (Unit {0}) NotTaken
fail_reply h worker b = if is_fetched_by h b worker then Ok tt else Err (record {})

unfoldable pub fail_adds : List Event → ℕ → BundleNo → Cause → List Event
fail_adds h worker b cause = if is_fetched_by h b worker then Fail b worker cause ∷ [] else []

-- close: once
unfoldable pub close_reply : List Event → Bool
close_reply h = not (is_closed h)

unfoldable pub close_adds : List Event → List Event
close_adds h = if is_closed h then [] else Close ∷ []

-- count: of a bundle's number
unfoldable pub count_reply : Rows → List Event → BundleNo → Option (ℕ × BundleState)
count_reply rows h b = if nat_lt b.0 (length rows.bundles) then Some (count_of rows h b, state_of rows h b) else None
