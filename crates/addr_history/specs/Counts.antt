-- Operations, their references and counts, read off a history. An operation counts while it has references.
use Rattle.std.specs.Prelude.{ℕ, ◌+◌, ◌-◌, Bool, ◌&&◌, nat_lt, List, [], map, if◌then◌else◌}
use Rattle.std.specs.Option.{option_map_or}
use Rattle.std.specs.List.{list_any, count_by, sum_by, find, range_with_len}
use Rattle.addr_base.specs.declared.ids.BundleNo.{BundleNo}
use Rattle.addr_base.specs.declared.ids.OpId.{OpId}
use Rattle.addr_base.specs.declared.ids.RowNo.{RowNo}
use Rattle.addr_locate.specs.Rows.{Rows}
use Rattle.addr_history.specs.declared.event.Event.{Event}
use Rattle.addr_history.specs.declared.event.Event.TheVariants.{Load, Acquire, Release, Take, Done, Fail, Close}
use Rattle.addr_history.specs.Events.{is_in, is_load, is_load_of, is_acquire_of, is_release_of, is_close, needs_of_event, rows_of_event}

-- whether the history has the Close
unfoldable pub is_closed : List Event → Bool
is_closed h = list_any is_close h

-- the number of the operation's Acquires, and of its Releases
unfoldable pub acquires_of : List Event → OpId → ℕ
acquires_of h op = count_by (is_acquire_of op) h

unfoldable pub releases_of : List Event → OpId → ℕ
releases_of h op = count_by (is_release_of op) h

-- an operation's references: one for its Load and one for each Acquire, less one for each Release, and never below 0; none without a Load
unfoldable pub references_of : List Event → OpId → ℕ
references_of h op = if list_any (is_load_of op) h then 1 + acquires_of h op - releases_of h op else 0

-- it has references
unfoldable pub is_unreleased : List Event → OpId → Bool
is_unreleased h op = nat_lt 0 (references_of h op)

-- the references of the operation that an event opened; only a Load opens one
abbrev pub references_at : List Event → Event → ℕ
references_at h (Load op caller ask) = references_of h op
references_at h (Acquire op caller) = 0
references_at h (Release op caller) = 0
references_at h (Take b worker) = 0
references_at h (Done b worker) = 0
references_at h (Fail b worker cause) = 0
references_at h Close = 0

-- whether the event is the Load of an unreleased operation
abbrev pub is_open_load : List Event → Event → Bool
is_open_load h e = nat_lt 0 (references_at h e)

-- the number of Loads, which is the number of the next operation
unfoldable pub loads_of : List Event → ℕ
loads_of h = count_by is_load h

-- the numbers of all operations
abbrev pub operations_of : List Event → List OpId
operations_of h = map (λ n. record { 0 = n }) (range_with_len 0 (loads_of h))

-- the sum of the operations' references
unfoldable pub references_in : List Event → ℕ
references_in h = sum_by (references_at h) h

-- the bundle's count: the number of unreleased operations that need it
unfoldable pub count_of : Rows → List Event → BundleNo → ℕ
count_of rows h b = count_by (λ e. is_open_load h e && is_in b (needs_of_event rows e)) h

-- the bundles that an operation needs: those of its Load
unfoldable pub needs_of_op : Rows → List Event → OpId → List BundleNo
needs_of_op rows h op = option_map_or (needs_of_event rows) (find (is_load_of op) h) []

-- the rows of an operation: those of its Load
unfoldable pub rows_of_op : Rows → List Event → OpId → List RowNo
rows_of_op rows h op = option_map_or (rows_of_event rows) (find (is_load_of op) h) []
