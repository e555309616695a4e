-- What one event says, and how a question is put to a whole history: by the events before a place and those after it.
use Rattle.std.specs.Prelude.{ℕ, ◌==◌, Bool, true, false, ◌&&◌, ◌||◌, List, [], ◌∷◌, ◌++◌, take, Option, Some, None, if◌then◌else◌}
use Rattle.std.specs.List.{list_any}
use Rattle.addr_base.specs.declared.ids.BundleNo.{BundleNo}
use Rattle.addr_base.specs.declared.ids.OpId.{OpId}
use Rattle.addr_base.specs.declared.ids.RowNo.{RowNo}
use Rattle.addr_locate.specs.Rows.{Rows}
use Rattle.addr_locate.specs.Merge.{merged, deps_of}
use Rattle.addr_history.specs.declared.ask.Ask.{Ask}
use Rattle.addr_history.specs.declared.event.Event.{Event}
use Rattle.addr_history.specs.declared.event.Event.TheVariants.{Load, Acquire, Release, Take, Done, Fail, Close}

-- whether the bundle is one of some
abbrev pub is_in : BundleNo → List BundleNo → Bool
is_in b bs = list_any (λ c. c.0 == b.0) bs

-- the rows that an ask finds: those that its keys lead to, or the first of them alone
abbrev pub rows_of_ask : Rows → Ask → List RowNo
rows_of_ask rows ask = if ask.all then merged rows.assets ask.keys ask.mode ask.kind else take 1 (merged rows.assets ask.keys ask.mode ask.kind)

-- the bundles that an ask needs: those of its rows, each once, in order of first occurrence
unfoldable pub needs_of : Rows → Ask → List BundleNo
needs_of rows ask = deps_of rows.assets (rows_of_ask rows ask)

-- the bundles that an event asks for: those of a Load; another event asks for none
abbrev pub needs_of_event : Rows → Event → List BundleNo
needs_of_event rows (Load op caller ask) = needs_of rows ask
needs_of_event rows (Acquire op caller) = []
needs_of_event rows (Release op caller) = []
needs_of_event rows (Take b worker) = []
needs_of_event rows (Done b worker) = []
needs_of_event rows (Fail b worker cause) = []
needs_of_event rows Close = []

-- the rows that an event finds: those of a Load; another event finds none
abbrev pub rows_of_event : Rows → Event → List RowNo
rows_of_event rows (Load op caller ask) = rows_of_ask rows ask
rows_of_event rows (Acquire op caller) = []
rows_of_event rows (Release op caller) = []
rows_of_event rows (Take b worker) = []
rows_of_event rows (Done b worker) = []
rows_of_event rows (Fail b worker cause) = []
rows_of_event rows Close = []

-- whether the event is a Load, or the one of an operation; an Acquire or a Release of it; the Close
abbrev pub is_load : Event → Bool
is_load (Load op caller ask) = true
is_load (Acquire op caller) = false
is_load (Release op caller) = false
is_load (Take b worker) = false
is_load (Done b worker) = false
is_load (Fail b worker cause) = false
is_load Close = false

abbrev pub is_load_of : OpId → Event → Bool
is_load_of asked (Load op caller ask) = op.0 == asked.0
is_load_of asked (Acquire op caller) = false
is_load_of asked (Release op caller) = false
is_load_of asked (Take b worker) = false
is_load_of asked (Done b worker) = false
is_load_of asked (Fail b worker cause) = false
is_load_of asked Close = false

abbrev pub is_acquire_of : OpId → Event → Bool
is_acquire_of asked (Acquire op caller) = op.0 == asked.0
is_acquire_of asked (Load op caller ask) = false
is_acquire_of asked (Release op caller) = false
is_acquire_of asked (Take b worker) = false
is_acquire_of asked (Done b worker) = false
is_acquire_of asked (Fail b worker cause) = false
is_acquire_of asked Close = false

abbrev pub is_release_of : OpId → Event → Bool
is_release_of asked (Release op caller) = op.0 == asked.0
is_release_of asked (Load op caller ask) = false
is_release_of asked (Acquire op caller) = false
is_release_of asked (Take b worker) = false
is_release_of asked (Done b worker) = false
is_release_of asked (Fail b worker cause) = false
is_release_of asked Close = false

abbrev pub is_close : Event → Bool
is_close Close = true
is_close (Load op caller ask) = false
is_close (Acquire op caller) = false
is_close (Release op caller) = false
is_close (Take b worker) = false
is_close (Done b worker) = false
is_close (Fail b worker cause) = false

-- whether the event is a Take of the bundle, or one by that worker; a Done of it; a Done or a Fail of it
abbrev pub is_take_of : BundleNo → Event → Bool
is_take_of asked (Take b worker) = b.0 == asked.0
is_take_of asked (Load op caller ask) = false
is_take_of asked (Acquire op caller) = false
is_take_of asked (Release op caller) = false
is_take_of asked (Done b worker) = false
is_take_of asked (Fail b worker cause) = false
is_take_of asked Close = false

abbrev pub is_take_by : BundleNo → ℕ → Event → Bool
is_take_by asked by (Take b worker) = b.0 == asked.0 && worker == by
is_take_by asked by (Load op caller ask) = false
is_take_by asked by (Acquire op caller) = false
is_take_by asked by (Release op caller) = false
is_take_by asked by (Done b worker) = false
is_take_by asked by (Fail b worker cause) = false
is_take_by asked by Close = false

abbrev pub is_done_of : BundleNo → Event → Bool
is_done_of asked (Done b worker) = b.0 == asked.0
is_done_of asked (Load op caller ask) = false
is_done_of asked (Acquire op caller) = false
is_done_of asked (Release op caller) = false
is_done_of asked (Take b worker) = false
is_done_of asked (Fail b worker cause) = false
is_done_of asked Close = false

abbrev pub is_end_of : BundleNo → Event → Bool
is_end_of asked (Done b worker) = b.0 == asked.0
is_end_of asked (Fail b worker cause) = b.0 == asked.0
is_end_of asked (Load op caller ask) = false
is_end_of asked (Acquire op caller) = false
is_end_of asked (Release op caller) = false
is_end_of asked (Take b worker) = false
is_end_of asked Close = false

-- the number of an event: its caller or its worker; Close has none
abbrev pub number_of : Event → Option ℕ
number_of (Load op caller ask) = Some caller
number_of (Acquire op caller) = Some caller
number_of (Release op caller) = Some caller
number_of (Take b worker) = Some worker
number_of (Done b worker) = Some worker
number_of (Fail b worker cause) = Some worker
number_of Close = None

-- the bundle of which a Take, a Done or a Fail speaks
abbrev pub bundle_of : Event → Option BundleNo
bundle_of (Take b worker) = Some b
bundle_of (Done b worker) = Some b
bundle_of (Fail b worker cause) = Some b
bundle_of (Load op caller ask) = None
bundle_of (Acquire op caller) = None
bundle_of (Release op caller) = None
bundle_of Close = None

-- whether some event, with the history before it and the one after it, passes a test
abbrev pub some_event : (List Event → Event → List Event → Bool) → List Event → List Event → Bool
some_event test before [] = false
some_event test before (e ∷ after) = test before e after || some_event test (before ++ e ∷ []) after

-- whether the history passes a test at each of its points, from the given one on
abbrev pub each_point : (List Event → Bool) → List Event → List Event → Bool
each_point test before [] = test before
each_point test before (e ∷ after) = test before && each_point test (before ++ e ∷ []) after

-- what each event, with the history before it and the one after it, gives: one list behind the other
abbrev pub over_events : (List Event → Event → List Event → List BundleNo) → List Event → List Event → List BundleNo
over_events given before [] = []
over_events given before (e ∷ after) = given before e after ++ over_events given (before ++ e ∷ []) after
