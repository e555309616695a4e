-- What a core keeps beside its journal, and what of the history it says: the one invariant, by its parts.
use Rattle.std.specs.declared.alloc.Global.{Global}
use Rattle.std.specs.Prelude.{Vec, vec_len, vec_capacity, IsTrue, ℕ, ◌≡◌, ◌<◌, ◌≤◌, ◌^◌, Bool, true, ◌&&◌, not, length, List, slice_get, Option, Some, None, is_some, if◌then◌else◌}
use Rattle.std.specs.List.{count_by, list_all}
use Rattle.addr_base.specs.declared.ids.BundleNo.{BundleNo}
use Rattle.addr_base.specs.declared.ids.OpId.{OpId}
use Rattle.addr_base.specs.declared.ids.Digest.{Digest}
use Rattle.addr_locate.specs.Rows.{Rows, has_sound_deps}
use Rattle.addr_history.specs.declared.answers.OpStatus.{OpStatus}
use Rattle.addr_history.specs.declared.event.Event.{Event}
use Rattle.addr_history.specs.declared.event.Event.TheVariants.{Load, Acquire, Release, Take, Done, Fail, Close}
use Rattle.addr_history.specs.Events.{is_in}
use Rattle.addr_history.specs.Counts.{references_of, is_unreleased, is_closed, references_in, count_of, needs_of_op, loads_of}
use Rattle.addr_history.specs.Legal.{Legal}
use Rattle.addr_history.specs.Places.{is_resident, is_fetched, is_fetched_by, is_queued, queue, bundles_of}
use Rattle.addr_history.specs.Status.{since_load, first_failure}
use Rattle.addr_queue.specs.Queue.{Ordered}
use Rattle.addr_core.specs.Machine.{HasImages, ImagesFit}
use Rattle.addr_core.specs.declared.courses.Course.{Course}
use Rattle.addr_queue.specs.declared.slots.Slot.{Slot}
use Rattle.addr_core.specs.within.Courses.{times_in, Waiting, waiting_lists}
use Rattle.addr_queue.specs.Slots.{is_by}
use Rattle.addr_core.specs.within.Wanting.{wanted_of_op}
use Rattle.addr_core.specs.declared.wanted.Wanted.{Wanted}

-- the event leaves the same bundles resident: it is a Take, a Fail, the Close, an Acquire, a Release that leaves a reference, or a
-- Done of a bundle whose count is zero
abbrev pub IsQuiet : Rows → List Event → Event → Type 0
IsQuiet rows h (Load op caller ask) = ⊥
IsQuiet rows h (Acquire op caller) = Unit {0}
IsQuiet rows h (Release op caller) = 1 < references_of h op
IsQuiet rows h (Take b worker) = Unit {0}
IsQuiet rows h (Done b worker) = count_of rows h b ≡ 0
IsQuiet rows h (Fail b worker cause) = Unit {0}
IsQuiet rows h Close = Unit {0}

-- what is known of a journal: it is legal and short, and the rows name bundles of theirs
pub record Known (rows : Rows) (limit : ℕ) (h : List Event) : Type 0 where
  pub legal : Legal rows limit h
  pub short : length h ≤ 1000000
  pub sound : IsTrue (list_all (λ a. has_sound_deps (length rows.bundles) a.deps) rows.assets)
  pub positive : 1 ≤ limit
  pub few : limit ≤ 1000000

-- the journal has its whole room; exactly the resident bundles have an image, and each fits its row
pub record IsJournal {I : Type 0} (fits : I → ℕ → Digest → Type 0) (rows : Rows) (limit : ℕ) (events : Vec Event Global) (images : Vec (Option I) Global) : Type 0 where
  pub known : Known rows limit events.items
  pub few_bundles : length rows.bundles < 2 ^ 32
  pub journal_length : vec_len events ≡ length events.items
  pub journal_room : limit ≤ vec_capacity events
  pub held : HasImages (record { rows = rows; limit = limit; history = events.items; images = images.items })
  pub fitting : ImagesFit fits (record { rows = rows; limit = limit; history = events.items; images = images.items })

-- a bundle stands as the history says
pub record IsSlot (rows : Rows) (h : List Event) (b : BundleNo) (s : Slot) : Type 0 where
  pub count : s.count ≡ count_of rows h b
  pub resident : s.resident ≡ is_resident rows h b
  pub fetched : is_some s.fetcher ≡ is_fetched h b
  pub fetcher : (worker : ℕ) → is_by worker s.fetcher ≡ is_fetched_by h b worker
  pub queued : s.queued ≡ is_queued rows h b

-- there is a slot for each bundle, and each says where the bundle stands
pub record AreSlots (rows : Rows) (h : List Event) (slots : List Slot) : Type 0 where
  pub many : length slots ≡ length rows.bundles
  pub each : (b : BundleNo) (s : Slot) → slice_get slots b.0 ≡ Some s → IsSlot rows h b s

-- for each operation that isn't released, the rows that it found and the bundles that they need
pub record AreWanted (rows : Rows) (h : List Event) (wanted : List Wanted) : Type 0 where
  pub many : length wanted ≡ loads_of h
  pub each : (op : OpId) (w : Wanted) → slice_get wanted op.0 ≡ Some w → is_unreleased h op ≡ true → w ≡ wanted_of_op rows h op

-- an operation's first failure, how many of its bundles aren't resident, and whether one of them is such a bundle
abbrev pub failure_of : Rows → List Event → OpId → Option OpStatus
failure_of rows h op = first_failure (needs_of_op rows h op) (since_load op h)

abbrev pub missing_of : Rows → List Event → OpId → ℕ
missing_of rows h op = count_by (λ b. not (is_resident rows h b)) (needs_of_op rows h op)

abbrev pub lacks : Rows → List Event → OpId → BundleNo → Bool
lacks rows h op b = is_in b (needs_of_op rows h op) && not (is_resident rows h b)

-- each operation's course, and for each bundle the operations that wait for it. Of operations that are released only their
-- references are told, and of those that failed no more than that
pub record AreCourses (rows : Rows) (h : List Event) (courses : List Course) (waits : List (List ℕ)) : Type 0 where
  pub many : length courses ≡ loads_of h
  pub references : (op : OpId) (c : Course) → slice_get courses op.0 ≡ Some c → c.references ≡ references_of h op
  pub failed : (op : OpId) (c : Course) → slice_get courses op.0 ≡ Some c → is_unreleased h op ≡ true → c.failed ≡ failure_of rows h op
  pub missing : (op : OpId) (c : Course) → slice_get courses op.0 ≡ Some c → is_unreleased h op ≡ true → failure_of rows h op ≡ None → c.missing ≡ missing_of rows h op
  pub waiting : (op : OpId) (b : BundleNo) (ws : List ℕ) → slice_get waits b.0 ≡ Some ws → is_unreleased h op ≡ true → failure_of rows h op ≡ None → times_in op.0 ws ≡ (if lacks rows h op b then 1 else 0)
  pub known : (b : BundleNo) (ws : List ℕ) → slice_get waits b.0 ≡ Some ws → (n : ℕ) → loads_of h ≤ n → times_in n ws ≡ 0

-- what is kept says what the history says
pub record Holds (rows : Rows) (h : List Event) (wanted : List Wanted) (slots : List Slot) (courses : List Course) (lists : List (List ℕ)) (order : Ordered) (fetched opens : ℕ) (closed : Bool) : Type 0 where
  pub are_wanted : AreWanted rows h wanted
  pub are_slots : AreSlots rows h slots
  pub are_courses : AreCourses rows h courses lists
  pub all_lists : length lists ≡ length rows.bundles
  pub in_order : order ≡ record { room = length rows.bundles; bundles = queue rows h }
  pub now_fetched : fetched ≡ count_by (is_fetched h) (bundles_of rows)
  pub now_open : opens ≡ references_in h
  pub now_closed : closed ≡ is_closed h

-- what a load looks at
pub record IsNow (rows : Rows) (limit : ℕ) (h : List Event) (slots : List Slot) (queued fetched opens : ℕ) (closed : Bool) : Type 0 where
  pub known : Known rows limit h
  pub are_slots : AreSlots rows h slots
  pub now_queued : queued ≡ length (queue rows h)
  pub now_fetched : fetched ≡ count_by (is_fetched h) (bundles_of rows)
  pub now_open : opens ≡ references_in h
  pub now_closed : closed ≡ is_closed h

-- there is room for what each operation that the journal can have adds
abbrev pub HasRooms : ℕ → Vec Wanted Global → Vec Course Global → Type 0
HasRooms limit wanted courses = (limit ≤ vec_capacity wanted) × (limit ≤ vec_capacity courses)

-- what a core keeps
pub record IsCore {I : Type 0} (fits : I → ℕ → Digest → Type 0) (rows : Rows) (limit : ℕ) (events : Vec Event Global) (wanted : Vec Wanted Global) (images : Vec (Option I) Global) (slots : Vec Slot Global) (courses : Vec Course Global) (waits : Vec Waiting Global) (order : Ordered) (fetched opens : ℕ) (closed : Bool) : Type 0 where
  pub journal : IsJournal fits rows limit events images
  pub holds : Holds rows events.items wanted.items slots.items courses.items (waiting_lists waits.items) order fetched opens closed
  pub rooms : HasRooms limit wanted courses
