-- The calls of a script, each at one point of one history.
use Rattle.std.specs.Prelude.{ℕ, ◌≡◌, ◌⊎◌, ◌++◌, Bool, true, false, List, [], ◌∷◌, filter, length, Option, Some, None}
use Rattle.std.specs.List.{AllByRecursion}
use Rattle.addr_base.specs.declared.cause.Cause.{Cause}
use Rattle.addr_base.specs.declared.ids.BundleNo.{BundleNo}
use Rattle.addr_locate.specs.Rows.{Rows}
use Rattle.addr_history.specs.Events.{number_of}
use Rattle.addr_history.specs.Legal.{Legal}
use Rattle.addr_history.specs.Places.{queue}
use Rattle.addr_history.specs.declared.event.Event.{Event}
use Rattle.addr_history.specs.declared.event.Event.TheVariants.{Load, Acquire, Release, Take, Done, Fail, Close}
use Rattle.addr_turn.specs.declared.board.Role.TheVariants.{Idle}
use Rattle.addr_turn.specs.OneHistory.{own, At, HasAll, first_view}
use Rattle.addr_fetch.specs.declared.fetch.Fetched.{Fetched}
use Rattle.addr_loader.specs.Turn.{Knowledge, rows_of, limit_of}
use Rattle.addr_loader.specs.Chain.{Fetching, Chain, events_of, end_of}

-- a Take or its end: what workers record, and whoever waits
abbrev pub is_work : Event → Bool
is_work (Load op caller ask) = false
is_work (Acquire op caller) = false
is_work (Release op caller) = false
is_work (Take b worker) = true
is_work (Done b worker) = true
is_work (Fail b worker cause) = true
is_work Close = false

-- every other event: a change that a script makes
abbrev pub is_change : Event → Bool
is_change (Load op caller ask) = true
is_change (Acquire op caller) = true
is_change (Release op caller) = true
is_change (Take b worker) = false
is_change (Done b worker) = false
is_change (Fail b worker cause) = false
is_change Close = true

-- it has a number: it isn't the Close
abbrev pub is_numbered : Event → Bool
is_numbered (Load op caller ask) = true
is_numbered (Acquire op caller) = true
is_numbered (Release op caller) = true
is_numbered (Take b worker) = true
is_numbered (Done b worker) = true
is_numbered (Fail b worker cause) = true
is_numbered Close = false

-- one call: the history at which it was answered, and the events that it added there
pub record Step : Type 0 where
  pub before : List Event
  pub added : List Event

-- nothing, or one change
abbrev pub IsAdded : List Event → Type 0
IsAdded es = (es ≡ []) ⊎ ((e : Event) × (es ≡ e ∷ []) × (is_change e ≡ true))

-- what the calls added, one after the other
abbrev pub changes : List Step → List Event
changes [] = []
changes (s ∷ ss) = s.added ++ changes ss

-- the history behind the last call, from the one before the first
abbrev pub end_at : List Event → List Step → List Event
end_at from [] = from
end_at from (s ∷ ss) = end_at (s.before ++ s.added) ss

-- no change of the pass with that number
abbrev pub IsQuiet : ℕ → List Event → Type 0
IsQuiet n gap = filter is_change (own number_of n gap) ≡ []

-- the calls one after the other, from one history to another: each history goes on from the one behind the call before, and
-- between them stands no change of the script's
abbrev pub Runs : List Event → List Step → List Event → Type 0
Runs from [] last = (gap : List Event) × (from ++ gap ≡ last) × IsQuiet 0 gap
Runs from (s ∷ ss) last = (gap : List Event) × (from ++ gap ≡ s.before) × IsQuiet 0 gap × Runs (s.before ++ s.added) ss last

-- the script's pass: its number is 0, and it has seen all its own events
abbrev pub IsScripts : Knowledge → Type 0
IsScripts v = (v.number ≡ 0) × (own number_of v.number v.seen ≡ v.mine)

-- what the pass knows of a session that was just opened, and every number is in its domain
abbrev pub IsFirst : Knowledge → Type 0
IsFirst v = (v ≡ first_view (rows_of v, limit_of v)) × HasAll v

-- the Close is one of the events
abbrev pub HasClose : List Event → Type 0
HasClose es = (x : List Event) × (y : List Event) × (es ≡ x ++ Close ∷ y)

-- what the script's pass and its fetcher have become by these calls
pub record Played {F : Type 0} (gives : F → List ℕ → ℕ → Fetched → F → Type 0) (v : Knowledge) (f : F) (ss : List Step) (w : Knowledge) (g : F) : Type 0 where
  pub runs : Runs v.seen ss w.seen
  pub added : AllByRecursion (λ s. IsAdded s.added) ss
  -- nothing else of the pass is another
  pub same : w ≡ record v { role = w.role; seen = w.seen; mine = w.mine; bare = w.bare }
  pub own_are : own number_of v.number w.seen ≡ w.mine
  -- the fetches that it made while it waited, a chain of its fetcher
  pub fetchings : List Fetching
  pub chain : Chain gives (rows_of v) f fetchings g
  pub works : filter is_work w.mine ≡ filter is_work v.mine ++ events_of 0 fetchings
  pub bare : (w.bare ≡ v.bare) ⊎ HasClose (changes ss)

-- each Take has a later end by its worker
abbrev pub TakesEnd : List Event → Type 0
TakesEnd h = (x : List Event) (b : BundleNo) (n : ℕ) (y : List Event) → h ≡ x ++ Take b n ∷ y → (cause : Option Cause) × (p : ℕ) × At y p (end_of n b cause)

-- a chain joins the fetcher as it was handed in to the fetcher as it came back, with one answer for each Take of that number, in order
pub record IsChained {F : Type 0} (gives : F → List ℕ → ℕ → Fetched → F → Type 0) (rows : Rows) (h : List Event) (f g : F) (n : ℕ) : Type 0 where
  pub fetchings : List Fetching
  pub chain : Chain gives rows f fetchings g
  pub works : filter is_work (own number_of n h) ≡ events_of n fetchings

-- what the last history of a run is, in which these calls were made: its changes are theirs, each Take has its end, nothing is
-- queued, and it is legal
pub record IsLive (rows : Rows) (limit : ℕ) (ss : List Step) (h : List Event) : Type 0 where
  pub runs : Runs [] ss h
  pub added : AllByRecursion (λ s. IsAdded s.added) ss
  pub changes_are : filter is_change h ≡ changes ss
  pub ended : TakesEnd h
  pub queue_is : queue rows h ≡ []
  pub legal : Legal rows limit h
