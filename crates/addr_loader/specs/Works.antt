-- What one piece of work leaves.
use Rattle.std.specs.Prelude.{ℕ, ◌≡◌, true, List, [], ◌∷◌, Option, Some, None, Result, Ok, Err}
use Rattle.addr_base.specs.declared.cause.Cause.{Cause}
use Rattle.addr_base.specs.declared.ids.BundleNo.{BundleNo}
use Rattle.addr_history.specs.Answers.{take_reply}
use Rattle.addr_history.specs.Places.{is_fetched_by}
use Rattle.addr_history.specs.declared.answers.Next.TheVariants as next
use Rattle.addr_history.specs.declared.event.Event.{Event}
use Rattle.addr_history.specs.Events.{number_of}
use Rattle.addr_turn.specs.OneHistory.{own}
use Rattle.addr_fetch.specs.declared.fetch.Fetched.{Fetched}
use Rattle.addr_loader.specs.declared.worker.Worked.{Worked}
use Rattle.addr_loader.specs.declared.worker.Worked.TheVariants as worked
use Rattle.addr_loader.specs.Turn.{Knowledge, rows_of}
use Rattle.addr_loader.specs.Gains.{Gains}
use Rattle.addr_loader.specs.Chain.{Fetching, Fetches, events_of, end_of}

-- the cause of a Fail, none where there is an image
abbrev pub ended_cause : {I : Type 0} → Result I Cause → Option Cause
ended_cause (Ok image) = None
ended_cause (Err cause) = Some cause

-- the worker has taken the bundle, and has seen all its own events
abbrev pub IsAtWork : Knowledge → BundleNo → Type 0
IsAtWork v b = (own number_of v.number v.seen ≡ v.mine) × (is_fetched_by v.seen b v.number ≡ true)

module _ {F : Type 0} (gives : F → List ℕ → ℕ → Fetched → F → Type 0) where
  -- after the Take: one fetch, and the end that its answer says
  abbrev pub Carried : Knowledge → BundleNo → F → Knowledge → F → Type 0
  Carried v b f w g = (x : Fetching) × (x.b ≡ b) × Fetches gives (rows_of v) f x g × Gains v w (end_of v.number b x.cause ∷ [])

  abbrev pub Works : Knowledge → F → Worked → Knowledge → F → Type 0
  Works v f (worked.Did b) w g = (x : Fetching) × (x.b ≡ b) × Fetches gives (rows_of v) f x g × Gains v w (events_of v.number (x ∷ []))
  Works v f worked.Idle w g = Gains v w [] × (take_reply (rows_of v) w.seen ≡ next.Idle) × (g ≡ f)
  Works v f worked.End w g = Gains v w [] × (take_reply (rows_of v) w.seen ≡ next.End) × (g ≡ f)
