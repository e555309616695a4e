-- What pieces of work leave, one after the other.
use Rattle.std.specs.Prelude.{ℕ, ◌≡◌, true, List, [], ◌∷◌, Option, Some, None, Result, Ok, Err, slice_get}
use Rattle.addr_base.specs.declared.ids.BundleNo.{BundleNo}
use Rattle.addr_locate.specs.Rows.{Rows}
use Rattle.addr_history.specs.Answers.{take_reply}
use Rattle.addr_history.specs.declared.answers.Next.TheVariants as next
use Rattle.addr_history.specs.declared.answers.NoHandle.{NoHandle}
use Rattle.addr_history.specs.declared.answers.OpStatus.{OpStatus}
use Rattle.addr_history.specs.declared.answers.OpStatus.TheVariants.{Pending}
use Rattle.addr_history.specs.declared.event.Event.{Event}
use Rattle.addr_fetch.specs.declared.fetch.Fetched.{Fetched}
use Rattle.addr_loader.specs.Turn.{Knowledge, rows_of}
use Rattle.addr_loader.specs.Gains.{Gains}
use Rattle.addr_loader.specs.Chain.{Fetching, Chain, events_of}

-- a chain of fetches joins the fetcher before and after, and the pass gained one Take and its end for each, in order, and nothing else
abbrev pub WorksOn : {F : Type 0} → (F → List ℕ → ℕ → Fetched → F → Type 0) → Knowledge → F → Knowledge → F → Type 0
WorksOn gives v f w g = (xs : List Fetching) × Chain gives (rows_of v) f xs g × Gains v w (events_of v.number xs)

-- the operation is no longer pending
abbrev pub IsSettled : Result OpStatus NoHandle → Type 0
IsSettled (Ok Pending) = ⊥
IsSettled _ = Unit {0}

-- the history has the Close, and nothing is queued
abbrev pub IsOver : Rows → List Event → Type 0
IsOver rows h = take_reply rows h ≡ next.End
