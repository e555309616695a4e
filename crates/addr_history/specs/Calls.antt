-- The calls of the machine as data, and what some calls, made one after the other, are answered: what the lines of a script are
-- made of.
use Rattle.std.specs.Prelude.{ℕ, ◌≡◌, Bool, List, [], ◌∷◌, ◌++◌, Option, Result}
use Rattle.addr_base.specs.Images.{Object}
use Rattle.addr_base.specs.declared.cause.Cause.{Cause}
use Rattle.addr_base.specs.declared.ids.BundleNo.{BundleNo}
use Rattle.addr_base.specs.declared.ids.OpId.{OpId}
use Rattle.addr_locate.specs.Rows.{Rows}
use Rattle.addr_history.specs.declared.answers.BundleState.{BundleState}
use Rattle.addr_history.specs.declared.answers.Next.{Next}
use Rattle.addr_history.specs.declared.answers.NoHandle.{NoHandle}
use Rattle.addr_history.specs.declared.answers.NotTaken.{NotTaken}
use Rattle.addr_history.specs.declared.answers.OpStatus.{OpStatus}
use Rattle.addr_history.specs.declared.answers.Settled.{Settled}
use Rattle.addr_history.specs.declared.ask.Ask.{Ask}
use Rattle.addr_history.specs.declared.error.AcquireErr.{AcquireErr}
use Rattle.addr_history.specs.declared.error.LoadErr.{LoadErr}
use Rattle.addr_history.specs.declared.event.Event.{Event}
use Rattle.addr_history.specs.declared.reading.Item2.{Item2}
use Rattle.addr_history.specs.declared.reading.ReadErr.{ReadErr}
use Rattle.addr_history.specs.Answers.{load_reply, load_adds, acquire_reply, acquire_adds, release_reply, release_adds, status_reply, take_reply, take_adds, done_reply, done_adds, fail_reply, fail_adds, close_reply, close_adds, count_reply}
use Rattle.addr_history.specs.Counts.{references_of}
use Rattle.addr_history.specs.Reading.{Reads}
use Rattle.addr_history.specs.Unfolding.{ReadsAll}

-- a call with its arguments; a `done` without its image
pub data Call : Type 0 where
  load : ℕ → Ask → Call
  acquire : ℕ → OpId → Call
  release : ℕ → OpId → Call
  references : OpId → Call
  status : OpId → Call
  read : OpId → ℕ → Call
  read_all : OpId → ℕ → Call
  take : ℕ → Call
  done : ℕ → BundleNo → Call
  fail : ℕ → BundleNo → Cause → Call
  close : Call
  count : BundleNo → Call

-- what a call may be answered; the image that comes back from a `done` is left out
abbrev pub AnswerOf : Call → Type 0
AnswerOf (load caller ask) = Result OpId LoadErr
AnswerOf (acquire caller op) = Result (Unit {0}) AcquireErr
AnswerOf (release caller op) = Result (Unit {0}) NoHandle
AnswerOf (references op) = ℕ
AnswerOf (status op) = Result OpStatus NoHandle
AnswerOf (read op i) = Result (List ℕ) ReadErr
AnswerOf (read_all op i) = Result (List Item2) ReadErr
AnswerOf (take worker) = Next
AnswerOf (done worker b) = Result Settled (Unit {0})
AnswerOf (fail worker b cause) = Result (Unit {0}) NotTaken
AnswerOf close = Bool
AnswerOf (count b) = Option (ℕ × BundleState)

-- what a call is answered at a history, over what the images hold
abbrev pub IsAnswered : (BundleNo → List ℕ → Option Object) → Rows → ℕ → List Event → (call : Call) → AnswerOf call → Type 0
IsAnswered objects rows limit h (load caller ask) answer = answer ≡ load_reply rows limit h ask
IsAnswered objects rows limit h (acquire caller op) answer = answer ≡ acquire_reply rows limit h op
IsAnswered objects rows limit h (release caller op) answer = answer ≡ release_reply h op
IsAnswered objects rows limit h (references op) answer = answer ≡ references_of h op
IsAnswered objects rows limit h (status op) answer = answer ≡ status_reply rows h op
IsAnswered objects rows limit h (read op i) answer = Reads objects rows h op i answer
IsAnswered objects rows limit h (read_all op i) answer = ReadsAll objects rows h op i answer
IsAnswered objects rows limit h (take worker) answer = answer ≡ take_reply rows h
IsAnswered objects rows limit h (done worker b) answer = answer ≡ done_reply rows h worker b tt
IsAnswered objects rows limit h (fail worker b cause) answer = answer ≡ fail_reply h worker b
IsAnswered objects rows limit h close answer = answer ≡ close_reply h
IsAnswered objects rows limit h (count b) answer = answer ≡ count_reply rows h b

-- the events that a call adds to a history
abbrev pub added_by : List Event → (call : Call) → AnswerOf call → List Event
added_by h (load caller ask) answer = load_adds answer caller ask
added_by h (acquire caller op) answer = acquire_adds answer caller op
added_by h (release caller op) answer = release_adds h caller op
added_by h (references op) answer = []
added_by h (status op) answer = []
added_by h (read op i) answer = []
added_by h (read_all op i) answer = []
added_by h (take worker) answer = take_adds answer worker
added_by h (done worker b) answer = done_adds h worker b
added_by h (fail worker b cause) answer = fail_adds h worker b cause
added_by h close answer = close_adds h
added_by h (count b) answer = []

-- one thing, and more behind it
pub record Both (A B : Type 0) : Type 0 where
  pub first : A
  pub rest : B

-- an answer for each of some calls
abbrev pub Answers : List Call → Type 0
Answers [] = Unit {0}
Answers (call ∷ calls) = Both (AnswerOf call) (Answers calls)

-- the calls are answered one after the other, each at the history that the events before it make; and the history behind them
abbrev pub AreAnswered : (BundleNo → List ℕ → Option Object) → Rows → ℕ → List Event → (calls : List Call) → Answers calls → List Event → Type 0
AreAnswered objects rows limit h [] answers after = after ≡ h
AreAnswered objects rows limit h (call ∷ calls) answers after = IsAnswered objects rows limit h call answers.first × AreAnswered objects rows limit (h ++ added_by h call answers.first) calls answers.rest after
