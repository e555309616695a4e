-- What `load` prints: the reply to each command, with the length of the history that the script had then seen, and the journal.
use Rattle.std.specs.Prelude.{ℕ, ◌≡◌, ◌++◌, Bool, true, false, List, [], ◌∷◌, map, length, codes, decimal, Option, Some, None, Result, Ok, Err, slice_get, unwrap_or}
use Rattle.std.specs.List.{AllByRecursion, flat_map}
use Rattle.addr_base.specs.Images.{Object}
use Rattle.addr_base.specs.Tokens.{token_of}
use Rattle.addr_base.specs.declared.cause.Cause.{Cause}
use Rattle.addr_base.specs.declared.ids.BundleNo.{BundleNo}
use Rattle.addr_base.specs.declared.ids.KeyNo.{KeyNo}
use Rattle.addr_cab.specs.Lookup.{Held, Fits, object_with}
use Rattle.addr_locate.specs.Rows.{Rows, text_at}
use Rattle.addr_locate.specs.declared.rows.Kind.{Kind}
use Rattle.addr_locate.specs.declared.rows.Kind.TheVariants.{Any, Known, Unknown}
use Rattle.addr_history.specs.Answers.{close_adds}
use Rattle.addr_history.specs.Calls.{Call, AnswerOf, Answers, IsAnswered, added_by}
use Rattle.addr_history.specs.Calls.Call.{load, acquire, release, status, references, read, read_all, take, done, fail, close, count}
use Rattle.addr_history.specs.Reading.{Reads}
use Rattle.addr_history.specs.Unfolding.{ReadsAll}
use Rattle.addr_history.specs.declared.answers.OpStatus.TheVariants.{Pending}
use Rattle.addr_history.specs.declared.event.Event.{Event}
use Rattle.addr_history.specs.declared.event.Event.TheVariants as event
use Rattle.addr_core.specs.Machine.{Machine, HasImages, ImagesFit}
use Rattle.addr_objects.specs.Objects.{objects_in}
use Rattle.addr_script.specs.Causes.{cause_text}
use Rattle.addr_script.specs.Commands.{mode_word, one_or_all}
use Rattle.addr_script.specs.Replies.{reply_text}
use Rattle.addr_script.specs.Scripts.{ReadsScript, Script}
use Rattle.addr_script.specs.declared.command.Command.{Command}
use Rattle.addr_script.specs.declared.command.Command.TheVariants as command
use Rattle.addr_script.specs.declared.command.Grammar.TheVariants.{Load as Live}
use Rattle.addr_script.specs.declared.reply.Reply.{Reply}
use Rattle.addr_simulate.specs.SimText.{calls_of, reply_of}
use Rattle.addr_live.specs.Steps.{Step, IsLive, end_at}

-- an image for each bundle that is resident at the history, and no other; each is of a file with its row's size and digest
pub record AreImages (rows : Rows) (limit : ℕ) (h : List Event) (images : List (Option Held)) : Type 0 where
  pub held : HasImages (record { rows = rows; limit = limit; history = h; images = images })
  pub fitting : ImagesFit Fits (record { rows = rows; limit = limit; history = h; images = images })

-- no image: what calls that read none are answered over
abbrev pub no_objects : BundleNo → List ℕ → Option Object
no_objects b guid = None

-- what a call is answered at a history, a reading one over such images
abbrev pub IsAnsweredAt : Rows → ℕ → List Event → (call : Call) → AnswerOf call → Type 0
IsAnsweredAt rows limit h (load caller ask) answer = IsAnswered no_objects rows limit h (load caller ask) answer
IsAnsweredAt rows limit h (acquire caller op) answer = IsAnswered no_objects rows limit h (acquire caller op) answer
IsAnsweredAt rows limit h (release caller op) answer = IsAnswered no_objects rows limit h (release caller op) answer
IsAnsweredAt rows limit h (references op) answer = IsAnswered no_objects rows limit h (references op) answer
IsAnsweredAt rows limit h (status op) answer = IsAnswered no_objects rows limit h (status op) answer
IsAnsweredAt rows limit h (read op i) answer = (images : List (Option Held)) × AreImages rows limit h images × Reads (objects_in object_with images) rows h op i answer
IsAnsweredAt rows limit h (read_all op i) answer = (images : List (Option Held)) × AreImages rows limit h images × ReadsAll (objects_in object_with images) rows h op i answer
IsAnsweredAt rows limit h (take worker) answer = IsAnswered no_objects rows limit h (take worker) answer
IsAnsweredAt rows limit h (done worker b) answer = IsAnswered no_objects rows limit h (done worker b) answer
IsAnsweredAt rows limit h (fail worker b cause) answer = IsAnswered no_objects rows limit h (fail worker b cause) answer
IsAnsweredAt rows limit h close answer = IsAnswered no_objects rows limit h close answer
IsAnsweredAt rows limit h (count b) answer = IsAnswered no_objects rows limit h (count b) answer

-- each of some calls is answered at its history, and adds there what its answer says
abbrev pub AreMade : Rows → ℕ → (calls : List Call) → Answers calls → List Step → Type 0
AreMade rows limit [] answers [] = Unit {0}
AreMade rows limit [] answers (s ∷ ss) = ⊥
AreMade rows limit (call ∷ calls) answers [] = ⊥
AreMade rows limit (call ∷ calls) answers (s ∷ ss) = IsAnsweredAt rows limit s.before call answers.first × (s.added ≡ added_by s.before call answers.first) × AreMade rows limit calls answers.rest ss

-- a wait is answered once its operation is no longer pending
abbrev pub IsSettledLine : (rows : Rows) (c : Command) → Answers (calls_of rows c) → Type 0
IsSettledLine rows (command.Wait op) answers = answers.first ≡ Ok Pending → ⊥
IsSettledLine rows (command.Load caller all mode kind keys) answers = Unit {0}
IsSettledLine rows (command.Acquire caller op) answers = Unit {0}
IsSettledLine rows (command.Release caller op) answers = Unit {0}
IsSettledLine rows (command.Status op) answers = Unit {0}
IsSettledLine rows (command.References op) answers = Unit {0}
IsSettledLine rows (command.Read op i) answers = Unit {0}
IsSettledLine rows (command.ReadAll op i) answers = Unit {0}
IsSettledLine rows (command.Count b) answers = Unit {0}
IsSettledLine rows command.Close answers = Unit {0}
IsSettledLine rows (command.Take worker) answers = Unit {0}
IsSettledLine rows (command.Done worker b) answers = Unit {0}
IsSettledLine rows (command.Fail worker b cause) answers = Unit {0}

-- a command with its reply, and the calls that it made
pub record Line : Type 0 where
  pub asked : Command
  pub reply : Reply
  pub steps : List Step

-- the command's calls are answered as the one-thread machine answers them at their histories, and the reply is made of the answers
pub record IsLine (rows : Rows) (limit : ℕ) (line : Line) : Type 0 where
  pub answers : Answers (calls_of rows line.asked)
  pub made : AreMade rows limit (calls_of rows line.asked) answers line.steps
  pub told : line.reply ≡ reply_of rows line.asked answers
  pub settled : IsSettledLine rows line.asked answers

-- the length of the history behind a line's last call
abbrev pub place_of : Line → ℕ
place_of line = length (end_at [] line.steps)

-- a reply and its place, and those of all lines, one line each (32 is a space, 64 an at sign, 10 ends a line)
abbrev pub line_text : Reply → ℕ → List ℕ
line_text reply place = reply_text reply ++ 32 ∷ 64 ∷ (decimal place ++ 10 ∷ [])

abbrev pub lines_text : List Line → List ℕ
lines_text [] = []
lines_text (line ∷ lines) = line_text line.reply (place_of line) ++ lines_text lines

-- the type that a load asked for: any, one that no row has, or the token of its text
abbrev pub kind_text : Rows → Kind → List ℕ
kind_text rows Any = codes "%*"
kind_text rows Unknown = codes "%?"
kind_text rows (Known n) = token_of (text_at rows.kinds n.0)

-- a key that a load asked for: one that no row has, or the token of its text
abbrev pub key_text : Rows → Option KeyNo → List ℕ
key_text rows None = codes "%?"
key_text rows (Some n) = token_of (text_at rows.keys n.0)

-- the keys, a comma (44) between each two
abbrev pub keys_text : Rows → List (Option KeyNo) → List ℕ
keys_text rows [] = []
keys_text rows (key ∷ keys) = key_text rows key ++ flat_map (λ k. 44 ∷ key_text rows k) keys

-- an event as the journal prints it
abbrev pub event_text : Rows → Event → List ℕ
event_text rows (event.Load op caller ask) = codes "L " ++ (decimal op.0 ++ 32 ∷ (decimal caller ++ 32 ∷ (one_or_all ask.all ++ 32 ∷ (mode_word ask.mode ++ 32 ∷ (kind_text rows ask.kind ++ 32 ∷ keys_text rows ask.keys)))))
event_text rows (event.Acquire op caller) = codes "A " ++ (decimal op.0 ++ 32 ∷ decimal caller)
event_text rows (event.Release op caller) = codes "R " ++ (decimal op.0 ++ 32 ∷ decimal caller)
event_text rows (event.Take b worker) = codes "T " ++ (decimal b.0 ++ 32 ∷ decimal worker)
event_text rows (event.Done b worker) = codes "D " ++ (decimal b.0 ++ 32 ∷ decimal worker)
event_text rows (event.Fail b worker cause) = codes "F " ++ (decimal b.0 ++ 32 ∷ (decimal worker ++ 32 ∷ cause_text cause))
event_text rows event.Close = codes "C"

abbrev pub events_text : Rows → List Event → List ℕ
events_text rows es = flat_map (λ e. event_text rows e ++ 10 ∷ []) es

-- how many events there are, and each on a line
abbrev pub journal_text : Rows → List Event → List ℕ
journal_text rows h = codes "journal " ++ (decimal (length h) ++ 10 ∷ events_text rows h)

-- a script was played beside workers: its commands' calls, and a last close, one after the other on one history, which has no other
-- change; and the text prints them
pub record LiveText (rows : Rows) (limit : ℕ) (commands : List Command) (h : List Event) (text : List ℕ) : Type 0 where
  pub lines : List Line
  pub asked : map (λ l. l.asked) lines ≡ commands
  pub are_lines : AllByRecursion (IsLine rows limit) lines
  pub closing : Step
  pub close_is : closing.added ≡ close_adds closing.before
  pub live : IsLive rows limit (flat_map (λ l. l.steps) lines ++ closing ∷ []) h
  pub text_is : text ≡ lines_text lines ++ journal_text rows h
