-- What `simulate` prints: the replies to the commands one after the other, each at the history that the events before it
-- make, from the empty one. A command makes calls of the machine; their answers make its reply.
use Rattle.std.specs.Prelude.{ℕ, Bool, true, false, List, [], ◌∷◌, ◌++◌, ◌≡◌, Option, Some, None, Result, Ok, Err, length, map, unwrap_or, slice_get}
use Rattle.std.specs.Option.{option_map, option_map_or}
use Rattle.addr_base.specs.Images.{Object}
use Rattle.addr_base.specs.Tokens.{token_of}
use Rattle.addr_base.specs.declared.ids.BundleNo.{BundleNo}
use Rattle.addr_base.specs.declared.ids.OpId.{OpId}
use Rattle.addr_locate.specs.Rows.{Rows, key_of, kind_of}
use Rattle.addr_locate.specs.declared.rows.Kind.{Kind}
use Rattle.addr_locate.specs.declared.rows.Kind.TheVariants.{Any, Known, Unknown}
use Rattle.addr_locate.specs.declared.rows.Merge.{Merge}
use Rattle.addr_history.specs.Calls.{Call, Answers, AreAnswered}
use Rattle.addr_history.specs.Calls.Call.{load, acquire, release, status, references, read, read_all, take, done, fail, close, count}
use Rattle.addr_history.specs.declared.answers.BundleState.{BundleState}
use Rattle.addr_history.specs.declared.answers.NoHandle.{NoHandle as NoHandleErr}
use Rattle.addr_history.specs.declared.answers.NotTaken.{NotTaken as NotTakenErr}
use Rattle.addr_history.specs.declared.answers.OpStatus.{OpStatus}
use Rattle.addr_history.specs.declared.answers.OpStatus.TheVariants.{Pending, Failed}
use Rattle.addr_history.specs.declared.answers.Settled.{Settled as SettledWord}
use Rattle.addr_history.specs.declared.ask.Ask.{Ask}
use Rattle.addr_history.specs.declared.error.AcquireErr.{AcquireErr}
use Rattle.addr_history.specs.declared.error.AcquireErr.TheVariants as acquiring
use Rattle.addr_history.specs.declared.error.LoadErr.{LoadErr}
use Rattle.addr_history.specs.declared.error.LoadErr.TheVariants as loading
use Rattle.addr_history.specs.declared.event.Event.{Event}
use Rattle.addr_history.specs.declared.reading.Item2.{Item2}
use Rattle.addr_history.specs.declared.reading.ReadErr.{ReadErr}
use Rattle.addr_history.specs.declared.reading.ReadErr.TheVariants as reading
use Rattle.addr_core.specs.Machine.{Machine}
use Rattle.addr_script.specs.Replies.{content_text, items_text, reply_text}
use Rattle.addr_script.specs.declared.command.Command.{Command}
use Rattle.addr_script.specs.declared.command.Command.TheVariants.{Load, Acquire, Release, Status, Wait, References, Read, ReadAll, Count, Close, Take, Done, Fail}
use Rattle.addr_script.specs.declared.command.Grammar.TheVariants.{Simulate}
use Rattle.addr_script.specs.declared.reply.Reply.{Reply}
use Rattle.addr_script.specs.Scripts.{ReadsScript, Script}
use Rattle.addr_script.specs.declared.error.ScriptErr.{ScriptErr}
use Rattle.addr_script.specs.declared.reply.Reply.TheVariants.{Opened, NoLocation, JournalFull, Closed, Acquired, Released, NoHandle, Status as StatusReply, References as ReferencesReply, Next, Settled, NotTaken, Noted, NowClosed, Counted, NoBundle, Bytes, All, NoAsset, AbsentFrom}

-- what the image holds that a script's `done` hands in: under each GUID its own 16 bytes, and no references
abbrev pub sim_objects : BundleNo → List ℕ → Option Object
sim_objects b guid = Some (record { bytes = guid; refs = [] })

-- the type that a load asks for; one that no row has is unknown
abbrev pub asked_kind : Rows → Option (List ℕ) → Kind
asked_kind rows None = Any
asked_kind rows (Some kind) = option_map_or Known (kind_of rows kind) Unknown

-- what a load asks the machine for, its keys and its type by number
abbrev pub ask_of : Rows → Bool → Merge → Option (List ℕ) → List (List ℕ) → Ask
ask_of rows all mode kind keys = record { keys = map (key_of rows) keys; mode = mode; kind = asked_kind rows kind; all = all }

-- the token of the key at that place
abbrev pub key_token : List (List ℕ) → ℕ → List ℕ
key_token keys place = token_of (unwrap_or (slice_get keys place) [])

-- the reply to a load; want of memory is never its answer, and ends a run
abbrev pub load_answer : List (List ℕ) → Result OpId LoadErr → Reply
load_answer keys (Ok op) = Opened op
load_answer keys (Err (loading.NoLocation first)) = NoLocation (option_map (key_token keys) first)
load_answer keys (Err (loading.JournalFull used reserved needed)) = JournalFull used reserved needed
load_answer keys (Err loading.Closed) = Closed
load_answer keys (Err loading.NoMemory) = Closed

abbrev pub acquire_answer : Result (Unit {0}) AcquireErr → Reply
acquire_answer (Ok _) = Acquired
acquire_answer (Err acquiring.NoHandle) = NoHandle
acquire_answer (Err (acquiring.JournalFull used reserved needed)) = JournalFull used reserved needed

abbrev pub release_answer : Result (Unit {0}) NoHandleErr → Reply
release_answer (Ok _) = Released
release_answer (Err _) = NoHandle

abbrev pub status_answer : Result OpStatus NoHandleErr → Reply
status_answer (Ok found) = StatusReply found
status_answer (Err _) = NoHandle

-- the reply where nothing is read; here too want of memory is never the answer
abbrev pub read_refusal : ReadErr → Reply
read_refusal reading.NoHandle = NoHandle
read_refusal reading.NoAsset = NoAsset
read_refusal reading.Pending = StatusReply Pending
read_refusal (reading.Failed b cause) = StatusReply (Failed b cause)
read_refusal (reading.Absent b) = AbsentFrom b
read_refusal reading.NoMemory = NoAsset

-- the reply to a read, and to one with all that it leads to
abbrev pub read_answer : Result (List ℕ) ReadErr → Reply
read_answer (Ok bytes) = Bytes (length bytes) (content_text bytes)
read_answer (Err refusal) = read_refusal refusal

abbrev pub read_all_answer : Result (List Item2) ReadErr → Reply
read_all_answer (Ok items) = All (length items) (items_text items)
read_all_answer (Err refusal) = read_refusal refusal

abbrev pub done_answer : {I : Type 0} → Result SettledWord I → Reply
done_answer (Ok settled) = Settled settled
done_answer (Err _) = NotTaken

abbrev pub fail_answer : Result (Unit {0}) NotTakenErr → Reply
fail_answer (Ok _) = Noted
fail_answer (Err _) = NotTaken

abbrev pub close_answer : Bool → Reply
close_answer true = NowClosed
close_answer false = Closed

abbrev pub count_answer : Option (ℕ × BundleState) → Reply
count_answer (Some p) = Counted p.0 p.1
count_answer None = NoBundle

-- the calls that a command makes
abbrev pub calls_of : Rows → Command → List Call
calls_of rows (Load caller all mode kind keys) = load caller (ask_of rows all mode kind keys) ∷ []
calls_of rows (Acquire caller op) = acquire caller op ∷ []
calls_of rows (Release caller op) = release caller op ∷ []
calls_of rows (Status op) = status op ∷ []
calls_of rows (Wait op) = status op ∷ []
calls_of rows (References op) = references op ∷ []
calls_of rows (Read op i) = read op i ∷ []
calls_of rows (ReadAll op i) = read_all op i ∷ []
calls_of rows (Count b) = count b ∷ []
calls_of rows Close = close ∷ []
calls_of rows (Take worker) = take worker ∷ []
calls_of rows (Done worker b) = done worker b ∷ []
calls_of rows (Fail worker b cause) = fail worker b cause ∷ []

-- the reply to a command, by the answers of its calls
abbrev pub reply_of : (rows : Rows) (command : Command) → Answers (calls_of rows command) → Reply
reply_of rows (Load caller all mode kind keys) answers = load_answer keys answers.first
reply_of rows (Acquire caller op) answers = acquire_answer answers.first
reply_of rows (Release caller op) answers = release_answer answers.first
reply_of rows (Status op) answers = status_answer answers.first
reply_of rows (Wait op) answers = status_answer answers.first
reply_of rows (References op) answers = ReferencesReply answers.first
reply_of rows (Read op i) answers = read_answer answers.first
reply_of rows (ReadAll op i) answers = read_all_answer answers.first
reply_of rows (Count b) answers = count_answer answers.first
reply_of rows Close answers = close_answer answers.first
reply_of rows (Take worker) answers = Next answers.first
reply_of rows (Done worker b) answers = done_answer answers.first
reply_of rows (Fail worker b cause) answers = fail_answer answers.first

-- a command is played at a history: its calls are answered, the reply is made of the answers, and the history grows by their events
pub record PlaysLine (rows : Rows) (limit : ℕ) (h : List Event) (command : Command) (reply : Reply) (after : List Event) : Type 0 where
  pub answers : Answers (calls_of rows command)
  pub answered : AreAnswered sim_objects rows limit h (calls_of rows command) answers after
  pub told : reply ≡ reply_of rows command answers

-- a machine plays a command
pub record Plays {I : Type 0} (old : Machine I) (command : Command) (reply : Reply) (new : Machine I) : Type 0 where
  pub line : PlaysLine old.rows old.limit old.history command reply new.history
  pub rows : new.rows ≡ old.rows
  pub limit : new.limit ≡ old.limit

-- a machine plays a command, and the line of its reply stands behind a text
abbrev pub PlaysAs : {I : Type 0} → Machine I → Command → List ℕ → Machine I → List ℕ → Type 0
PlaysAs old command text new text_after = (reply : Reply) × Plays old command reply new × (text_after ≡ text ++ (reply_text reply ++ 10 ∷ []))

-- the most events of a script, 100,000 without a limit
abbrev pub limit_of : Script → ℕ
limit_of script = unwrap_or script.limit 100000

-- the text is that of the replies to the commands, one line each, from a history on
abbrev pub SimText : Rows → ℕ → List Event → List Command → List ℕ → Type 0
SimText rows limit h [] text = text ≡ []
SimText rows limit h (command ∷ commands) text = (reply : Reply) × (after : List Event) × (rest : List ℕ) × PlaysLine rows limit h command reply after × SimText rows limit after commands rest × (text ≡ reply_text reply ++ 10 ∷ rest)

-- what bytes are simulated as over rows: the replies to the script that they are, or the first bad line
abbrev pub SimulatesScript : Rows → List ℕ → Result (List ℕ) ScriptErr → Type 0
SimulatesScript rows bytes (Ok text) = (s : Script) × ReadsScript Simulate bytes (Ok s) × SimText rows (limit_of s) [] s.commands text
SimulatesScript rows bytes (Err e) = ReadsScript Simulate bytes (Err e)
