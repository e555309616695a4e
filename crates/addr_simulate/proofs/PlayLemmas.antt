-- What the machine's calls leave, as a script's commands see it, and one step of the text.
use Rattle.std.proofs.Common.{◌≡◌, ◌∙◌, sym, ap, subst, refl, ℕ, Bool, true, false, List, [], ◌∷◌, ◌++◌, append_assoc, append-nil, Option, Result, Ok, Err}
use Rattle.addr_base.specs.declared.cause.Cause.{Cause}
use Rattle.addr_base.specs.declared.ids.BundleNo.{BundleNo}
use Rattle.addr_base.specs.declared.ids.OpId.{OpId}
use Rattle.addr_locate.specs.Rows.{Rows}
use Rattle.addr_locate.specs.declared.rows.Merge.{Merge}
use Rattle.addr_history.specs.Answers.{load_reply, load_adds, acquire_reply, acquire_adds, release_reply, release_adds, status_reply, take_reply, take_adds, done_reply, done_adds, fail_reply, fail_adds, close_reply, close_adds, count_reply}
use Rattle.addr_history.specs.Calls.{Both}
use Rattle.addr_history.specs.Counts.{references_of}
use Rattle.addr_history.specs.declared.answers.Next.{Next as NextWord}
use Rattle.addr_history.specs.declared.ask.Ask.{Ask}
use Rattle.addr_core.specs.Machine.{Machine, grown, with_kept}
use Rattle.addr_history.specs.Places.{is_fetched_by}
use Rattle.addr_history.specs.declared.answers.Settled.{Settled}
use Rattle.addr_history.specs.declared.answers.Settled.TheVariants.{Kept, Dropped}
use Rattle.addr_history.specs.declared.event.Event.{Event}
use Rattle.addr_script.specs.Replies.{reply_text}
use Rattle.addr_script.specs.declared.command.Command.{Command}
use Rattle.addr_script.specs.declared.command.Command.TheVariants.{Load, Acquire, Release, Status, Wait, References, Read, ReadAll, Count, Close, Take, Done, Fail}
use Rattle.addr_script.specs.declared.reply.Reply.{Reply}
use Rattle.addr_script.specs.declared.reply.Reply.TheVariants.{Next, References as ReferencesReply}
use Rattle.addr_simulate.specs.Reading.{IsToldRead, IsToldReadAll}
use Rattle.addr_simulate.specs.SimText.{acquire_answer, ask_of, close_answer, count_answer, done_answer, fail_answer, load_answer, release_answer, status_answer, Plays, PlaysLine, SimText}

-- the image makes no difference to the reply
done_same : {I : Type 0} (rows : Rows) (h : List Event) (worker : ℕ) (b : BundleNo) (image : I) → done_answer (done_reply rows h worker b image) ≡ done_answer (done_reply rows h worker b (tt {0}))
unfolding done_reply
done_same rows h worker b image = by_test (is_fetched_by h b worker) refl where
  by_test : (t : Bool) → is_fetched_by h b worker ≡ t → done_answer (done_reply rows h worker b image) ≡ done_answer (done_reply rows h worker b (tt {0}))
  by_test true e = rw e refl
  by_test false e = rw e refl

kept_rows : {I : Type 0} (m : Machine I) (b : BundleNo) (image : I) (result : Result Settled I) → ((with_kept m b image result).rows ≡ m.rows) × ((with_kept m b image result).limit ≡ m.limit) × ((with_kept m b image result).history ≡ m.history)
kept_rows m b image (Ok Kept) = (refl, refl, refl)
kept_rows m b image (Ok Dropped) = (refl, refl, refl)
kept_rows m b image (Err back) = (refl, refl, refl)

grown_rows : {I : Type 0} (m : Machine I) (es : List Event) → ((grown m es).rows ≡ m.rows) × ((grown m es).limit ≡ m.limit) × ((grown m es).history ≡ m.history ++ es)
grown_rows m [] = (refl, refl, sym (append-nil m.history))
grown_rows m (e ∷ es) = (refl, refl, refl)

-- a machine that grew by the events of a command's one call plays the command
abbrev Grew : {I : Type 0} → Machine I → List Event → Machine I → Type 0
Grew old es new = (new.rows ≡ old.rows) × (new.limit ≡ old.limit) × (new.history ≡ old.history ++ es)

pub grew : {I : Type 0} (old new : Machine I) (es : List Event) → new ≡ grown old es → Grew old es new
grew old new es is =
    let parts = grown_rows old es in
    (ap (λ m. m.rows) is ∙ parts.0, ap (λ m. m.limit) is ∙ parts.1, ap (λ m. m.history) is ∙ parts.2)

pub same : {I : Type 0} (old new : Machine I) → new ≡ old → Grew old [] new
same old new is = grew old new [] is

plays : {I : Type 0} (old new : Machine I) (command : Command) (reply : Reply) (es : List Event) → Grew old es new → PlaysLine old.rows old.limit old.history command reply (old.history ++ es) → Plays old command reply new
plays old new command reply es grown line = record {
  line = subst (PlaysLine old.rows old.limit old.history command reply) (sym grown.2) line;
  rows = grown.0;
  limit = grown.1;
}

abbrev one : {A : Type 0} → A → Both A (Unit {0})
one a = record { first = a; rest = tt }

pub load_plays : {I : Type 0} (old new : Machine I) (caller : ℕ) (all : Bool) (mode : Merge) (kind : Option (List ℕ)) (keys : List (List ℕ)) (ask : Ask) (reply : Reply) → ask ≡ ask_of old.rows all mode kind keys → new ≡ grown old (load_adds (load_reply old.rows old.limit old.history ask) caller ask) → reply ≡ load_answer keys (load_reply old.rows old.limit old.history ask) → Plays old (Load caller all mode kind keys) reply new
load_plays old new caller all mode kind keys ask reply is left told =
    let asked = ask_of old.rows all mode kind keys in
    let answer = load_reply old.rows old.limit old.history asked in
    plays old new (Load caller all mode kind keys) reply (load_adds answer caller asked)
    (grew old new (load_adds answer caller asked) (left ∙ ap (λ (a : Ask). grown old (load_adds (load_reply old.rows old.limit old.history a) caller a)) is))
    (record { answers = one answer; answered = (refl, refl); told = told ∙ ap (λ (a : Ask). load_answer keys (load_reply old.rows old.limit old.history a)) is })

pub acquire_plays : {I : Type 0} (old new : Machine I) (caller : ℕ) (op : OpId) (reply : Reply) → new ≡ grown old (acquire_adds (acquire_reply old.rows old.limit old.history op) caller op) → reply ≡ acquire_answer (acquire_reply old.rows old.limit old.history op) → Plays old (Acquire caller op) reply new
acquire_plays old new caller op reply left told =
    let answer = acquire_reply old.rows old.limit old.history op in
    plays old new (Acquire caller op) reply (acquire_adds answer caller op) (grew old new (acquire_adds answer caller op) left) (record { answers = one answer; answered = (refl, refl); told = told })

pub release_plays : {I : Type 0} (old new : Machine I) (caller : ℕ) (op : OpId) (reply : Reply) → new ≡ grown old (release_adds old.history caller op) → reply ≡ release_answer (release_reply old.history op) → Plays old (Release caller op) reply new
release_plays old new caller op reply left told =
    plays old new (Release caller op) reply (release_adds old.history caller op) (grew old new (release_adds old.history caller op) left)
    (record { answers = one (release_reply old.history op); answered = (refl, refl); told = told })

pub wait_plays : {I : Type 0} (old new : Machine I) (op : OpId) (reply : Reply) → new ≡ old → reply ≡ status_answer (status_reply old.rows old.history op) → Plays old (Wait op) reply new
wait_plays old new op reply left told = plays old new (Wait op) reply [] (same old new left) (record { answers = one (status_reply old.rows old.history op); answered = (refl, refl); told = told })

pub status_plays : {I : Type 0} (old new : Machine I) (op : OpId) (reply : Reply) → new ≡ old → reply ≡ status_answer (status_reply old.rows old.history op) → Plays old (Status op) reply new
status_plays old new op reply left told = plays old new (Status op) reply [] (same old new left) (record { answers = one (status_reply old.rows old.history op); answered = (refl, refl); told = told })

pub references_plays : {I : Type 0} (old new : Machine I) (op : OpId) (references : ℕ) → new ≡ old → references ≡ references_of old.history op → Plays old (References op) (ReferencesReply references) new
references_plays old new op references left told = plays old new (References op) (ReferencesReply references) [] (same old new left) (record { answers = one references; answered = (told, refl); told = refl })

pub read_plays : {I : Type 0} (old new : Machine I) (op : OpId) (i : ℕ) (reply : Reply) → new ≡ old → IsToldRead old.rows old.history op i reply → Plays old (Read op i) reply new
read_plays old new op i reply left (answer, reads, told) = plays old new (Read op i) reply [] (same old new left) (record { answers = one answer; answered = (reads, refl); told = told })

pub read_all_plays : {I : Type 0} (old new : Machine I) (op : OpId) (i : ℕ) (reply : Reply) → new ≡ old → IsToldReadAll old.rows old.history op i reply → Plays old (ReadAll op i) reply new
read_all_plays old new op i reply left (answer, reads, told) = plays old new (ReadAll op i) reply [] (same old new left) (record { answers = one answer; answered = (reads, refl); told = told })

pub count_plays : {I : Type 0} (old new : Machine I) (b : BundleNo) (reply : Reply) → new ≡ old → reply ≡ count_answer (count_reply old.rows old.history b) → Plays old (Count b) reply new
count_plays old new b reply left told = plays old new (Count b) reply [] (same old new left) (record { answers = one (count_reply old.rows old.history b); answered = (refl, refl); told = told })

pub close_plays : {I : Type 0} (old new : Machine I) (reply : Reply) → new ≡ grown old (close_adds old.history) → reply ≡ close_answer (close_reply old.history) → Plays old Close reply new
close_plays old new reply left told =
    plays old new Close reply (close_adds old.history) (grew old new (close_adds old.history) left) (record { answers = one (close_reply old.history); answered = (refl, refl); told = told })

pub take_plays : {I : Type 0} (old new : Machine I) (worker : ℕ) (next : NextWord) → next ≡ take_reply old.rows old.history → new ≡ grown old (take_adds next worker) → Plays old (Take worker) (Next next) new
take_plays old new worker next answered left =
    plays old new (Take worker) (Next next) (take_adds next worker) (grew old new (take_adds next worker) left) (record { answers = one next; answered = (answered, refl); told = refl })

pub fail_plays : {I : Type 0} (old new : Machine I) (worker : ℕ) (b : BundleNo) (cause : Cause) (reply : Reply) → new ≡ grown old (fail_adds old.history worker b cause) → reply ≡ fail_answer (fail_reply old.history worker b) → Plays old (Fail worker b cause) reply new
fail_plays old new worker b cause reply left told =
    plays old new (Fail worker b cause) reply (fail_adds old.history worker b cause) (grew old new (fail_adds old.history worker b cause) left)
    (record { answers = one (fail_reply old.history worker b); answered = (refl, refl); told = told })

pub done_plays : {I : Type 0} (old new : Machine I) (worker : ℕ) (b : BundleNo) (image : I) (result : Result Settled I) (reply : Reply) → result ≡ done_reply old.rows old.history worker b image → new ≡ with_kept (grown old (done_adds old.history worker b)) b image result → reply ≡ done_answer result → Plays old (Done worker b) reply new
done_plays old new worker b image result reply answered left told =
    let after = grown old (done_adds old.history worker b) in
    let kept = kept_rows after b image result in
    let more = grown_rows old (done_adds old.history worker b) in
    plays old new (Done worker b) reply (done_adds old.history worker b)
    (ap (λ m. m.rows) left ∙ kept.0 ∙ more.0, ap (λ m. m.limit) left ∙ kept.1 ∙ more.1, ap (λ m. m.history) left ∙ kept.2 ∙ more.2)
    (record { answers = one (done_reply old.rows old.history worker b tt); answered = (refl, refl); told = told ∙ ap done_answer answered ∙ done_same old.rows old.history worker b image })

-- one more line of the text
pub text_step : (rows : Rows) (limit : ℕ) (h h' : List Event) (commands rest : List Command) (command : Command) (reply : Reply) (text text' : List ℕ) (all : List Command) → ((more : List ℕ) → SimText rows limit h commands more → SimText rows limit [] all (text ++ more)) → commands ≡ command ∷ rest → PlaysLine rows limit h command reply h' → text' ≡ text ++ (reply_text reply ++ 10 ∷ [])
    → (more : List ℕ) → SimText rows limit h' rest more → SimText rows limit [] all (text' ++ more)
text_step rows limit h h' commands rest command reply text text' all so_far split line written more tail =
    let grown : SimText rows limit h (command ∷ rest) (reply_text reply ++ 10 ∷ more) = (reply, h', more, line, tail, refl) in
    let whole = so_far (reply_text reply ++ 10 ∷ more) (subst (λ (cs : List Command). SimText rows limit h cs (reply_text reply ++ 10 ∷ more)) (sym split) grown) in
    subst (SimText rows limit [] all) (sym (ap (λ t. t ++ more) written ∙ append_assoc text (reply_text reply ++ 10 ∷ []) more ∙ ap (λ t. text ++ t) (append_assoc (reply_text reply) (10 ∷ []) more))) whole

pub text_end : (rows : Rows) (limit : ℕ) (h : List Event) (commands : List Command) (text : List ℕ) (all : List Command) → ((more : List ℕ) → SimText rows limit h commands more → SimText rows limit [] all (text ++ more)) → commands ≡ [] → SimText rows limit [] all text
text_end rows limit h commands text all so_far none =
    let nothing : SimText rows limit h [] [] = refl in
    subst (SimText rows limit [] all) (append-nil text) (so_far [] (subst (λ (cs : List Command). SimText rows limit h cs []) (sym none) nothing))

-- a machine that plays a command over those rows and that limit
pub steady_line : {I : Type 0} (rows : Rows) (limit : ℕ) (core new : Machine I) (command : Command) (reply : Reply) → core.rows ≡ rows → core.limit ≡ limit → Plays core command reply new → PlaysLine rows limit core.history command reply new.history
steady_line rows limit core new command reply rows_stay limit_stays plays =
    subst (λ r. PlaysLine r limit core.history command reply new.history) rows_stay (subst (λ l. PlaysLine core.rows l core.history command reply new.history) limit_stays plays.line)
