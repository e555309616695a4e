-- One line of a script, from what the session's call says.
use Rattle.std.proofs.Common.{◌≡◌, ◌⊎◌, inl, inr, ℕ, Bool, true, false, cond, List, [], ◌∷◌, ◌++◌, refl, sym, ap, ◌∙◌, subst, Option, Some, None, Ok, Err, eqb-true}
use Rattle.std.specs.Prelude.{Result}
use Rattle.addr_base.specs.declared.ids.BundleNo.{BundleNo}
use Rattle.addr_base.specs.declared.ids.OpId.{OpId}
use Rattle.addr_cab.specs.Lookup.{Held, Fits, object_with}
use Rattle.addr_locate.specs.Rows.{Rows}
use Rattle.addr_locate.specs.declared.rows.Merge.{Merge}
use Rattle.addr_history.specs.Answers.{load_reply, load_adds, acquire_reply, acquire_adds, release_reply, release_adds, status_reply, close_reply, close_adds, count_reply}
use Rattle.addr_history.specs.Calls.{Call, Answers, Both}
use Rattle.addr_history.specs.Counts.{is_unreleased, is_closed, references_of}
use Rattle.addr_history.specs.Reading.{Reads}
use Rattle.addr_history.specs.Unfolding.{ReadsAll}
use Rattle.addr_history.specs.declared.answers.NoHandle.{NoHandle as NoHandleErr}
use Rattle.addr_history.specs.declared.answers.OpStatus.{OpStatus}
use Rattle.addr_history.specs.declared.answers.OpStatus.TheVariants.{Pending}
use Rattle.addr_history.specs.declared.ask.Ask.{Ask}
use Rattle.addr_history.specs.declared.error.AcquireErr.{AcquireErr}
use Rattle.addr_history.specs.declared.error.LoadErr.{LoadErr}
use Rattle.addr_history.specs.declared.error.LoadErr.TheVariants as loading
use Rattle.addr_history.specs.declared.event.Event.{Event}
use Rattle.addr_history.specs.declared.event.Event.TheVariants as event
use Rattle.addr_history.specs.declared.reading.Item2.{Item2}
use Rattle.addr_history.specs.declared.reading.ReadErr.{ReadErr}
use Rattle.addr_history.specs.declared.reading.ReadErr.TheVariants as reading
use Rattle.addr_core.specs.Machine.{Machine, AnswersRead, HasImages, ImagesFit}
use Rattle.addr_core.specs.ReadAll.{AnswersReadAll}
use Rattle.addr_fetch.specs.declared.fetch.Fetched.{Fetched}
use Rattle.addr_script.specs.declared.command.Command.{Command}
use Rattle.addr_script.specs.declared.command.Command.TheVariants as command
use Rattle.addr_script.specs.declared.reply.Reply.{Reply}
use Rattle.addr_script.specs.declared.reply.Reply.TheVariants as reply
use Rattle.addr_simulate.specs.SimText.{ask_of, calls_of, reply_of, load_answer, acquire_answer, release_answer, status_answer, read_answer, read_all_answer, count_answer, close_answer}
use Rattle.addr_loader.specs.Turn.{Knowledge, Turn, rows_of, limit_of, LoadAnswer, IsMachine}
use Rattle.addr_loader.specs.Waits.{WorksOn, IsSettled}
use Rattle.addr_live.specs.Steps.{Step, IsAdded, IsScripts, Played}
use Rattle.addr_live.specs.LiveText.{AreImages, IsLine}
use Rattle.addr_live.specs.Plays.{PlaysLine}
use Rattle.addr_live.proofs.Lines.{step_turn, step_wait}
use Rattle.addr_live.proofs.Scripts.{played_one}

pub added_release : (h : List Event) (n : ℕ) (op : OpId) → IsAdded (release_adds h n op)
unfolding release_adds
added_release h n op = at (is_unreleased h op)
  where
    at : (t : Bool) → IsAdded (cond t (event.Release op n ∷ []) [])
    at true = inr (event.Release op n, refl, refl)
    at false = inl refl

pub added_close : (h : List Event) → IsAdded (close_adds h)
unfolding close_adds
added_close h = at (is_closed h)
  where
    at : (t : Bool) → IsAdded (cond t [] (event.Close ∷ []))
    at true = inl refl
    at false = inr (event.Close, refl, refl)

pub some_own : {A : Type 0} {a b : A} → Some a ≡ Some b → a ≡ b
some_own {a = a} e = ap (λ o. Rattle.std.specs.Prelude.unwrap_or o a) e

added_load : (answer : Result OpId LoadErr) (n : ℕ) (ask : Ask) → IsAdded (load_adds answer n ask)
added_load (Ok op) n ask = inr (event.Load op n ask, refl, refl)
added_load (Err e) n ask = inl refl

added_acquire : (answer : Result (Unit {0}) AcquireErr) (n : ℕ) (op : OpId) → IsAdded (acquire_adds answer n op)
added_acquire (Ok x) n op = inr (event.Acquire op n, refl, refl)
added_acquire (Err e) n op = inl refl

module _ {F : Type 0} (gives : F → List ℕ → ℕ → Fetched → F → Type 0) (v : Knowledge) (f : F) (scripts : IsScripts v) where
  line_turn : (w : Knowledge) (c : Command) (said : Reply) (b added : List Event) → IsAdded added → Turn v w b added → IsLine (rows_of v) (limit_of v) (record { asked = c; reply = said; steps = record { before = b; added = added } ∷ [] }) → PlaysLine gives v f c said w f
  line_turn w c said b added is t line =
      let s = step_turn gives v w f b added scripts is t in
      record { steps = record { before = b; added = added } ∷ []; line = line; played = played_one gives v w f f (record { before = b; added = added }) s; seen = s.after }

  pub load_line : (w : Knowledge) (caller : ℕ) (all : Bool) (mode : Merge) (kind : Option (List ℕ)) (keys : List (List ℕ)) (ask : Ask) (b : List Event) (answer : Result OpId LoadErr) (said : Reply)
      → caller ≡ 0 → ask ≡ ask_of (rows_of v) all mode kind keys → Turn v w b (load_adds answer v.number ask) → LoadAnswer (rows_of v) (limit_of v) b ask answer → (answer ≡ Err loading.NoMemory → ⊥) → said ≡ load_answer keys answer
      → PlaysLine gives v f (command.Load caller all mode kind keys) said w f
  load_line w caller all mode kind keys ask b answer said zero is t right given told =
      let n : v.number ≡ caller = scripts.0 ∙ sym zero in
      let turn : Turn v w b (load_adds answer caller (ask_of (rows_of v) all mode kind keys)) = subst (λ (z : ℕ × Ask). Turn v w b (load_adds answer z.0 z.1)) (λ i. (n i, is i)) t in
      let reply_is : load_reply (rows_of v) (limit_of v) b (ask_of (rows_of v) all mode kind keys) ≡ answer = subst (λ (a : Ask). load_reply (rows_of v) (limit_of v) b a ≡ answer) is (told_right answer right given) in
      line_turn w (command.Load caller all mode kind keys) said b (load_adds answer caller (ask_of (rows_of v) all mode kind keys)) (added_load answer caller (ask_of (rows_of v) all mode kind keys)) turn
      (record { answers = record { first = answer; rest = tt }; made = (sym reply_is, refl, tt); told = told; settled = tt })
    where
      told_right : (answer : Result OpId LoadErr) → LoadAnswer (rows_of v) (limit_of v) b ask answer → (answer ≡ Err loading.NoMemory → ⊥) → load_reply (rows_of v) (limit_of v) b ask ≡ answer
      told_right (Ok op) right given = right
      told_right (Err loading.NoMemory) right given = absurd (given refl)
      told_right (Err loading.Closed) right given = right
      told_right (Err (loading.NoLocation first)) right given = right
      told_right (Err (loading.JournalFull used reserved needed)) right given = right

  pub acquire_line : (w : Knowledge) (caller : ℕ) (op : OpId) (b : List Event) (answer : Result (Unit {0}) AcquireErr) (said : Reply)
      → caller ≡ 0 → Turn v w b (acquire_adds answer v.number op) → answer ≡ acquire_reply (rows_of v) (limit_of v) b op → said ≡ acquire_answer answer → PlaysLine gives v f (command.Acquire caller op) said w f
  acquire_line w caller op b answer said zero t right told =
      let turn : Turn v w b (acquire_adds answer caller op) = subst (λ (n : ℕ). Turn v w b (acquire_adds answer n op)) (scripts.0 ∙ sym zero) t in
      line_turn w (command.Acquire caller op) said b (acquire_adds answer caller op) (added_acquire answer caller op) turn (record { answers = record { first = answer; rest = tt }; made = (right, refl, tt); told = told; settled = tt })

  pub release_line : (w : Knowledge) (caller : ℕ) (op : OpId) (b : List Event) (answer : Result (Unit {0}) NoHandleErr) (said : Reply)
      → caller ≡ 0 → Turn v w b (release_adds b v.number op) → answer ≡ release_reply b op → said ≡ release_answer answer → PlaysLine gives v f (command.Release caller op) said w f
  release_line w caller op b answer said zero t right told =
      let turn : Turn v w b (release_adds b caller op) = subst (λ (n : ℕ). Turn v w b (release_adds b n op)) (scripts.0 ∙ sym zero) t in
      line_turn w (command.Release caller op) said b (release_adds b caller op) (added_release b caller op) turn (record { answers = record { first = answer; rest = tt }; made = (right, refl, tt); told = told; settled = tt })

  pub close_line : (w : Knowledge) (b : List Event) (answer : Bool) (said : Reply) → Turn v w b (close_adds b) → answer ≡ close_reply b → said ≡ close_answer answer → PlaysLine gives v f command.Close said w f
  close_line w b answer said t right told = line_turn w command.Close said b (close_adds b) (added_close b) t (record { answers = record { first = answer; rest = tt }; made = (right, refl, tt); told = told; settled = tt })

  pub status_line : (w : Knowledge) (op : OpId) (answer : Result OpStatus NoHandleErr) (said : Reply) → Turn v w w.seen [] → answer ≡ status_reply (rows_of v) w.seen op → said ≡ status_answer answer → PlaysLine gives v f (command.Status op) said w f
  status_line w op answer said t right told = line_turn w (command.Status op) said w.seen [] (inl refl) t (record { answers = record { first = answer; rest = tt }; made = (right, refl, tt); told = told; settled = tt })

  pub references_line : (w : Knowledge) (op : OpId) (answer : ℕ) → Turn v w w.seen [] → answer ≡ references_of w.seen op → PlaysLine gives v f (command.References op) (reply.References answer) w f
  references_line w op answer t right = line_turn w (command.References op) (reply.References answer) w.seen [] (inl refl) t (record { answers = record { first = answer; rest = tt }; made = (right, refl, tt); told = refl; settled = tt })

  pub count_line : (w : Knowledge) (b : BundleNo) (answer : Option (ℕ × _)) (said : Reply) → Turn v w w.seen [] → answer ≡ count_reply (rows_of v) w.seen b → said ≡ count_answer answer → PlaysLine gives v f (command.Count b) said w f
  count_line w b answer said t right told = line_turn w (command.Count b) said w.seen [] (inl refl) t (record { answers = record { first = answer; rest = tt }; made = (right, refl, tt); told = told; settled = tt })

  images_of : (h : List Event) (m : Machine Held) → IsMachine v h m → (record { rows = rows_of v; limit = limit_of v; history = h; images = m.images }) ≡ m
  images_of h m is = sym (λ i. record { rows = is.rows i; limit = is.limit i; history = is.history i; images = m.images })

  are_images : (h : List Event) (m : Machine Held) → IsMachine v h m → AreImages (rows_of v) (limit_of v) h m.images
  are_images h m is = record { held = subst HasImages (sym (images_of h m is)) is.held; fitting = subst (ImagesFit Fits) (sym (images_of h m is)) is.fitting }

  pub read_line : (w : Knowledge) (op : OpId) (i : ℕ) (answer : Result (List ℕ) ReadErr) (said : Reply) → Turn v w w.seen [] → (m : Machine Held) × IsMachine v w.seen m × AnswersRead object_with m op i answer → (answer ≡ Err reading.NoMemory → ⊥) → said ≡ read_answer answer
      → PlaysLine gives v f (command.Read op i) said w f
  read_line w op i answer said t (m, is, reads) given told =
      let at : Reads (Rattle.addr_objects.specs.Objects.objects_in object_with m.images) (rows_of v) w.seen op i answer = subst (λ (z : Rows × List Event). Reads (Rattle.addr_objects.specs.Objects.objects_in object_with m.images) z.0 z.1 op i answer) (λ j. (is.rows j, is.history j)) (only reads) in
      line_turn w (command.Read op i) said w.seen [] (inl refl) t (record { answers = record { first = answer; rest = tt }; made = ((m.images, are_images w.seen m is, at), refl, tt); told = told; settled = tt })
    where
      only : AnswersRead object_with m op i answer → Reads (Rattle.addr_objects.specs.Objects.objects_in object_with m.images) m.rows m.history op i answer
      only (inl reads) = reads
      only (inr lacked) = absurd (given lacked.0)

  pub read_all_line : (w : Knowledge) (op : OpId) (i : ℕ) (answer : Result (List Item2) ReadErr) (said : Reply) → Turn v w w.seen [] → (m : Machine Held) × IsMachine v w.seen m × AnswersReadAll object_with m op i answer → (answer ≡ Err reading.NoMemory → ⊥) → said ≡ read_all_answer answer
      → PlaysLine gives v f (command.ReadAll op i) said w f
  read_all_line w op i answer said t (m, is, reads) given told =
      let at : ReadsAll (Rattle.addr_objects.specs.Objects.objects_in object_with m.images) (rows_of v) w.seen op i answer = subst (λ (z : Rows × List Event). ReadsAll (Rattle.addr_objects.specs.Objects.objects_in object_with m.images) z.0 z.1 op i answer) (λ j. (is.rows j, is.history j)) (only reads) in
      line_turn w (command.ReadAll op i) said w.seen [] (inl refl) t (record { answers = record { first = answer; rest = tt }; made = ((m.images, are_images w.seen m is, at), refl, tt); told = told; settled = tt })
    where
      only : AnswersReadAll object_with m op i answer → ReadsAll (Rattle.addr_objects.specs.Objects.objects_in object_with m.images) m.rows m.history op i answer
      only (inl reads) = reads
      only (inr lacked) = absurd (given lacked.0)

  pub wait_line : (w : Knowledge) (g : F) (op : OpId) (answer : Result OpStatus NoHandleErr) (said : Reply) → WorksOn gives v f w g → answer ≡ status_reply (rows_of v) w.seen op → IsSettled answer → said ≡ status_answer answer → PlaysLine gives v f (command.Wait op) said w g
  wait_line w g op answer said works right settled told =
      let s = step_wait gives v w f g scripts works in
      record {
        steps = record { before = w.seen; added = [] } ∷ [];
        line = record { answers = record { first = answer; rest = tt }; made = (right, refl, tt); told = told; settled = λ pending. subst IsSettled pending settled };
        played = played_one gives v w f g (record { before = w.seen; added = [] }) s;
        seen = s.after;
      }
