-- Two puts as one, and what a reply is.
use Rattle.std.proofs.Common.{◌≡◌, ◌+◌, ℕ, List, ◌++◌, Bool, true, false, Option, Some, None, Result, Ok, Err, IfSome, IsSomeAnd, IsNone, MatchOption, refl, sym, ◌∙◌, ap, arith, length, take, min, append_assoc, subst, inl, inr}
use Rattle.std.proofs.Math.Seq.{take-append-add}
use Rattle.std.proofs.lemmas.List.{take_min, take-append-le}
use Rattle.addr_base.specs.Streams.{Appends}
use Rattle.addr_base.specs.Files.{file_at}
use Rattle.addr_base.specs.declared.files.MemFile.{MemFile}
use Rattle.addr_base.specs.declared.memory.Failed.{Failed}
use Rattle.addr_base.specs.Faults.{Rose}
use Rattle.addr_wire.specs.Connections.{ConnNow}
use Rattle.addr_wire.specs.Counts.{Counts}
use Rattle.addr_http.specs.Hearing.{HasHeard, ReadsEnough, ReadsNoMore}
use Rattle.addr_http.specs.declared.heads.Heard.{Heard}
use Rattle.addr_http.specs.Requests.{Asks}
use Rattle.addr_http.specs.Responses.{AnswersWith, Causes, Replies, Response, Serves, ServesIn, SinkCauses, Writes, file_name, reply_status, reply_text, reply_to}
use Rattle.addr_http.specs.declared.requests.Asked.{Asked}
use Rattle.addr_http.specs.declared.replies.Reply.{Reply}
use Rattle.addr_http.specs.declared.answering.Served.{Served}
use Rattle.addr_http.specs.declared.answering.Served.TheVariants.{Answered, Broken, NoMemory}
use Rattle.addr_http.specs.declared.requests.Asked.TheVariants.{TooLarge, Bad, NotAllowed, Absent, Wants}
use Rattle.addr_http.specs.declared.replies.Reply.TheVariants.{File}

-- what a put adds, where the sink tells it
abbrev pub Adds : Option (List ℕ) → Result (Unit {0}) Failed → List ℕ → Option (List ℕ) → Type 0
Adds old result bytes new = MatchOption old (IsNone new) (λ o. IsSomeAnd new (Appends o result bytes))

front_of : (head body : List ℕ) (n : ℕ) → take n head ≡ take (min n (length head)) (head ++ body)
front_of head body n = sym (take_min n head) ∙ sym (take-append-le (min n (length head)) head body (omega arith))

appends_first : (old new head body : List ℕ) (e f : Failed) → Appends {T = Unit {0}} {E = Failed} old (Err e) head new → Appends {T = Unit {0}} {E = Failed} old (Err f) (head ++ body) new
appends_first old new head body e f a = (min a.0 (length head), a.1 ∙ ap (λ (b : List ℕ). old ++ b) (front_of head body a.0))

appends_both : (old mid new head body : List ℕ) (r : Result (Unit {0}) Failed) → mid ≡ old ++ head → Appends mid r body new → Appends old r (head ++ body) new
appends_both old mid new head body (Ok u) e a = a ∙ ap (λ (b : List ℕ). b ++ body) e ∙ append_assoc old head body
appends_both old mid new head body (Err f) e a = (length head + a.0, a.1 ∙ ap (λ (b : List ℕ). b ++ take a.0 body) e ∙ append_assoc old head (take a.0 body) ∙ ap (λ (b : List ℕ). old ++ b) (sym (take-append-add head body a.0)))

pub adds_first : (old new : Option (List ℕ)) (head body : List ℕ) (e f : Failed) → Adds old (Err e) head new → Adds old (Err f) (head ++ body) new
adds_first None new head body e f a = a
adds_first (Some o) None head body e f a = a
adds_first (Some o) (Some n) head body e f a = appends_first o n head body e f a

pub adds_both : (old mid new : Option (List ℕ)) (head body : List ℕ) (u : Unit {0}) (r : Result (Unit {0}) Failed) → Adds old (Ok u) head mid → Adds mid r body new → Adds old r (head ++ body) new
adds_both None None new head body u r a b = b
adds_both None (Some m) new head body u r a b = cc
adds_both (Some o) None new head body u r a b = absurd a
adds_both (Some o) (Some m) None head body u r a b = b
adds_both (Some o) (Some m) (Some n) head body u r a b = appends_both o m n head body r a b

if_told : (P : List MemFile → Type 0) (files : Option (List MemFile)) (fs : List MemFile) → IfSome files P → files ≡ Some fs → P fs
if_told P None fs p e = absurd (cc)
if_told P (Some x) fs p e = let same : x ≡ fs = cc in subst P same p

pub file_reply : (folder name path bytes held : List ℕ) (files : Option (List MemFile)) (before now : ℕ) (head_only : Bool)
    → IfSome files (λ fs. Some bytes ≡ file_at path fs) → path ≡ file_name folder name → held ≡ bytes → Replies folder files before now (Wants head_only name) (File head_only held)
file_reply folder name path bytes held files before now head_only found e same = record {
  fault = false;
  found = Some bytes;
  rose = λ f. absurd (cc);
  looked = λ fs told ok. if_told (λ fs. Some bytes ≡ file_at path fs) files fs found told ∙ ap (λ (p : List ℕ). file_at p fs) e;
  replies = ap (λ (b : List ℕ). File head_only b) same;
}

response_of : (left folder : List ℕ) (files : Option (List MemFile)) (before now : ℕ) (asked : Asked) (reply : Reply) (r : Replies folder files before now asked reply) → Asks left asked → Response left folder files r.fault reply
response_of left folder files before now asked reply r a = record { asked = asked; found = r.found; asks = a; looked = r.looked; replies = r.replies }

pub serves : (left folder : List ℕ) (files : Option (List MemFile)) (before now : ℕ) (asked : Asked) (reply : Reply) (old new : List ℕ) (result : Served)
    → Replies folder files before now asked reply → Asks left asked → Writes (reply_text reply) (reply_status reply) result old new → Serves left folder files before now old new result
serves left folder files before now asked reply old new (Answered status) r a w = (r.fault, reply, r.rose, response_of left folder files before now asked reply r a, w.0, w.1)
serves left folder files before now asked reply old new Broken r a w = inr (r.fault, reply, r.rose, response_of left folder files before now asked reply r a, w.0, w.1)
serves left folder files before now asked reply old new NoMemory r a w = w

-- what was told of the bytes that were put, as what was served
pub serves_told : (folder buffer : List ℕ) (files : Option (List MemFile)) (before now : ℕ) (asked : Asked) (reply : Reply) (heard : Heard) (old new : Option (List ℕ)) (result : Served)
    → Replies folder files before now asked reply → ((left : List ℕ) → HasHeard left buffer heard → Asks left asked)
    → MatchOption old (IsNone new) (λ o. IsSomeAnd new (Writes (reply_text reply) (reply_status reply) result o))
    → MatchOption old (IsNone new) (λ o. IsSomeAnd new (λ n. (left : List ℕ) → HasHeard left buffer heard → Serves left folder files before now o n result))
serves_told folder buffer files before now asked reply heard None new result r a w = w
serves_told folder buffer files before now asked reply heard (Some o) None result r a w = w
serves_told folder buffer files before now asked reply heard (Some o) (Some n) result r a w = λ left h. serves left folder files before now asked reply o n result r (a left h) w

status_failed : (asked : Asked) (fault : Bool) (found : Option (List ℕ)) → reply_status (reply_to asked fault found) ≡ 500 → fault ≡ true
status_failed TooLarge fault found e = absurd (omega (arith, e))
status_failed Bad fault found e = absurd (omega (arith, e))
status_failed NotAllowed fault found e = absurd (omega (arith, e))
status_failed Absent fault found e = absurd (omega (arith, e))
status_failed (Wants head_only name) true found e = refl
status_failed (Wants head_only name) false None e = absurd (omega (arith, e))
status_failed (Wants head_only name) false (Some bytes) e = absurd (omega (arith, e))

pub failed_rose : (folder : List ℕ) (files : Option (List MemFile)) (before now : ℕ) (asked : Asked) (reply : Reply) (result : Served)
    → Replies folder files before now asked reply → AnswersWith (reply_status reply) result → result ≡ Answered 500 → Rose before now
failed_rose folder files before now asked reply result r a e =
    let code : 500 ≡ reply_status reply = subst (λ (s : Served). AnswersWith (reply_status reply) s) e a in
    r.rose (status_failed asked r.fault r.found (ap (λ (x : Reply). reply_status x) (sym r.replies) ∙ sym code))

quiet : (P : List ℕ → List ℕ → Type 0) (old new : Option (List ℕ)) → new ≡ old → ((o : List ℕ) → P o o) → MatchOption old (IsNone new) (λ o. IsSomeAnd new (P o))
quiet P None None e p = refl
quiet P None (Some n) e p = cc
quiet P (Some o) None e p = absurd (cc)
quiet P (Some o) (Some n) e p = let same : o ≡ n = cc in subst (λ x. P o x) same (p o)

pub tells_broken : (folder : List ℕ) (files : Option (List MemFile)) (before now : ℕ) (left old new : Option (List ℕ)) → new ≡ old → ServesIn folder files before now left old new Broken
tells_broken folder files before now None old new e = tt
tells_broken folder files before now (Some l) old new e = quiet (λ o n. Serves l folder files before now o n Broken) old new e (λ o. inl refl)

pub tells_nothing : (folder : List ℕ) (files : Option (List MemFile)) (before now : ℕ) (left old new : Option (List ℕ)) → new ≡ old → ServesIn folder files before now left old new NoMemory
tells_nothing folder files before now None old new e = tt
tells_nothing folder files before now (Some l) old new e = quiet (λ o n. Serves l folder files before now o n NoMemory) old new e (λ o. refl)

pub tells : (folder buffer : List ℕ) (files : Option (List MemFile)) (before now : ℕ) (heard : Heard) (left old mid new : Option (List ℕ)) (result : Served)
    → IfSome left (λ l. HasHeard l buffer heard) → mid ≡ old
    → MatchOption mid (IsNone new) (λ o. IsSomeAnd new (λ n. (l : List ℕ) → HasHeard l buffer heard → Serves l folder files before now o n result))
    → ServesIn folder files before now left old new result
tells folder buffer files before now heard None old mid new result h e s = tt
tells folder buffer files before now heard (Some l) old mid new result h e s = at_mid mid new s e
  where
    at_mid : (m n : Option (List ℕ)) → MatchOption m (IsNone n) (λ o. IsSomeAnd n (λ x. (l : List ℕ) → HasHeard l buffer heard → Serves l folder files before now o x result)) → m ≡ old
        → MatchOption old (IsNone n) (λ o. IsSomeAnd n (λ x. Serves l folder files before now o x result))
    at_mid None n k q = subst (λ (z : Option (List ℕ)). MatchOption z (IsNone n) (λ o. IsSomeAnd n (λ x. Serves l folder files before now o x result))) q k
    at_mid (Some m) None k q = absurd k
    at_mid (Some m) (Some n) k q = subst (λ (z : Option (List ℕ)). MatchOption z (IsNone (Some n)) (λ o. Serves l folder files before now o n result)) q (k l h)

-- nothing was read, or no more than was needed
pub enough : (last : ℕ) (left : Option (List ℕ)) (new after : Option (List ℕ)) → after ≡ new → IfSome left (λ l. IsSomeAnd new (ReadsNoMore last l)) → IfSome left (λ l. IsSomeAnd after (ReadsEnough last l))
enough last None new after e r = tt
enough last (Some l) None after e r = absurd r
enough last (Some l) (Some n) after e r = subst (λ (z : Option (List ℕ)). IsSomeAnd z (ReadsEnough last l)) (sym e) (let k : ReadsEnough last l n = inr r in k)

pub untouched : (last : ℕ) (left : Option (List ℕ)) → IfSome left (λ l. IsSomeAnd left (ReadsEnough last l))
untouched last None = tt
untouched last (Some l) = inl refl

-- the cause of what was served, from the counts of reading and of putting
pub causes : (old mid new : ConnNow) (result : Served) → mid.source_faults ≡ old.source_faults → mid.sink_faults ≡ old.sink_faults → new.source_faults ≡ mid.source_faults
    → SinkCauses mid.sink_faults new.sink_faults result → Causes old new result
causes old mid new (Answered status) a b e r = (e ∙ a, r ∙ b)
causes old mid new Broken a b e r = inr (subst (λ n. Rose n new.sink_faults) b r)
causes old mid new NoMemory a b e r = (e ∙ a, r ∙ b)

-- two puts are one, whose count is that of the second where the first was Ok
pub counts_on : (a b c : ℕ) (r : Result (Unit {0}) Failed) → b ≡ a → Counts b r c → Counts a r c
counts_on a b c r e h = subst (λ n. Counts n r c) e h
