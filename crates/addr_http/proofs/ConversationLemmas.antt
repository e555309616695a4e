-- What a front and a body decide together, and the request before them.
use Rattle.std.proofs.Common.{◌≡◌, ◌≤◌, ◌+◌, ◌-◌, ◌++◌, ◌⊎◌, ℕ, List, [], Option, Some, None, Result, Ok, Err, IsSomeAnd, IsNone, MatchOption, refl, sym, ◌∙◌, ap, arith, rules, length, take, drop, subst, inl, inr, append_assoc}
use Rattle.std.proofs.lemmas.List.{drop-append-le, drop-take, length-take-le}
use Rattle.addr_base.specs.Faults.{Rose}
use Rattle.addr_base.specs.declared.memory.Failed.{Failed as FailedType}
use Rattle.addr_wire.specs.Talks.{Says, Talk, silence}
use Rattle.httparse.specs.Grammar.{ResponseHead, print_response}
use Rattle.addr_http.specs.Answers.{IsAnswer}
use Rattle.addr_http.specs.Bodies.{Bodies, Decides}
use Rattle.addr_http.specs.Conversations.{Asked, Asks, Gets, GetsFrom, IsGot, IsSilent, Serves, Settles, Sizes}
use Rattle.addr_http.specs.Fronts.{Fronts}
use Rattle.addr_http.specs.Heads.{room}
use Rattle.addr_http.specs.Hearing.{Told}
use Rattle.addr_http.specs.Received.{Got, received_body, received_head}
use Rattle.addr_http.specs.Received.End.{failed, neither}
use Rattle.addr_http.specs.Received.Got.{Fault, BadAnswer}
use Rattle.addr_http.specs.declared.headed.Said.{Said}
use Rattle.addr_http.specs.declared.headed.Headed.{Headed}
use Rattle.addr_http.specs.declared.headed.Headed.TheVariants.{Body}
use Rattle.addr_http.specs.declared.outcome.Outcome.{Outcome}
use Rattle.addr_http.specs.declared.outcome.Outcome.TheVariants.{Unreadable, NoMemory}
use Rattle.addr_http.specs.declared.receiving.Front.TheVariants.{Whole, Unreadable as BadFront}
use Rattle.addr_http.proofs.BodyLemmas.{stops_failed, stops_neither}
use Rattle.addr_http.proofs.CollectingLemmas.{pours_none}
use Rattle.addr_http.proofs.ReceivingLemmas.{all_in_room, front_in_room, lift, weaken, Tells}

answer_more : (bytes more : List ℕ) (h : ResponseHead) (rest : List ℕ) → IsAnswer bytes h rest → IsAnswer (bytes ++ more) h (rest ++ more)
answer_more bytes more h rest a = record {
  reads = (a.reads.0, ap (λ (b : List ℕ). b ++ more) a.reads.1 ∙ append_assoc (print_response h) rest more);
  room = a.room;
}

-- a head alone decides
gets_head : (limit before now len at : ℕ) (sent buffer : List ℕ) (headed : Headed) (outcome : Outcome) (got : Got) (talk : Talk) → Fronts {E = FailedType} sent (Ok (Whole headed len at)) buffer talk
    → ((body : List ℕ) → received_head headed limit body neither ≡ Some got) → IsGot {E = FailedType} (Ok outcome) [] got → Gets {E = FailedType} limit before now (Ok outcome) sent [] talk
gets_head limit before now len at sent buffer headed outcome got talk f decides is = (
  f.0,
  inr (record {
    got = got;
    end = neither;
    is_got = is;
    stops = stops_neither before now talk.ended;
    received = inl (f.1.0, f.1.1, f.1.2, ap (λ (x : Headed). received_head x limit (drop (length (print_response f.1.0)) talk.given) neither) (sym f.1.3) ∙ decides (drop (length (print_response f.1.0)) talk.given));
  }),
)

-- a head and a body
settles_body : (limit before now len at : ℕ) (sent buffer poured : List ℕ) (said : Said) (r : Result Outcome FailedType) (mid new : Talk) (f : Fronts {E = FailedType} sent (Ok (Whole (Body said) len at)) buffer mid) → at ≤ room
    → (gave : List ℕ) → new.given ≡ mid.given ++ gave → Decides said limit before now r (take (at - len) (drop len buffer) ++ gave) poured new.ended → Settles limit before now r poured new
settles_body limit before now len at sent buffer poured said r mid new f fits gave given d =
    let size : length mid.given ≡ at = ap (λ (t : List ℕ). length t) f.1.6 ∙ length-take-le at buffer f.1.7 in
    let small : length mid.given ≤ room = omega (arith, size, fits) in
    let there : IsAnswer (mid.given ++ take (room - length mid.given) gave) f.1.0 (f.1.1 ++ take (room - length mid.given) gave) =
    answer_more mid.given (take (room - length mid.given) gave) f.1.0 f.1.1 (subst (λ (t : List ℕ). IsAnswer t f.1.0 f.1.1) (all_in_room mid.given small) f.1.2) in
    let whole : take room new.given ≡ mid.given ++ take (room - length mid.given) gave = ap (λ (t : List ℕ). take room t) given ∙ front_in_room mid.given gave small in
    let answer : IsAnswer (take room new.given) f.1.0 (f.1.1 ++ take (room - length mid.given) gave) = subst (λ (t : List ℕ). IsAnswer t f.1.0 (f.1.1 ++ take (room - length mid.given) gave)) (sym whole) there in
    let split : at ≡ len + (at - len) = omega (arith, f.1.5) in
    let part : drop len mid.given ≡ take (at - len) (drop len buffer) = ap (λ (t : List ℕ). drop len t) (f.1.6 ∙ ap (λ (k : ℕ). take k buffer) split) ∙ drop-take len (at - len) buffer in
    let body : drop (length (print_response f.1.0)) new.given ≡ take (at - len) (drop len buffer) ++ gave =
    ap (λ (k : ℕ). drop k new.given) (sym f.1.4) ∙ ap (λ (t : List ℕ). drop len t) given ∙ drop-append-le len mid.given gave (omega (arith, size, f.1.5)) ∙ ap (λ (t : List ℕ). t ++ gave) part in
    record {
      got = d.got;
      end = d.end;
      is_got = d.is_got;
      stops = d.stops;
      received = inl (
        f.1.0,
        f.1.1 ++ take (room - length mid.given) gave,
        answer,
        ap (λ (x : Headed). received_head x limit (drop (length (print_response f.1.0)) new.given) d.end) (sym f.1.3) ∙ ap (λ (t : List ℕ). received_body said limit t d.end) body ∙ d.received,
      );
    }

gets_body : (limit before now len at : ℕ) (sent buffer poured : List ℕ) (said : Said) (r : Result Outcome FailedType) (mid new : Talk) → Fronts {E = FailedType} sent (Ok (Whole (Body said) len at)) buffer mid → at ≤ room
    → Bodies said limit before now r (take (at - len) (drop len buffer)) poured mid new → Gets limit before now r sent poured new
gets_body limit before now len at sent buffer poured said r mid new f fits b = (
  b.gives.sent ∙ f.0,
  elim b.decided as (λ d. (r ≡ Ok NoMemory) ⊎ Settles limit before now r poured new) [
    | inl e ↦ inl e
    | inr d ↦ inr (settles_body limit before now len at sent buffer poured said r mid new f fits b.gave b.gives.given d)
  ],
)

gets_failed : (limit before now : ℕ) (sent buffer : List ℕ) (e : FailedType) (talk : Talk) → Rose before now → Fronts sent (Err e) buffer talk → Gets limit before now (Err e) sent [] talk
gets_failed limit before now sent buffer e talk rose f =
    (f.0, inr (record { got = Fault; end = failed; is_got = refl; stops = stops_failed before now talk.ended rose; received = inr (inl (f.1, refl, refl)) }))

gets_unreadable : (limit before now : ℕ) (sent buffer : List ℕ) (talk : Talk) → Fronts {E = FailedType} sent (Ok BadFront) buffer talk → Gets {E = FailedType} limit before now (Ok Unreadable) sent [] talk
gets_unreadable limit before now sent buffer talk f = (
  f.0,
  inr (record {
    got = BadAnswer;
    end = f.1.0;
    is_got = refl;
    stops = record { is_ended = f.1.3; is_failed = λ e. absurd (f.1.4 e) };
    received = inr (inr (f.1.1, f.1.2, refl));
  }),
)

-- the same where the connector may tell nothing, and of the pourer
pub serves_head : {P : Type 0} (took : P → List ℕ → Type 0) (limit before now len at : ℕ) (buffer : List ℕ) (headed : Headed) (outcome : Outcome) (got : Got) (p : P) (old new : Option Talk)
    → Tells (λ o x. Fronts {E = FailedType} o.sent (Ok (Whole headed len at)) buffer x) old new → ((body : List ℕ) → received_head headed limit body neither ≡ Some got) → IsGot {E = FailedType} (Ok outcome) [] got
    → Sizes {E = FailedType} limit (Ok outcome) [] → Serves {E = FailedType} took limit (Ok outcome) (GetsFrom {E = FailedType} limit before now (Ok outcome)) p p old new
serves_head took limit before now len at buffer headed outcome got p old new t decides is sizes = record {
  poured = [];
  pours = pours_none took p;
  within = omega arith;
  sizes = sizes;
  told = weaken (λ o x. Fronts {E = FailedType} o.sent (Ok (Whole headed len at)) buffer x) (λ o x. Gets {E = FailedType} limit before now (Ok outcome) o.sent [] x) old new t
      (λ o x f. gets_head limit before now len at o.sent buffer headed outcome got x f decides is);
}

pub serves_body : {P : Type 0} (took : P → List ℕ → Type 0) (limit before middle now len at : ℕ) (buffer : List ℕ) (headed : Headed) (said : Said) (r : Result Outcome FailedType) (p q : P) (old mid new : Option Talk)
    → Tells (λ o x. Fronts {E = FailedType} o.sent (Ok (Whole headed len at)) buffer x) old mid → headed ≡ Body said → at ≤ room → middle ≡ before
    → Serves took limit r (Bodies said limit middle now r (take (at - len) (drop len buffer))) p q mid new → Serves took limit r (GetsFrom limit before now r) p q old new
serves_body took limit before middle now len at buffer headed said r p q old mid new t e fits count s = record {
  poured = s.poured;
  pours = s.pours;
  within = s.within;
  sizes = s.sizes;
  told = lift (λ o x. Fronts {E = FailedType} o.sent (Ok (Whole headed len at)) buffer x) (Bodies said limit middle now r (take (at - len) (drop len buffer)) s.poured) (λ o x. Gets limit before now r o.sent s.poured x) old mid new t s.told
      (λ o m x f b. gets_body limit before now len at o.sent buffer s.poured said r m x (subst (λ (h : Headed). Fronts {E = FailedType} o.sent (Ok (Whole h len at)) buffer m) e f) fits (subst (λ (n : ℕ). Bodies said limit n now r (take (at - len) (drop len buffer)) s.poured m x) count b));
}

pub serves_failed : {P : Type 0} (took : P → List ℕ → Type 0) (limit before now : ℕ) (buffer : List ℕ) (e : FailedType) (p : P) (old new : Option Talk) → Rose before now
    → Tells (λ o x. Fronts o.sent (Err e) buffer x) old new → Serves took limit (Err e) (GetsFrom limit before now (Err e)) p p old new
serves_failed took limit before now buffer e p old new rose t = record {
  poured = [];
  pours = pours_none took p;
  within = omega arith;
  sizes = tt;
  told = weaken (λ o x. Fronts o.sent (Err e) buffer x) (λ o x. Gets limit before now (Err e) o.sent [] x) old new t (λ o x f. gets_failed limit before now o.sent buffer e x rose f);
}

pub serves_unreadable : {P : Type 0} (took : P → List ℕ → Type 0) (limit before now : ℕ) (buffer : List ℕ) (p : P) (old new : Option Talk)
    → Tells (λ o x. Fronts {E = FailedType} o.sent (Ok BadFront) buffer x) old new → Serves {E = FailedType} took limit (Ok Unreadable) (GetsFrom {E = FailedType} limit before now (Ok Unreadable)) p p old new
serves_unreadable took limit before now buffer p old new t = record {
  poured = [];
  pours = pours_none took p;
  within = omega arith;
  sizes = tt;
  told = weaken (λ o x. Fronts {E = FailedType} o.sent (Ok BadFront) buffer x) (λ o x. Gets {E = FailedType} limit before now (Ok Unreadable) o.sent [] x) old new t (λ o x f. gets_unreadable limit before now o.sent buffer x f);
}

-- a conversation that was opened
abbrev pub IsOpened : Option Talk → Option Talk → Type 0
IsOpened old new = MatchOption old (IsNone new) (λ _. new ≡ Some silence)

abbrev pub IsSent : Result (Unit {0}) FailedType → List ℕ → Option Talk → Option Talk → Type 0
IsSent r bytes old new = MatchOption old (IsNone new) (λ o. IsSomeAnd new (Says o r bytes))

-- where the connector failed before the request was whole, a front of it was sent
pub asked_not_opened : {P : Type 0} (took : P → List ℕ → Type 0) (limit before now : ℕ) (request : List ℕ) (e : FailedType) (p : P) (old new : Option Talk) → IsOpened old new
    → Serves took limit (Err e) (Asked limit before now request (Err e)) p p old new
asked_not_opened took limit before now request e p old new h = record {
  poured = [];
  pours = pours_none took p;
  within = omega arith;
  sizes = tt;
  told = told old new h;
}
  where
    told : (o n : Option Talk) → IsOpened o n → Told (Asked limit before now request (Err e) []) o n
    told None n h = tt
    told (Some o) None h = absurd (cc)
    told (Some o) (Some n) h = let same : n ≡ silence = cc in inr (record { failed = search (rules); count = 0; sent = ap (λ (t : Talk). t.sent) same; given = ap (λ (t : Talk). t.given) same })

pub asked_not_sent : {P : Type 0} (took : P → List ℕ → Type 0) (limit before now : ℕ) (request : List ℕ) (e : FailedType) (p : P) (old mid new : Option Talk) → IsOpened old mid → IsSent (Err e) request mid new
    → Serves took limit (Err e) (Asked limit before now request (Err e)) p p old new
asked_not_sent took limit before now request e p old mid new h s = record {
  poured = [];
  pours = pours_none took p;
  within = omega arith;
  sizes = tt;
  told = told old mid new h s;
}
  where
    told : (o m n : Option Talk) → IsOpened o m → IsSent (Err e) request m n → Told (Asked limit before now request (Err e) []) o n
    told None m n h s = tt
    told (Some o) None n h s = absurd (cc)
    told (Some o) (Some m) None h s = absurd s
    told (Some o) (Some m) (Some n) h s =
        let same : m ≡ silence = cc in
        inr (record { failed = search (rules); count = s.sent.0; sent = s.sent.1 ∙ ap (λ (t : Talk). t.sent ++ take s.sent.0 request) same; given = s.given ∙ ap (λ (t : Talk). t.given) same })

said_whole : (request : List ℕ) (o m n : Option Talk) → IsOpened o m → IsSent (Ok tt) request m n → Told (λ _ x. IsSilent x × (x.sent ≡ request)) o n
said_whole request None m n h s = tt
said_whole request (Some o) None n h s = absurd (cc)
said_whole request (Some o) (Some m) None h s = absurd s
said_whole request (Some o) (Some m) (Some n) h s =
    let same : m ≡ silence = cc in
    ((s.given ∙ ap (λ (t : Talk). t.given) same, s.ended ∙ ap (λ (t : Talk). t.ended) same), s.sent ∙ ap (λ (t : Talk). t.sent ++ request) same)

-- an answer behind the whole request
pub asked_whole : {P : Type 0} (took : P → List ℕ → Type 0) (limit before middle now : ℕ) (request : List ℕ) (r : Result Outcome FailedType) (p q : P) (old mid last new : Option Talk) → IsOpened old mid → IsSent (Ok tt) request mid last
    → middle ≡ before → Serves took limit r (GetsFrom limit middle now r) p q last new → Serves took limit r (Asked limit before now request r) p q old new
asked_whole took limit before middle now request r p q old mid last new h s count v = record {
  poured = v.poured;
  pours = v.pours;
  within = v.within;
  sizes = v.sizes;
  told = joined old last new (said_whole request old mid last h s) v.told;
}
  where
    joined : (o l n : Option Talk) → Told (λ _ x. IsSilent x × (x.sent ≡ request)) o l → Told (GetsFrom limit middle now r v.poured) l n → Told (Asked limit before now request r v.poured) o n
    joined None l n a b = tt
    joined (Some o) None n a b = absurd a
    joined (Some o) (Some l) None a b = absurd b
    joined (Some o) (Some l) (Some n) a b =
        let got : Gets limit middle now r l.sent v.poured n = b a.0 in
        inl (subst (λ (k : ℕ). Gets limit k now r request v.poured n) count (subst (λ (t : List ℕ). Gets limit middle now r t v.poured n) a.1 got))

pub asks_nothing : {P : Type 0} (took : P → List ℕ → Type 0) (limit before now : ℕ) (request : List ℕ) (p : P) (old : Option Talk)
    → Serves {E = FailedType} took limit (Ok NoMemory) (Asks {E = FailedType} limit before now request (Ok NoMemory)) p p old old
asks_nothing took limit before now request p old = record {
  poured = [];
  pours = pours_none took p;
  within = omega arith;
  sizes = tt;
  told = told old;
}
  where
    told : (o : Option Talk) → Told (Asks {E = FailedType} limit before now request (Ok NoMemory) []) o o
    told None = tt
    told (Some o) = inl (refl, refl)

pub asks_of : {P : Type 0} (took : P → List ℕ → Type 0) (limit before now : ℕ) (request : List ℕ) (r : Result Outcome FailedType) (p q : P) (old new : Option Talk)
    → Serves took limit r (Asked limit before now request r) p q old new → Serves took limit r (Asks limit before now request r) p q old new
asks_of took limit before now request r p q old new v = record {
  poured = v.poured;
  pours = v.pours;
  within = v.within;
  sizes = v.sizes;
  told = told old new v.told;
}
  where
    told : (o n : Option Talk) → Told (Asked limit before now request r v.poured) o n → Told (Asks limit before now request r v.poured) o n
    told None n t = tt
    told (Some o) None t = absurd t
    told (Some o) (Some n) t = inr t
