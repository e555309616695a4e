-- An answer's head that is received in pieces.
use Rattle.std.proofs.Common.{◌≡◌, ◌<◌, ◌≤◌, ◌+◌, ◌-◌, ◌==◌, ◌&&◌, ◌||◌, ℕ, List, [], ◌++◌, Bool, true, false, Option, Some, None, Result, Ok, Err, IfOk, IsNone, MatchOption, refl, sym, ◌∙◌, ap, arith, length, take, subst, nat_lt, take-take, length-append}
use Rattle.std.proofs.Math.Seq.{take-append-add}
use Rattle.std.proofs.lemmas.List.{length-take-le, length-take, take_all, append-nil, nil_from_length}
use Rattle.std.proofs.lemmas.Bool.Decides.{nat_tests}
use Rattle.addr_base.specs.declared.memory.Failed.{Failed}
use Rattle.addr_wire.specs.Talks.{Talk, heard}
use Rattle.httparse.specs.Grammar.{ResponseHead, print_response}
use Rattle.addr_http.specs.Answers.{IsAnswer, LooksAt}
use Rattle.addr_http.specs.Heads.{room}
use Rattle.addr_http.specs.Conversations.{IsSilent}
use Rattle.addr_http.specs.Fronts.{Fronts, HasFront, HearsAt}
use Rattle.addr_http.specs.Hearing.{Told}
use Rattle.addr_http.specs.Received.{HasNoAnswer}
use Rattle.addr_http.specs.Received.End.{ended, failed, neither}
use Rattle.addr_http.specs.declared.headed.Headed.{Headed}
use Rattle.addr_http.specs.declared.headed.Looked.TheVariants.{Whole as WholeHead, More, Never}
use Rattle.addr_http.specs.declared.receiving.Front.TheVariants.{Whole, Unreadable}
use Rattle.addr_http.proofs.HearingLemmas.{take_seam}

hears_one : (at : ℕ) (buffer into after : List ℕ) (old new : Talk) (r : Result ℕ Failed) → at < length buffer → length into ≡ length buffer - at → IfOk r (λ n. n ≤ length into) → take (at + length into) after ≡ take at buffer ++ into
    → new ≡ heard old r into → HearsAt at r buffer after old new
hears_one at buffer into after old new (Ok n) h l f e t =
    let some : nat_lt 0 (length into) ≡ true = grind (arith, nat_tests, l, h) in
    let short : at + n ≤ at + length into = omega (arith, f) in (
      take n into,
      sym (take-take (at + n) (at + length into) after short) ∙ ap (λ (b : List ℕ). take (at + n) b) e ∙ take_seam (take at buffer) into at n (length-take-le at buffer (omega (arith, h))),
      length-take-le n into f,
      ap (λ (x : Talk). x.given) t,
      ap (λ (x : Talk). x.sent) t,
      ap (λ (x : Talk). x.ended) t ∙ ap (λ (v : Bool). old.ended || v) (ap (λ (v : Bool). n == 0 && v) some ∙ and_true (n == 0)),
    )
  where
    and_true : (v : Bool) → (v && true) ≡ v
    and_true true = refl
    and_true false = refl
hears_one at buffer into after old new (Err x) h l f e t = t

pub hears_at : (at : ℕ) (buffer into after : List ℕ) (old new : Option Talk) (r : Result ℕ Failed) → at < length buffer → length into ≡ length buffer - at → IfOk r (λ n. n ≤ length into) → take (at + length into) after ≡ take at buffer ++ into
    → MatchOption old (IsNone new) (λ o. new ≡ Some (heard o r into))
    → Told (HearsAt at r buffer after) old new
hears_at at buffer into after None new r h l f e t = tt
hears_at at buffer into after (Some o) None r h l f e t = absurd (cc)
hears_at at buffer into after (Some o) (Some n) r h l f e t = let same : n ≡ heard o r into = cc in hears_one at buffer into after o n r h l f e same

-- so far what came stands at the buffer's front and has no head
pub record Hears (sent : List ℕ) (at : ℕ) (buffer : List ℕ) (talk : Talk) : Type 0 where
  pub given : talk.given ≡ take at buffer
  pub sent_is : talk.sent ≡ sent
  pub ended_is : talk.ended ≡ false
  pub none : HasNoAnswer talk.given

no_empty : (h : ResponseHead) (rest : List ℕ) → [] ≡ print_response h ++ rest → ⊥
unfolding print_response
no_empty h rest e = let k = simp length-append at (ap (λ (b : List ℕ). length b) e) in omega (arith, k)

pub hears_first : (buffer : List ℕ) (old : Talk) → IsSilent old → Hears old.sent 0 buffer old
hears_first buffer old s = record {
  given = s.0;
  sent_is = refl;
  ended_is = s.1;
  none = λ h rest a. no_empty h rest (let e : take room old.given ≡ print_response h ++ rest = a.reads.1 in sym (ap (λ (b : List ℕ). take room b) s.0) ∙ e);
}

-- bytes that fit the room are all in it
pub all_in_room : (bytes : List ℕ) → length bytes ≤ room → take room bytes ≡ bytes
all_in_room bytes h = take_all room bytes h

pub front_in_room : (bytes more : List ℕ) → length bytes ≤ room → take room (bytes ++ more) ≡ bytes ++ take (room - length bytes) more
front_in_room bytes more h =
    let e : room ≡ length bytes + (room - length bytes) = omega (arith, h) in
    ap (λ (k : ℕ). take k (bytes ++ more)) e ∙ take-append-add bytes more (room - length bytes)

answer_at : (a b : List ℕ) (h : ResponseHead) (rest : List ℕ) → a ≡ b → IsAnswer a h rest → IsAnswer b h rest
answer_at a b h rest e x = subst (λ (t : List ℕ). IsAnswer t h rest) e x

none_in : (bytes : List ℕ) → length bytes ≤ room → ((h : ResponseHead) (rest : List ℕ) → IsAnswer bytes h rest → ⊥) → HasNoAnswer bytes
none_in bytes small none h rest x = none h rest (answer_at (take room bytes) bytes h rest (all_in_room bytes small) x)

-- what one more receive gives
pub record Heard (sent : List ℕ) (k : ℕ) (after : List ℕ) (talk : Talk) : Type 0 where
  pub given : talk.given ≡ take k after
  pub sent_is : talk.sent ≡ sent
  pub ended_is : talk.ended ≡ false
  pub small : length talk.given ≤ room

nonzero : (v w : Bool) (n : ℕ) → w ≡ (v || n == 0) → v ≡ false → 0 < n → w ≡ false
nonzero v w n e f h = let z : (n == 0) ≡ false = grind (arith, nat_tests, h) in e ∙ ap (λ (x : Bool). x || n == 0) f ∙ z

pub heard_one : (sent : List ℕ) (at n : ℕ) (buffer after : List ℕ) (old new : Talk) → Hears sent at buffer old → HearsAt {E = Failed} at (Ok n) buffer after old new → 0 < n → at + n ≤ room → Heard sent (at + n) after new
heard_one sent at n buffer after old new s t h fits =
    let given : new.given ≡ take (at + n) after = t.3 ∙ ap (λ (b : List ℕ). b ++ t.0) s.given ∙ sym t.1 in
    record {
      given = given;
      sent_is = t.4 ∙ s.sent_is;
      ended_is = nonzero old.ended new.ended n t.5 s.ended_is h;
      small = omega (arith, ap (λ (b : List ℕ). length b) given, length-take (at + n) after, fits);
    }

pub front_whole : (sent : List ℕ) (k len : ℕ) (after : List ℕ) (talk : Talk) (headed : Headed) → Heard sent k after talk → LooksAt (take k after) (WholeHead headed len) → k ≤ length after → HasFront talk after (Whole headed len k)
front_whole sent k len after talk headed s l fits =
    let reads : take k after ≡ print_response l.0 ++ l.1 = l.2.reads.1 in
    let sizes : length (take k after) ≡ length (print_response l.0) + length l.1 = ap (λ (b : List ℕ). length b) reads ∙ length-append (print_response l.0) l.1 in (
      l.0,
      l.1,
      answer_at (take k after) (take room talk.given) l.0 l.1 (sym (all_in_room talk.given s.small ∙ s.given)) l.2,
      l.3,
      l.4,
      omega (arith, l.4, sizes, length-take-le k after fits),
      s.given,
      fits,
      s.ended_is,
    )

pub front_never : (sent : List ℕ) (k : ℕ) (after : List ℕ) (talk : Talk) → Heard sent k after talk → LooksAt (take k after) Never → HasFront talk after Unreadable
front_never sent k after talk s l =
    let never : (more : List ℕ) (h : ResponseHead) (rest : List ℕ) → IsAnswer (talk.given ++ more) h rest → ⊥ = λ more h rest x. l more h rest (answer_at (talk.given ++ more) (take k after ++ more) h rest (ap (λ (b : List ℕ). b ++ more) s.given) x) in (
      neither,
      none_in talk.given s.small (λ h rest x. never [] h rest (answer_at talk.given (talk.given ++ []) h rest (sym (append-nil talk.given)) x)),
      (λ more z h rest x. never (take (room - length talk.given) more) h rest (answer_at (take room (talk.given ++ more)) (talk.given ++ take (room - length talk.given) more) h rest (front_in_room talk.given more s.small) x)),
      (λ e. absurd (not_ended e)),
      λ e. not_failed e,
    )
  where
    not_ended : neither ≡ ended → ⊥
    not_ended e = cc

    not_failed : neither ≡ failed → ⊥
    not_failed e = cc

pub hears_more : (sent : List ℕ) (k : ℕ) (after : List ℕ) (talk : Talk) → Heard sent k after talk → LooksAt (take k after) More → Hears sent k after talk
hears_more sent k after talk s l = record {
  given = s.given;
  sent_is = s.sent_is;
  ended_is = s.ended_is;
  none = none_in talk.given s.small (λ h rest x. l h rest (answer_at talk.given (take k after) h rest s.given x));
}

pub front_ended : (sent : List ℕ) (at n : ℕ) (buffer after : List ℕ) (old new : Talk) → Hears sent at buffer old → HearsAt {E = Failed} at (Ok n) buffer after old new → n ≡ 0 → (new.sent ≡ sent) × HasFront new after Unreadable
front_ended sent at n buffer after old new s t z =
    let nothing : t.0 ≡ [] = nil_from_length t.0 (t.2 ∙ z) in
    let same : new.given ≡ old.given = t.3 ∙ ap (λ (b : List ℕ). old.given ++ b) nothing ∙ append-nil old.given in
    let none : HasNoAnswer new.given = subst (λ (b : List ℕ). HasNoAnswer b) (sym same) s.none in
    let over : new.ended ≡ true = t.5 ∙ ap (λ (m : ℕ). old.ended || m == 0) z ∙ or_true old.ended in
    (t.4 ∙ s.sent_is, (ended, none, (λ more e. subst (λ (b : List ℕ). HasNoAnswer b) (sym (ap (λ (m : List ℕ). new.given ++ m) (e refl) ∙ append-nil new.given)) none), (λ e. over), λ e. not_failed e))
  where
    not_failed : ended ≡ failed → ⊥
    not_failed e = cc

    or_true : (v : Bool) → (v || true) ≡ true
    or_true true = refl
    or_true false = refl

pub front_full : (sent : List ℕ) (at : ℕ) (buffer : List ℕ) (talk : Talk) → Hears sent at buffer talk → length buffer ≡ room → room ≤ at → (talk.sent ≡ sent) × HasFront talk buffer Unreadable
front_full sent at buffer talk s len h =
    let whole : talk.given ≡ buffer = s.given ∙ take_all at buffer (omega (arith, len, h)) in
    let size : length talk.given ≡ room = ap (λ (b : List ℕ). length b) whole ∙ len in (
      s.sent_is,
      (
        neither,
        s.none,
        (λ more z h rest x. s.none h rest (answer_at (take room (talk.given ++ more)) (take room talk.given) h rest (front_in_room talk.given more (omega (arith, size)) ∙ cut more size) x)),
        (λ e. absurd (not_ended e)),
        λ e. not_failed e,
      ),
    )
  where
    not_ended : neither ≡ ended → ⊥
    not_ended e = cc

    not_failed : neither ≡ failed → ⊥
    not_failed e = cc

    cut : (more : List ℕ) → length talk.given ≡ room → talk.given ++ take (room - length talk.given) more ≡ take room talk.given
    cut more size =
        let zero_left : room - length talk.given ≡ 0 = omega (arith, size) in
        ap (λ (m : ℕ). talk.given ++ take m more) zero_left ∙ append-nil talk.given ∙ sym (take_all room talk.given (omega (arith, size)))

-- the same where the connector may tell nothing
abbrev pub Tells : (Talk → Talk → Type 0) → Option Talk → Option Talk → Type 0
Tells P old new = Told (λ o n. IsSilent o → P o n) old new

pub lift : (P : Talk → Talk → Type 0) (Q S : Talk → Talk → Type 0) (old mid new : Option Talk) → Tells P old mid → Told Q mid new
    → ((o m n : Talk) → P o m → Q m n → S o n) → Tells S old new
lift P Q S None mid new p q step = tt
lift P Q S (Some o) None new p q step = absurd p
lift P Q S (Some o) (Some m) None p q step = absurd q
lift P Q S (Some o) (Some m) (Some n) p q step = λ s. step o m n (p s) q

pub weaken : (P S : Talk → Talk → Type 0) (old new : Option Talk) → Tells P old new → ((o n : Talk) → P o n → S o n) → Tells S old new
weaken P S None new p step = tt
weaken P S (Some o) None p step = absurd p
weaken P S (Some o) (Some n) p step = λ s. step o n (p s)

pub tells_first : (buffer : List ℕ) (talk : Option Talk) → Tells (λ o n. Hears o.sent 0 buffer n) talk talk
tells_first buffer None = tt
tells_first buffer (Some o) = λ s. hears_first buffer o s

tells_one : (at n : ℕ) (buffer after : List ℕ) (old mid new : Option Talk) → Tells (λ o m. Hears o.sent at buffer m) old mid → Told (HearsAt {E = Failed} at (Ok n) buffer after) mid new → 0 < n → at + n ≤ room
    → Tells (λ o x. Heard o.sent (at + n) after x) old new
tells_one at n buffer after old mid new p q h fits =
    lift (λ o m. Hears o.sent at buffer m) (HearsAt {E = Failed} at (Ok n) buffer after) (λ o x. Heard o.sent (at + n) after x) old mid new p q (λ o m x s t. heard_one o.sent at n buffer after m x s t h fits)

pub tells_more : (at n : ℕ) (buffer after : List ℕ) (old mid new : Option Talk) → Tells (λ o m. Hears o.sent at buffer m) old mid → Told (HearsAt {E = Failed} at (Ok n) buffer after) mid new → 0 < n → at + n ≤ room
    → LooksAt (take (at + n) after) More → Tells (λ o x. Hears o.sent (at + n) after x) old new
tells_more at n buffer after old mid new p q h fits l =
    weaken (λ o x. Heard o.sent (at + n) after x) (λ o x. Hears o.sent (at + n) after x) old new (tells_one at n buffer after old mid new p q h fits) (λ o x s. hears_more o.sent (at + n) after x s l)

pub tells_whole : (at n len : ℕ) (headed : Headed) (buffer after : List ℕ) (old mid new : Option Talk) → Tells (λ o m. Hears o.sent at buffer m) old mid → Told (HearsAt {E = Failed} at (Ok n) buffer after) mid new → 0 < n → at + n ≤ room
    → LooksAt (take (at + n) after) (WholeHead headed len) → at + n ≤ length after → Tells (λ o x. Fronts {E = Failed} o.sent (Ok (Whole headed len (at + n))) after x) old new
tells_whole at n len headed buffer after old mid new p q h fits l short =
    weaken (λ o x. Heard o.sent (at + n) after x) (λ o x. Fronts {E = Failed} o.sent (Ok (Whole headed len (at + n))) after x) old new (tells_one at n buffer after old mid new p q h fits) (λ o x s. (s.sent_is, front_whole o.sent (at + n) len after x headed s l short))

pub tells_never : (at n : ℕ) (buffer after : List ℕ) (old mid new : Option Talk) → Tells (λ o m. Hears o.sent at buffer m) old mid → Told (HearsAt {E = Failed} at (Ok n) buffer after) mid new → 0 < n → at + n ≤ room
    → LooksAt (take (at + n) after) Never → Tells (λ o x. Fronts {E = Failed} o.sent (Ok Unreadable) after x) old new
tells_never at n buffer after old mid new p q h fits l =
    weaken (λ o x. Heard o.sent (at + n) after x) (λ o x. Fronts {E = Failed} o.sent (Ok Unreadable) after x) old new (tells_one at n buffer after old mid new p q h fits) (λ o x s. (s.sent_is, front_never o.sent (at + n) after x s l))

pub tells_ended : (at n : ℕ) (buffer after : List ℕ) (old mid new : Option Talk) → Tells (λ o m. Hears o.sent at buffer m) old mid → Told (HearsAt {E = Failed} at (Ok n) buffer after) mid new → n ≡ 0
    → Tells (λ o x. Fronts {E = Failed} o.sent (Ok Unreadable) after x) old new
tells_ended at n buffer after old mid new p q z =
    lift (λ o m. Hears o.sent at buffer m) (HearsAt {E = Failed} at (Ok n) buffer after) (λ o x. Fronts {E = Failed} o.sent (Ok Unreadable) after x) old mid new p q (λ o m x s t. front_ended o.sent at n buffer after m x s t z)

pub tells_full : (at : ℕ) (buffer : List ℕ) (old new : Option Talk) → Tells (λ o m. Hears o.sent at buffer m) old new → length buffer ≡ room → room ≤ at → Tells (λ o x. Fronts {E = Failed} o.sent (Ok Unreadable) buffer x) old new
tells_full at buffer old new p len h = weaken (λ o m. Hears o.sent at buffer m) (λ o x. Fronts {E = Failed} o.sent (Ok Unreadable) buffer x) old new p (λ o x s. front_full o.sent at buffer x s len h)

pub whole_inside : (k len : ℕ) (after : List ℕ) (headed : Headed) → LooksAt (take k after) (WholeHead headed len) → k ≤ length after → len ≤ k
whole_inside k len after headed l fits =
    let reads : take k after ≡ print_response l.0 ++ l.1 = l.2.reads.1 in
    let sizes : length (take k after) ≡ length (print_response l.0) + length l.1 = ap (λ (b : List ℕ). length b) reads ∙ length-append (print_response l.0) l.1 in
    omega (arith, l.4, sizes, length-take-le k after fits)
