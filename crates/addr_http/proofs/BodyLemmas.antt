-- What the bytes of a body decide, and what of them was poured.
use Rattle.std.proofs.Common.{◌≡◌, ◌<◌, ◌≤◌, ◌+◌, ◌-◌, ◌++◌, ◌⊎◌, ℕ, List, [], Bool, true, false, Option, Some, None, Result, Ok, Err, refl, sym, ◌∙◌, ap, arith, length, take, nat_lt, nat_le, subst, inl, inr}
use Rattle.std.proofs.lemmas.Bool.Decides.{nat_tests}
use Rattle.std.proofs.lemmas.List.{length-append, length-take, length-take-le, take_all}
use Rattle.addr_base.specs.Faults.{Rose}
use Rattle.addr_base.specs.declared.memory.Failed.{Failed as FailedType}
use Rattle.addr_wire.specs.Talks.{Talk}
use Rattle.addr_http.specs.Bodies.{Bodies, Decides, Takes}
use Rattle.addr_http.specs.Collecting.{CollectedOf, Collects, Gave, IsOver}
use Rattle.addr_http.specs.Conversations.{Serves, Stops}
use Rattle.addr_http.specs.Hearing.{Told}
use Rattle.addr_http.specs.Pours.{Pours}
use Rattle.addr_http.specs.Received.{Got}
use Rattle.addr_http.specs.Received.End.{ended, failed, neither}
use Rattle.addr_http.specs.Received.Got.{Given, TooLong as Longer, Fault, BadAnswer}
use Rattle.addr_http.specs.declared.collecting.Collected.{Collected}
use Rattle.addr_http.specs.declared.collecting.Collected.TheVariants.{Enough, Ended, NoMemory as NoRoom}
use Rattle.addr_http.specs.declared.headed.Said.{Said}
use Rattle.addr_http.specs.declared.headed.Said.TheVariants.{Open, Sized, Unreadable as BadLength}
use Rattle.addr_http.specs.declared.outcome.Outcome.{Outcome}
use Rattle.addr_http.specs.declared.outcome.Outcome.TheVariants.{Whole, TooLong, Unreadable, NoMemory}
use Rattle.addr_http.proofs.CollectingLemmas.{gave_none, pours_none, pours_on, take_both}

-- a first part that was poured, and the pieces behind it
case_both : (total room : ℕ) (first gave poured : List ℕ) (r : Result Collected FailedType)
    → CollectedOf (total - length first) (room - length first) r gave poured → CollectedOf total room r (first ++ gave) (take room first ++ poured)
case_both total room first gave poured (Ok Enough) k =
    (omega (arith, length-append first gave, k.0), ap (λ (t : List ℕ). take room first ++ t) k.1 ∙ sym (take_both room first gave))
case_both total room first gave poured (Ok (Ended missing)) k =
    (omega (arith, length-append first gave, k.0), k.1, ap (λ (t : List ℕ). take room first ++ t) k.2 ∙ sym (take_both room first gave))
case_both total room first gave poured (Ok NoRoom) k = omega (arith, length-append (take room first) poured, length-take room first, k)
case_both total room first gave poured (Err e) k =
    (omega (arith, length-append first gave, k.0), ap (λ (t : List ℕ). take room first ++ t) k.1 ∙ sym (take_both room first gave))

pub takes_both : {P : Type 0} (took : P → List ℕ → Type 0) (total room there : ℕ) (first : List ℕ) (r : Result Collected FailedType) (p q s : P) (old new : Option Talk)
    → there ≡ length first → Pours took p q (take room first) → Collects took (total - there) (room - there) r q s old new → Takes took total room first r p s old new
takes_both took total room there first r p q s old new e first_poured c =
    let case : CollectedOf (total - length first) (room - length first) r c.gave c.poured = subst (λ (n : ℕ). CollectedOf (total - n) (room - n) r c.gave c.poured) e c.case in
    record {
      gave = c.gave;
      poured = take room first ++ c.poured;
      pours = pours_on took p q s (take room first) c.poured first_poured c.pours;
      case = case_both total room first c.gave c.poured r case;
      told = c.told;
      over = c.over;
    }

pub takes_refused : {P : Type 0} (took : P → List ℕ → Type 0) (total room : ℕ) (first : List ℕ) (p q : P) (old : Option Talk)
    → Pours took p q [] → Takes {E = FailedType} took total room first (Ok NoRoom) p q old old
takes_refused took total room first p q old x = record { gave = []; poured = []; pours = x; case = omega arith; told = gave_none old; over = tt }

-- how the bytes stopped
pub stops_neither : (before now : ℕ) (over : Bool) → Stops before now over neither
stops_neither before now over = record { is_ended = λ e. absurd (clash e); is_failed = λ e. absurd (other e) }
  where
    clash : neither ≡ ended → ⊥
    clash e = cc

    other : neither ≡ failed → ⊥
    other e = cc

pub stops_ended : (before now : ℕ) (over : Bool) → over ≡ true → Stops before now over ended
stops_ended before now over h = record { is_ended = λ e. h; is_failed = λ e. absurd (other e) }
  where
    other : ended ≡ failed → ⊥
    other e = cc

pub stops_failed : (before now : ℕ) (over : Bool) → Rose before now → Stops before now over failed
stops_failed before now over h = record { is_ended = λ e. absurd (other e); is_failed = λ e. h }
  where
    other : failed ≡ ended → ⊥
    other e = cc

-- from what was told of the pieces, what is told of the body
pub bodied : (said : Said) (limit before now : ℕ) (r : Result Outcome FailedType) (first poured gave : List ℕ) (old new : Option Talk)
    → Told (Gave gave) old new → ((o n : Talk) → new ≡ Some n → (r ≡ Ok NoMemory) ⊎ Decides said limit before now r (first ++ gave) poured n.ended)
    → Told (Bodies said limit before now r first poured) old new
bodied said limit before now r first poured gave None new g d = tt
bodied said limit before now r first poured gave (Some o) None g d = absurd g
bodied said limit before now r first poured gave (Some o) (Some n) g d = record { gave = gave; gives = g; decided = d o n refl }

over_at : (talk : Option Talk) (n : Talk) → IsOver talk → talk ≡ Some n → n.ended ≡ true
over_at None n h e = absurd (cc)
over_at (Some x) n h e = let same : x ≡ n = cc in subst (λ (t : Talk). t.ended ≡ true) same h

-- a body that says its length
pub sized_long : {P : Type 0} (took : P → List ℕ → Type 0) (size limit before now : ℕ) (first : List ℕ) (p : P) (old : Option Talk) → limit < size
    → Serves {E = FailedType} took limit (Ok (TooLong size)) (Bodies {E = FailedType} (Sized size) limit before now (Ok (TooLong size)) first) p p old old
sized_long took size limit before now first p old h =
    let large : nat_lt limit size ≡ true = grind (arith, nat_tests, h) in
    record {
      poured = [];
      pours = pours_none took p;
      within = omega arith;
      sizes = h;
      told = bodied (Sized size) limit before now (Ok (TooLong size)) first [] [] old old (gave_none old) (λ o n e. inr (record { got = Longer size; end = neither; is_got = refl; stops = stops_neither before now n.ended; received = rw large refl }));
    }

pub sized_whole : {P : Type 0} (took : P → List ℕ → Type 0) (size limit before now : ℕ) (first : List ℕ) (p q : P) (old new : Option Talk) → size ≤ limit
    → Takes {E = FailedType} took size size first (Ok Enough) p q old new → Serves {E = FailedType} took limit (Ok (Whole size)) (Bodies {E = FailedType} (Sized size) limit before now (Ok (Whole size)) first) p q old new
sized_whole took size limit before now first p q old new h t =
    let small : nat_lt limit size ≡ false = grind (arith, nat_tests, h) in
    let fits : nat_le size (length (first ++ t.gave)) ≡ true = grind (arith, nat_tests, t.case.0) in
    let len : length t.poured ≡ size = ap (λ (b : List ℕ). length b) t.case.1 ∙ length-take-le size (first ++ t.gave) t.case.0 in
    record {
      poured = t.poured;
      pours = t.pours;
      within = omega (arith, len, h);
      sizes = sym len;
      told = bodied (Sized size) limit before now (Ok (Whole size)) first t.poured t.gave old new t.told
          (λ o n e. inr (record { got = Given t.poured; end = neither; is_got = (refl, sym len); stops = stops_neither before now n.ended; received = rw (small, fits) (ap (λ (b : List ℕ). let r : Option Got = Some (Given b) in r) (sym t.case.1)) }));
    }

sized_within : (size : ℕ) (limit : ℕ) (body poured : List ℕ) → poured ≡ take size body → size ≤ limit → length poured ≤ limit
sized_within size limit body poured e h = omega (arith, ap (λ (b : List ℕ). length b) e, length-take size body, h)

pub sized_short : {P : Type 0} (took : P → List ℕ → Type 0) (size limit before now missing : ℕ) (first : List ℕ) (p q : P) (old new : Option Talk) → size ≤ limit
    → Takes {E = FailedType} took size size first (Ok (Ended missing)) p q old new → Serves {E = FailedType} took limit (Ok Unreadable) (Bodies {E = FailedType} (Sized size) limit before now (Ok Unreadable) first) p q old new
sized_short took size limit before now missing first p q old new h t =
    let small : nat_lt limit size ≡ false = grind (arith, nat_tests, h) in
    let less : length (first ++ t.gave) < size = omega (arith, t.case.0, t.case.1) in
    let fits : nat_le size (length (first ++ t.gave)) ≡ false = grind (arith, nat_tests, less) in
    record {
      poured = t.poured;
      pours = t.pours;
      within = sized_within size limit (first ++ t.gave) t.poured t.case.2 h;
      sizes = tt;
      told = bodied (Sized size) limit before now (Ok Unreadable) first t.poured t.gave old new t.told
          (λ o n e. inr (record { got = BadAnswer; end = ended; is_got = refl; stops = stops_ended before now n.ended (over_at new n t.over e); received = rw (small, fits) refl }));
    }

pub sized_failed : {P : Type 0} (took : P → List ℕ → Type 0) (size limit before now : ℕ) (e : FailedType) (first : List ℕ) (p q : P) (old new : Option Talk) → size ≤ limit → Rose before now
    → Takes {E = FailedType} took size size first (Err e) p q old new → Serves {E = FailedType} took limit (Err e) (Bodies {E = FailedType} (Sized size) limit before now (Err e) first) p q old new
sized_failed took size limit before now f first p q old new h rose t =
    let small : nat_lt limit size ≡ false = grind (arith, nat_tests, h) in
    let fits : nat_le size (length (first ++ t.gave)) ≡ false = grind (arith, nat_tests, t.case.0) in
    record {
      poured = t.poured;
      pours = t.pours;
      within = sized_within size limit (first ++ t.gave) t.poured t.case.1 h;
      sizes = tt;
      told = bodied (Sized size) limit before now (Err f) first t.poured t.gave old new t.told
          (λ o n e. inr (record { got = Fault; end = failed; is_got = refl; stops = stops_failed before now n.ended rose; received = rw (small, fits) refl }));
    }

pub refused : {P : Type 0} (took : P → List ℕ → Type 0) (said : Said) (total room limit before now : ℕ) (first : List ℕ) (p q : P) (old new : Option Talk) → room ≤ limit
    → Takes {E = FailedType} took total room first (Ok NoRoom) p q old new → Serves {E = FailedType} took limit (Ok NoMemory) (Bodies {E = FailedType} said limit before now (Ok NoMemory) first) p q old new
refused took said total room limit before now first p q old new h t = record {
  poured = t.poured;
  pours = t.pours;
  within = omega (arith, t.case, h);
  sizes = tt;
  told = bodied said limit before now (Ok NoMemory) first t.poured t.gave old new t.told (λ o n e. inl refl);
}

-- a body that doesn't
pub open_long : {P : Type 0} (took : P → List ℕ → Type 0) (limit before now : ℕ) (first : List ℕ) (p q : P) (old new : Option Talk)
    → Takes {E = FailedType} took (limit + 1) limit first (Ok Enough) p q old new → Serves {E = FailedType} took limit (Ok (TooLong (limit + 1))) (Bodies {E = FailedType} Open limit before now (Ok (TooLong (limit + 1))) first) p q old new
open_long took limit before now first p q old new t =
    let large : nat_lt limit (length (first ++ t.gave)) ≡ true = grind (arith, nat_tests, t.case.0) in
    record {
      poured = t.poured;
      pours = t.pours;
      within = sized_within limit limit (first ++ t.gave) t.poured t.case.1 (omega arith);
      sizes = omega arith;
      told = bodied Open limit before now (Ok (TooLong (limit + 1))) first t.poured t.gave old new t.told
          (λ o n e. inr (record { got = Longer (limit + 1); end = neither; is_got = refl; stops = stops_neither before now n.ended; received = rw large refl }));
    }

pub open_whole : {P : Type 0} (took : P → List ℕ → Type 0) (limit before now missing size : ℕ) (first : List ℕ) (p q : P) (old new : Option Talk) → size ≡ limit + 1 - missing
    → Takes {E = FailedType} took (limit + 1) limit first (Ok (Ended missing)) p q old new → Serves {E = FailedType} took limit (Ok (Whole size)) (Bodies {E = FailedType} Open limit before now (Ok (Whole size)) first) p q old new
open_whole took limit before now missing size first p q old new s t =
    let less : length (first ++ t.gave) ≤ limit = omega (arith, t.case.0, t.case.1) in
    let small : nat_lt limit (length (first ++ t.gave)) ≡ false = grind (arith, nat_tests, less) in
    let all : t.poured ≡ first ++ t.gave = t.case.2 ∙ take_all limit (first ++ t.gave) less in
    let len : size ≡ length t.poured = omega (arith, s, t.case.0, less, ap (λ (b : List ℕ). length b) all) in
    record {
      poured = t.poured;
      pours = t.pours;
      within = sized_within limit limit (first ++ t.gave) t.poured t.case.2 (omega arith);
      sizes = len;
      told = bodied Open limit before now (Ok (Whole size)) first t.poured t.gave old new t.told
          (λ o n e. inr (record { got = Given t.poured; end = ended; is_got = (refl, len); stops = stops_ended before now n.ended (over_at new n t.over e); received = rw small (ap (λ (b : List ℕ). let r : Option Got = Some (Given b) in r) (sym all)) }));
    }

pub open_failed : {P : Type 0} (took : P → List ℕ → Type 0) (limit before now : ℕ) (e : FailedType) (first : List ℕ) (p q : P) (old new : Option Talk) → Rose before now
    → Takes {E = FailedType} took (limit + 1) limit first (Err e) p q old new → Serves {E = FailedType} took limit (Err e) (Bodies {E = FailedType} Open limit before now (Err e) first) p q old new
open_failed took limit before now f first p q old new rose t =
    let small : nat_lt limit (length (first ++ t.gave)) ≡ false = grind (arith, nat_tests, t.case.0) in
    record {
      poured = t.poured;
      pours = t.pours;
      within = sized_within limit limit (first ++ t.gave) t.poured t.case.1 (omega arith);
      sizes = tt;
      told = bodied Open limit before now (Err f) first t.poured t.gave old new t.told
          (λ o n e. inr (record { got = Fault; end = failed; is_got = refl; stops = stops_failed before now n.ended rose; received = rw small refl }));
    }

-- a length that can't be read
pub unreadable : {P : Type 0} (took : P → List ℕ → Type 0) (limit before now : ℕ) (first : List ℕ) (p : P) (old : Option Talk)
    → Serves {E = FailedType} took limit (Ok Unreadable) (Bodies {E = FailedType} BadLength limit before now (Ok Unreadable) first) p p old old
unreadable took limit before now first p old = record {
  poured = [];
  pours = pours_none took p;
  within = omega arith;
  sizes = tt;
  told = bodied BadLength limit before now (Ok Unreadable) first [] [] old old (gave_none old) (λ o n e. inr (record { got = BadAnswer; end = neither; is_got = refl; stops = stops_neither before now n.ended; received = refl }));
}
