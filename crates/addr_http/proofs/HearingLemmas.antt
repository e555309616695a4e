-- A head that is read in pieces is the head that all the bytes begin with.
use Rattle.std.proofs.Common.{◌≡◌, ◌<◌, ◌≤◌, ◌+◌, ◌-◌, ℕ, List, [], ◌++◌, Option, Some, None, Result, Ok, Err, IfOk, IfSome, IsSomeAnd, IsNone, MatchOption, refl, sym, ◌∙◌, ap, arith, length, take, drop, take-take, drop-drop, nat_le, true, false}
use Rattle.std.proofs.Math.Seq.{take-append-add, take-add}
use Rattle.std.proofs.lemmas.List.{length-take-le, length-drop, take_all}
use Rattle.addr_base.specs.declared.memory.Failed.{Failed}
use Rattle.addr_wire.specs.Connections.{Takes}
use Rattle.std.proofs.lemmas.Bool.Decides.{nat_tests}
use Rattle.addr_http.specs.declared.heads.Heard.TheVariants.{Head, TooLong, Cut}
use Rattle.addr_http.proofs.HeadLemmas.{head_len-more, head_len-fewer}
use Rattle.addr_http.specs.Heads.{head_len, heard_of, room}
use Rattle.addr_http.specs.Hearing.{HasHeard, ReadsNoMore, TakesAt, Told}

pub take_seam : (front into : List ℕ) (at n : ℕ) → length front ≡ at → take (at + n) (front ++ into) ≡ front ++ take n into
take_seam front into at n e = ap (λ (k : ℕ). take (k + n) (front ++ into)) (sym e) ∙ take-append-add front into n

abbrev pub Fits : Result ℕ Failed → List ℕ → Type 0
Fits r into = IfOk r (λ n. n ≤ length into)

takes_one : (at : ℕ) (left new old into buffer : List ℕ) (r : Result ℕ Failed) → at < length old → length into ≡ length old - at → Fits r into → take (at + length into) buffer ≡ take at old ++ into
    → Takes left r into new → TakesAt at r old buffer left new
takes_one at left new old into buffer (Ok n) h l f e t =
    let short : at + n ≤ at + length into = omega (arith, f) in (
      t.0,
      sym (take-take (at + n) (at + length into) buffer short) ∙ ap (λ (b : List ℕ). take (at + n) b) e ∙ take_seam (take at old) into at n (length-take-le at old (omega (arith, h))) ∙ ap (λ (b : List ℕ). take at old ++ b) t.1,
      t.2,
      λ z. t.3 z (omega (arith, l, h)),
    )
takes_one at left new old into buffer (Err x) h l f e t = t

pub takes_at : (at : ℕ) (left new : Option (List ℕ)) (old into buffer : List ℕ) (r : Result ℕ Failed) → at < length old → length into ≡ length old - at → Fits r into → take (at + length into) buffer ≡ take at old ++ into
    → MatchOption left (IsNone new) (λ o. IsSomeAnd new (Takes o r into))
    → Told (TakesAt at r old buffer) left new
takes_at at None new old into buffer r h l f e t = tt
takes_at at (Some o) None old into buffer r h l f e t = t
takes_at at (Some o) (Some n) old into buffer r h l f e t = takes_one at o n old into buffer r h l f e t

-- so many bytes were read, they stand at the buffer's front, and no head ends in them
pub record Reads (left : List ℕ) (new : List ℕ) (at : ℕ) (buffer : List ℕ) : Type 0 where
  pub within : at ≤ length left
  pub new_is : new ≡ drop at left
  pub same : take at buffer ≡ take at left
  pub none : head_len (take at left) ≡ None

pub reads_first : (left buffer : List ℕ) → Reads left left 0 buffer
unfolding head_len
reads_first left buffer = record { within = omega arith; new_is = refl; same = refl; none = refl }

-- what one more read gives
pub record Read (left mid new : List ℕ) (at n : ℕ) (buffer : List ℕ) : Type 0 where
  pub within : at + n ≤ length left
  pub new_is : new ≡ drop (at + n) left
  pub same : take (at + n) buffer ≡ take (at + n) left
  pub before : head_len (take at left) ≡ None

pub reads_one : (left mid new old buffer : List ℕ) (at n : ℕ) → Reads left mid at old → TakesAt {E = Failed} at (Ok n) old buffer mid new → Read left mid new at n buffer
reads_one left mid new old buffer at n r t =
    let len : length mid ≡ length left - at = ap (λ (b : List ℕ). length b) r.new_is ∙ length-drop at left in
    record {
      within = omega (arith, t.0, len, r.within);
      new_is = t.2 ∙ ap (λ (b : List ℕ). drop n b) r.new_is ∙ drop-drop n at left;
      same = t.1 ∙ ap (λ (b : List ℕ). b ++ take n mid) r.same ∙ ap (λ (b : List ℕ). take at left ++ take n b) r.new_is ∙ sym (take-add at n left);
      before = r.none;
    }

-- the bytes up to the room are those that were read and more
more_of : (at cap : ℕ) (left : List ℕ) → at ≤ cap → take cap left ≡ take at left ++ take (cap - at) (drop at left)
more_of at cap left h =
    let e : cap ≡ at + (cap - at) = omega (arith, h) in
    ap (λ (k : ℕ). take k left) e ∙ take-add at (cap - at) left

found_in : (at cap end : ℕ) (left : List ℕ) → at ≤ cap → head_len (take at left) ≡ Some end → head_len (take cap left) ≡ Some end
found_in at cap end left h e =
    ap (λ (b : List ℕ). head_len b) (more_of at cap left h) ∙ head_len-more (take at left) (take (cap - at) (drop at left)) end e

none_before : (at cap : ℕ) (left : List ℕ) → at ≤ cap → head_len (take cap left) ≡ None → head_len (take at left) ≡ None
none_before at cap left h e =
    head_len-fewer (take at left) (take (cap - at) (drop at left)) (sym (ap (λ (b : List ℕ). head_len b) (more_of at cap left h)) ∙ e)

pub heard_head : (left mid new buffer : List ℕ) (at n end : ℕ) → Read left mid new at n buffer → Some end ≡ head_len (take (at + n) buffer) → end ≤ at + n → at + n ≤ room → length buffer ≡ room → HasHeard left buffer (Head end)
heard_head left mid new buffer at n end r e short fits len =
    let there : head_len (take (at + n) left) ≡ Some end = sym (e ∙ ap (λ (b : List ℕ). head_len b) r.same) in (
      ap (λ o. heard_of o left) (found_in (at + n) room end left fits there),
      sym (take-take end (at + n) buffer short) ∙ ap (λ (b : List ℕ). take end b) r.same ∙ take-take end (at + n) left short,
      omega (arith, short, fits, len),
    )

pub reads_more : (left mid new buffer : List ℕ) (at n : ℕ) → Read left mid new at n buffer → None ≡ head_len (take (at + n) buffer) → Reads left new (at + n) buffer
reads_more left mid new buffer at n r e = record { within = r.within; new_is = r.new_is; same = r.same; none = sym (e ∙ ap (λ (b : List ℕ). head_len b) r.same) }

heard_none : (left : List ℕ) (o : Option ℕ) → o ≡ None → length left < room → heard_of o left ≡ Cut
heard_none left o e h = let f : nat_le room (length left) ≡ false = grind (arith, nat_tests, h) in rw (e, f) refl

heard_long : (left : List ℕ) (o : Option ℕ) → o ≡ None → room ≤ length left → heard_of o left ≡ TooLong
heard_long left o e h = let f : nat_le room (length left) ≡ true = grind (arith, nat_tests, h) in rw (e, f) refl

pub heard_cut : (left mid new old buffer : List ℕ) (at n : ℕ) → Reads left mid at old → TakesAt {E = Failed} at (Ok n) old buffer mid new → n ≡ 0 → at < room → HasHeard left buffer Cut
heard_cut left mid new old buffer at n r t z h =
    let end : mid ≡ [] = t.3 z in
    let len : length left - at ≡ 0 = sym (length-drop at left) ∙ ap (λ (b : List ℕ). length b) (sym r.new_is ∙ end) in
    let all : take room left ≡ left = take_all room left (omega (arith, len, h)) in
    let same : take at left ≡ left = take_all at left (omega (arith, len)) in
    heard_none left (head_len (take room left)) (ap (λ (b : List ℕ). head_len b) (all ∙ sym same) ∙ r.none) (omega (arith, len, h))

pub heard_whole : (left new buffer : List ℕ) (at : ℕ) → Reads left new at buffer → room ≤ at → at ≤ room → HasHeard left buffer TooLong
heard_whole left new buffer at r h k =
    let e : room ≡ at = omega (arith, h, k) in
    heard_long left (head_len (take room left)) (ap (λ (m : ℕ). head_len (take m left)) e ∙ r.none) (omega (arith, r.within, h))

-- what was read is no more than was needed
pub no_more_read : (left mid new buffer : List ℕ) (at n last : ℕ) → Read left mid new at n buffer → last ≡ n → ReadsNoMore last left new
no_more_read left mid new buffer at n last r e =
    let back : at + n - last ≡ at = omega (arith, e) in
    record { count = at + n; front = r.new_is; fits = omega (arith, e); needed = ap (λ (m : ℕ). head_len (take m left)) back ∙ r.before }

pub no_more_whole : (left new buffer : List ℕ) (at last : ℕ) → Reads left new at buffer → last ≤ at → ReadsNoMore last left new
no_more_whole left new buffer at last r h =
    record { count = at; front = r.new_is; fits = h; needed = none_before (at - last) at left (omega arith) r.none }

-- the same where the source may tell nothing
pub through : {P Q S : List ℕ → List ℕ → Type 0} (left mid new : Option (List ℕ)) → IfSome left (λ l. IsSomeAnd mid (P l)) → IfSome mid (λ m. IsSomeAnd new (Q m))
    → ((l m n : List ℕ) → P l m → Q m n → S l n) → IfSome left (λ l. IsSomeAnd new (S l))
through None mid new p q step = tt
through (Some l) None new p q step = absurd p
through (Some l) (Some m) None p q step = absurd q
through (Some l) (Some m) (Some n) p q step = step l m n p q

pub alone : {P : List ℕ → List ℕ → Type 0} {U : List ℕ → Type 0} (left new : Option (List ℕ)) → IfSome left (λ l. IsSomeAnd new (P l)) → ((l n : List ℕ) → P l n → U l) → IfSome left U
alone None new p step = tt
alone (Some l) None p step = absurd p
alone (Some l) (Some n) p step = step l n p

pub told_first : (left : Option (List ℕ)) (buffer : List ℕ) → Told (λ l n. Reads l n 0 buffer) left left
told_first None buffer = tt
told_first (Some l) buffer = reads_first l buffer

pub told_read : (left mid new : Option (List ℕ)) (old buffer : List ℕ) (at n : ℕ) → Told (λ l m. Reads l m at old) left mid → Told (TakesAt {E = Failed} at (Ok n) old buffer) mid new
    → Told (λ l x. (m : List ℕ) × Read l m x at n buffer) left new
told_read left mid new old buffer at n p q = through {P = λ l m. Reads l m at old} {Q = TakesAt {E = Failed} at (Ok n) old buffer} {S = λ l x. (m : List ℕ) × Read l m x at n buffer} left mid new p q (λ l m x r t. (m, reads_one l m x old buffer at n r t))

pub told_cut : (left mid new : Option (List ℕ)) (old buffer : List ℕ) (at n : ℕ) → Told (λ l m. Reads l m at old) left mid → Told (TakesAt {E = Failed} at (Ok n) old buffer) mid new → n ≡ 0 → at < room
    → IfSome left (λ l. HasHeard l buffer Cut)
told_cut left mid new old buffer at n p q z h =
    alone {P = λ l x. HasHeard l buffer Cut} {U = λ l. HasHeard l buffer Cut} left new
    (through {P = λ l m. Reads l m at old} {Q = TakesAt {E = Failed} at (Ok n) old buffer} {S = λ l x. HasHeard l buffer Cut} left mid new p q (λ l m x r t. heard_cut l m x old buffer at n r t z h))
    (λ l x r. r)

pub told_head : (left mid new : Option (List ℕ)) (old buffer : List ℕ) (at n end : ℕ) → Told (λ l m. Reads l m at old) left mid → Told (TakesAt {E = Failed} at (Ok n) old buffer) mid new
    → Some end ≡ head_len (take (at + n) buffer) → end ≤ at + n → at + n ≤ room → length buffer ≡ room → IfSome left (λ l. HasHeard l buffer (Head end))
told_head left mid new old buffer at n end p q e short fits len =
    alone {P = λ l x. (m : List ℕ) × Read l m x at n buffer} {U = λ l. HasHeard l buffer (Head end)} left new (told_read left mid new old buffer at n p q) (λ l x r. heard_head l r.0 x buffer at n end r.1 e short fits len)

pub told_more : (left mid new : Option (List ℕ)) (old buffer : List ℕ) (at n : ℕ) → Told (λ l m. Reads l m at old) left mid → Told (TakesAt {E = Failed} at (Ok n) old buffer) mid new
    → None ≡ head_len (take (at + n) buffer) → Told (λ l x. Reads l x (at + n) buffer) left new
told_more left mid new old buffer at n p q e =
    through {P = λ l m. Reads l m at old} {Q = TakesAt {E = Failed} at (Ok n) old buffer} {S = λ l x. Reads l x (at + n) buffer} left mid new p q (λ l m x r t. reads_more l m x buffer at n (reads_one l m x old buffer at n r t) e)

pub told_whole : (left new : Option (List ℕ)) (buffer : List ℕ) (at : ℕ) → Told (λ l m. Reads l m at buffer) left new → room ≤ at → at ≤ room → IfSome left (λ l. HasHeard l buffer TooLong)
told_whole left new buffer at p h k = alone {P = λ l m. Reads l m at buffer} {U = λ l. HasHeard l buffer TooLong} left new p (λ l x r. heard_whole l x buffer at r h k)

pub told_no_more : (left mid new : Option (List ℕ)) (old buffer : List ℕ) (at n last : ℕ) → Told (λ l m. Reads l m at old) left mid → Told (TakesAt {E = Failed} at (Ok n) old buffer) mid new → last ≡ n
    → Told (ReadsNoMore last) left new
told_no_more left mid new old buffer at n last p q e =
    through {P = λ l m. Reads l m at old} {Q = TakesAt {E = Failed} at (Ok n) old buffer} {S = ReadsNoMore last} left mid new p q (λ l m x r t. no_more_read l m x buffer at n last (reads_one l m x old buffer at n r t) e)

pub told_no_more_whole : (left new : Option (List ℕ)) (buffer : List ℕ) (at last : ℕ) → Told (λ l m. Reads l m at buffer) left new → last ≤ at → Told (ReadsNoMore last) left new
told_no_more_whole None new buffer at last p h = tt
told_no_more_whole (Some l) None buffer at last p h = p
told_no_more_whole (Some l) (Some x) buffer at last p h = no_more_whole l x buffer at last p h
