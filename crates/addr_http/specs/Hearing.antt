-- What is read of a request, in pieces.
use Rattle.std.specs.Prelude.{ℕ, ◌≡◌, ◌≤◌, ◌+◌, ◌-◌, List, [], ◌++◌, length, take, drop, Option, None, Result, Ok, Err, IfSome, IsSomeAnd, ◌⊎◌}
use Rattle.addr_wire.specs.Connections.{ConnNow}
use Rattle.addr_http.specs.Heads.{head_len, heard}
use Rattle.addr_http.specs.declared.heads.Heard.{Heard}
use Rattle.addr_http.specs.declared.heads.Heard.TheVariants.{Head, TooLong, Cut}

-- a fact of what is told before and after, where it is told
abbrev pub Told : {T : Type 0} → (T → T → Type 0) → Option T → Option T → Type 0
Told P old new = IfSome old (λ o. IsSomeAnd new (P o))

-- a read into a buffer from a place on
abbrev pub TakesAt : {E : Type 0} → ℕ → Result ℕ E → List ℕ → List ℕ → List ℕ → List ℕ → Type 0
TakesAt at (Ok n) old buffer left new =
    (n ≤ length left) × (take (at + n) buffer ≡ take at old ++ take n left) × (new ≡ drop n left) × (n ≡ 0 → left ≡ [])
TakesAt at (Err e) old buffer left new = new ≡ left

-- what was heard is what is read of all the bytes, and a head stands at the buffer's front
abbrev pub HasHeard : List ℕ → List ℕ → Heard → Type 0
HasHeard left buffer (Head n) = (heard left ≡ Head n) × (take n buffer ≡ take n left) × (n ≤ length buffer)
HasHeard left buffer TooLong = heard left ≡ TooLong
HasHeard left buffer Cut = heard left ≡ Cut

-- only a front of the bytes was read, and before the last read, which brought `last` of them, no head's end was in it
pub record ReadsNoMore (last : ℕ) (left new : List ℕ) : Type 0 where
  pub count : ℕ
  pub front : new ≡ drop count left
  pub fits : last ≤ count
  pub needed : head_len (take (count - last) left) ≡ None

-- nothing was read, or no more than was needed
abbrev pub ReadsEnough : ℕ → List ℕ → List ℕ → Type 0
ReadsEnough last left new = (new ≡ left) ⊎ ReadsNoMore last left new

-- reading left what was put, and its count
pub record KeepsSink (old new : ConnNow) : Type 0 where
  pub written : new.written ≡ old.written
  pub sink_faults : new.sink_faults ≡ old.sink_faults

-- putting left what is to be read, how much the last read brought, and the count of that side
pub record KeepsSource (old new : ConnNow) : Type 0 where
  pub left : new.left ≡ old.left
  pub last : new.last ≡ old.last
  pub source_faults : new.source_faults ≡ old.source_faults

-- a head that was heard stands in the buffer
abbrev pub IsInside : List ℕ → Heard → Type 0
IsInside buffer (Head n) = n ≤ length buffer
IsInside buffer TooLong = Unit {0}
IsInside buffer Cut = Unit {0}
