-- A connection: what it is now, and what a read and a put make of it.
use Rattle.std.specs.Prelude.{ℕ, ◌≡◌, ◌<◌, ◌≤◌, List, [], length, take, drop, Option, Result, Ok, Err, MatchOption, IsNone, IsSomeAnd}
use Rattle.addr_base.specs.Streams.{Appends}
use Rattle.addr_wire.specs.Counts.{Counts}

-- `left` is still to be read, and `written` was put, from the start on, where the connection tells them; `last` is how many
-- bytes the last read brought, 0 where it failed
pub record ConnNow : Type 0 where
  pub left : Option (List ℕ)
  pub last : ℕ
  pub source_faults : ℕ
  pub written : Option (List ℕ)
  pub sink_faults : ℕ

-- how many bytes a read brought
abbrev pub taken : {E : Type 0} → Result ℕ E → ℕ
taken (Ok n) = n
taken (Err e) = 0

-- a prefix of the bytes went to the front of the slice; none only at the end or into no room; and none where the call failed
abbrev pub Takes : {E : Type 0} → List ℕ → Result ℕ E → List ℕ → List ℕ → Type 0
Takes left (Ok n) into new = (n ≤ length left) × (take n into ≡ take n left) × (new ≡ drop n left) × (n ≡ 0 → 0 < length into → left ≡ [])
Takes left (Err e) into new = new ≡ left

-- a read: what was put, and the count of that side, stay
pub record Reads {E : Type 0} (old : ConnNow) (result : Result ℕ E) (into : List ℕ) (new : ConnNow) : Type 0 where
  pub bytes : MatchOption old.left (IsNone new.left) (λ left. IsSomeAnd new.left (Takes left result into))
  pub last : new.last ≡ taken result
  pub cause : Counts old.source_faults result new.source_faults
  pub written : new.written ≡ old.written
  pub sink_faults : new.sink_faults ≡ old.sink_faults

-- a put: what is left to be read, and the count of that side, stay
pub record Puts {T E : Type 0} (old : ConnNow) (result : Result T E) (bytes : List ℕ) (new : ConnNow) : Type 0 where
  pub bytes_are : MatchOption old.written (IsNone new.written) (λ written. IsSomeAnd new.written (Appends written result bytes))
  pub cause : Counts old.sink_faults result new.sink_faults
  pub left : new.left ≡ old.left
  pub last : new.last ≡ old.last
  pub source_faults : new.source_faults ≡ old.source_faults
