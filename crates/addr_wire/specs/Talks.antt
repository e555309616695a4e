-- A connector: what was said since it was last opened, and what its calls make of it.
use Rattle.std.specs.Prelude.{ℕ, ◌≡◌, ◌==◌, ◌&&◌, ◌||◌, nat_lt, Bool, false, List, [], ◌++◌, length, take, Option, Some, Result, Ok, Err, MatchOption, IsNone, IsSomeAnd}
use Rattle.addr_base.specs.Streams.{Appends}
use Rattle.addr_wire.specs.Counts.{Counts}

-- the bytes that the connector was sent and those that it gave, and whether it then ended
pub record Talk : Type 0 where
  pub sent : List ℕ
  pub given : List ℕ
  pub ended : Bool

pub record ConnectNow : Type 0 where
  pub talk : Option Talk
  pub faults : ℕ

-- nothing was said yet
abbrev pub silence : Talk
silence = record { sent = []; given = []; ended = false }

-- `open` begins a new conversation, also where it failed
pub record Opens {T E : Type 0} (old : ConnectNow) (result : Result T E) (new : ConnectNow) : Type 0 where
  pub talk_is : MatchOption old.talk (IsNone new.talk) (λ _. new.talk ≡ Some silence)
  pub cause : Counts old.faults result new.faults

-- the bytes were sent, or a prefix of them; what was given stays
pub record Says {T E : Type 0} (old : Talk) (result : Result T E) (bytes : List ℕ) (new : Talk) : Type 0 where
  pub sent : Appends old.sent result bytes new.sent
  pub given : new.given ≡ old.given
  pub ended : new.ended ≡ old.ended

pub record Sends {T E : Type 0} (old : ConnectNow) (result : Result T E) (bytes : List ℕ) (new : ConnectNow) : Type 0 where
  pub talk_is : MatchOption old.talk (IsNone new.talk) (λ o. IsSomeAnd new.talk (Says o result bytes))
  pub cause : Counts old.faults result new.faults

-- what was given is added; nothing into a slice that isn't empty is the end; a call that failed gives nothing
abbrev pub heard : {E : Type 0} → Talk → Result ℕ E → List ℕ → Talk
heard old (Ok n) into = record { sent = old.sent; given = old.given ++ take n into; ended = old.ended || (n == 0 && nat_lt 0 (length into)) }
heard old (Err e) into = old

pub record Receives {E : Type 0} (old : ConnectNow) (result : Result ℕ E) (into : List ℕ) (new : ConnectNow) : Type 0 where
  pub talk_is : MatchOption old.talk (IsNone new.talk) (λ o. new.talk ≡ Some (heard o result into))
  pub cause : Counts old.faults result new.faults
