-- A conversation with a server: the request that was sent, what was received, and what was poured of it.
use Rattle.std.specs.Prelude.{ℕ, ◌≡◌, ◌<◌, ◌≤◌, Bool, true, false, List, [], length, take, Option, Result, Ok, Err, IsErr, ◌⊎◌}
use Rattle.addr_base.specs.Faults.{Rose}
use Rattle.addr_wire.specs.Talks.{Talk}
use Rattle.addr_http.specs.Hearing.{Told}
use Rattle.addr_http.specs.Pours.{Pours}
use Rattle.addr_http.specs.Received.{End, Got, Received}
use Rattle.addr_http.specs.Received.End.{ended, failed}
use Rattle.addr_http.specs.Received.Got.{Given, Missing as NoFile, Refused as OtherStatus, TooLong as Longer, Fault, BadAnswer}
use Rattle.addr_http.specs.declared.outcome.Outcome.{Outcome}
use Rattle.addr_http.specs.declared.outcome.Outcome.TheVariants.{Whole, Missing, Refused, TooLong, Unreadable, NoMemory}

-- what was got, by how the conversation ended and what was poured; want of memory gets nothing
abbrev pub IsGot : {E : Type 0} → Result Outcome E → List ℕ → Got → Type 0
IsGot (Ok (Whole n)) poured got = (got ≡ Given poured) × (n ≡ length poured)
IsGot (Ok Missing) poured got = got ≡ NoFile
IsGot (Ok (Refused code)) poured got = got ≡ OtherStatus code
IsGot (Ok (TooLong n)) poured got = got ≡ Longer n
IsGot (Ok Unreadable) poured got = got ≡ BadAnswer
IsGot (Ok NoMemory) poured got = ⊥
IsGot (Err e) poured got = got ≡ Fault

-- how the bytes stopped: the connector ended, or failed so that its count rose, or neither
pub record Stops (before now : ℕ) (over : Bool) (end : End) : Type 0 where
  pub is_ended : end ≡ ended → over ≡ true
  pub is_failed : end ≡ failed → Rose before now

-- what was got is the answer to what the connector gave
pub record Settles {E : Type 0} (limit before now : ℕ) (result : Result Outcome E) (poured : List ℕ) (talk : Talk) : Type 0 where
  pub got : Got
  pub end : End
  pub is_got : IsGot result poured got
  pub stops : Stops before now talk.ended end
  pub received : Received limit talk.given end got

-- all was sent, and unless memory was refused what was got is the answer
abbrev pub Gets : {E : Type 0} → ℕ → ℕ → ℕ → Result Outcome E → List ℕ → List ℕ → Talk → Type 0
Gets limit before now result sent poured talk =
    (talk.sent ≡ sent) × ((result ≡ Ok NoMemory) ⊎ Settles limit before now result poured talk)

-- the same behind a conversation in which nothing came yet
abbrev pub IsSilent : Talk → Type 0
IsSilent talk = (talk.given ≡ []) × (talk.ended ≡ false)

abbrev pub GetsFrom : {E : Type 0} → ℕ → ℕ → ℕ → Result Outcome E → List ℕ → Talk → Talk → Type 0
GetsFrom limit before now result poured old new = IsSilent old → Gets limit before now result old.sent poured new

-- the connector failed before the request was whole: a front of it was sent, and nothing came
pub record IsCut {E : Type 0} (request : List ℕ) (result : Result Outcome E) (talk : Talk) : Type 0 where
  pub failed : IsErr result
  pub count : ℕ
  pub sent : talk.sent ≡ take count request
  pub given : talk.given ≡ []

-- the request was sent, or a front of it
abbrev pub Asked : {E : Type 0} → ℕ → ℕ → ℕ → List ℕ → Result Outcome E → List ℕ → Talk → Talk → Type 0
Asked limit before now request result poured old talk = Gets limit before now result request poured talk ⊎ IsCut request result talk

-- the same, where memory may be refused before the connector is called
abbrev pub Asks : {E : Type 0} → ℕ → ℕ → ℕ → List ℕ → Result Outcome E → List ℕ → Talk → Talk → Type 0
Asks limit before now request result poured old talk =
    ((result ≡ Ok NoMemory) × (talk ≡ old)) ⊎ Asked limit before now request result poured old talk

-- a file is as long as what was poured; one that is too long is longer than the limit
abbrev pub Sizes : {E : Type 0} → ℕ → Result Outcome E → List ℕ → Type 0
Sizes limit (Ok (Whole n)) poured = n ≡ length poured
Sizes limit (Ok Missing) poured = Unit {0}
Sizes limit (Ok (Refused code)) poured = Unit {0}
Sizes limit (Ok (TooLong n)) poured = limit < n
Sizes limit (Ok Unreadable) poured = Unit {0}
Sizes limit (Ok NoMemory) poured = Unit {0}
Sizes limit (Err e) poured = Unit {0}

-- a call that pours: at most `limit` bytes went to the pourer, and of these and of what was said the relation holds
pub record Serves {P E : Type 0} (took : P → List ℕ → Type 0) (limit : ℕ) (result : Result Outcome E) (R : List ℕ → Talk → Talk → Type 0) (old new : P) (before after : Option Talk) : Type 0 where
  pub poured : List ℕ
  pub pours : Pours took old new poured
  pub within : length poured ≤ limit
  pub sizes : Sizes limit result poured
  pub told : Told (R poured) before after
