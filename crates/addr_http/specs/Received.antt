-- What the bytes of a server mean to a fetch.
use Rattle.std.specs.Prelude.{ℕ, ◌≡◌, ◌+◌, nat_lt, nat_le, if◌then◌else◌, List, [], ◌++◌, length, take, drop, Option, Some, None, ◌⊎◌}
use Rattle.httparse.specs.Grammar.{ResponseHead, print_response}
use Rattle.addr_http.specs.Heads.{room}
use Rattle.addr_http.specs.Answers.{IsAnswer, headed_of}
use Rattle.addr_http.specs.declared.headed.Said.{Said}
use Rattle.addr_http.specs.declared.headed.Said.TheVariants.{Unreadable, Open, Sized}
use Rattle.addr_http.specs.declared.headed.Headed.{Headed}
use Rattle.addr_http.specs.declared.headed.Headed.TheVariants.{Unreadable as BadHead, Missing as HeadMissing, Refused as HeadRefused, Body}

-- what is got: a file, or why there is none. `Fault`: the connector failed; `BadAnswer`: what came can't be read
pub data Got : Type 0 where
  Given : List ℕ → Got
  Missing : Got
  Refused : ℕ → Got
  TooLong : ℕ → Got
  Fault : Got
  BadAnswer : Got

-- how the bytes stopped: the connector ended, or failed, or neither
pub data End : Type 0 where
  ended failed neither : End

-- a body that is shorter than it says
abbrev pub short : End → Option Got
short ended = Some BadAnswer
short failed = Some Fault
short neither = None

-- a body that doesn't say how long it is
abbrev pub open_end : List ℕ → End → Option Got
open_end body ended = Some (Given body)
open_end body failed = Some Fault
open_end body neither = None

-- what a body decides, by what its head says of its length
abbrev pub received_body : Said → ℕ → List ℕ → End → Option Got
received_body (Sized n) limit body end =
    if nat_lt limit n then Some (TooLong n) else (if nat_le n (length body) then Some (Given (take n body)) else short end)
received_body Open limit body end = if nat_lt limit (length body) then Some (TooLong (limit + 1)) else open_end body end
received_body Unreadable limit body end = Some BadAnswer

-- what a head and the bytes behind it decide
abbrev pub received_head : Headed → ℕ → List ℕ → End → Option Got
received_head BadHead limit body end = Some BadAnswer
received_head HeadMissing limit body end = Some Missing
received_head (HeadRefused code) limit body end = Some (Refused code)
received_head (Body said) limit body end = received_body said limit body end

-- no head is in the room of these bytes
abbrev pub HasNoAnswer : List ℕ → Type 0
HasNoAnswer bytes = (h : ResponseHead) (rest : List ℕ) → IsAnswer (take room bytes) h rest → ⊥

-- whatever may follow, no head will be in the room; behind the end nothing follows
abbrev pub NeverAnswers : List ℕ → End → Type 0
NeverAnswers bytes end = (more : List ℕ) → (end ≡ ended → more ≡ []) → HasNoAnswer (bytes ++ more)

-- what a head at the front decides with what stands behind it
abbrev pub ReceivedWhole : ℕ → List ℕ → End → Got → Type 0
ReceivedWhole limit bytes end got =
    (h : ResponseHead) × (rest : List ℕ) × IsAnswer (take room bytes) h rest
    × (received_head (headed_of h) limit (drop (length (print_response h)) bytes) end ≡ Some got)

-- the answer to what the connector gave
abbrev pub Received : ℕ → List ℕ → End → Got → Type 0
Received limit bytes end got =
    ReceivedWhole limit bytes end got
    ⊎ ((HasNoAnswer bytes × (end ≡ failed) × (got ≡ Fault)) ⊎ (HasNoAnswer bytes × NeverAnswers bytes end × (got ≡ BadAnswer)))

-- to the caller both faults are one
abbrev pub told_got : Got → Got
told_got (Given bytes) = Given bytes
told_got Missing = Missing
told_got (Refused code) = Refused code
told_got (TooLong n) = TooLong n
told_got Fault = Fault
told_got BadAnswer = Fault
