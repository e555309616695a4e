-- The front of an answer, as it is received into a buffer.
use Rattle.std.specs.Prelude.{ℕ, ◌≡◌, ◌≤◌, ◌+◌, ◌==◌, ◌||◌, true, false, List, ◌++◌, length, take, Result, Ok, Err}
use Rattle.addr_wire.specs.Talks.{Talk}
use Rattle.httparse.specs.Grammar.{ResponseHead, print_response}
use Rattle.addr_http.specs.Answers.{IsAnswer, headed_of}
use Rattle.addr_http.specs.Heads.{room}
use Rattle.addr_http.specs.Received.{End, HasNoAnswer, NeverAnswers}
use Rattle.addr_http.specs.Received.End.{ended, failed}
use Rattle.addr_http.specs.declared.receiving.Front.{Front}
use Rattle.addr_http.specs.declared.receiving.Front.TheVariants.{Whole, Unreadable as BadFront}

-- a receive into a buffer from a place on
abbrev pub HearsAt : {E : Type 0} → ℕ → Result ℕ E → List ℕ → List ℕ → Talk → Talk → Type 0
HearsAt at (Ok n) buffer after old new =
    (gave : List ℕ) × (take (at + n) after ≡ take at buffer ++ gave) × (length gave ≡ n) × (new.given ≡ old.given ++ gave)
    × (new.sent ≡ old.sent) × (new.ended ≡ (old.ended || n == 0))
HearsAt at (Err e) buffer after old new = new ≡ old

-- a front of an answer was received: the bytes are at the buffer's front
abbrev pub HasFront : Talk → List ℕ → Front → Type 0
HasFront talk buffer (Whole headed len at) =
    (h : ResponseHead) × (rest : List ℕ) × IsAnswer (take room talk.given) h rest × (headed ≡ headed_of h)
    × (len ≡ length (print_response h)) × (len ≤ at) × (talk.given ≡ take at buffer) × (at ≤ length buffer) × (talk.ended ≡ false)
HasFront talk buffer BadFront =
    (end : End) × HasNoAnswer talk.given × NeverAnswers talk.given end × (end ≡ ended → talk.ended ≡ true) × (end ≡ failed → ⊥)

-- what was received up to the end of a head; where it failed there, no head had come
abbrev pub Fronts : {E : Type 0} → List ℕ → Result Front E → List ℕ → Talk → Type 0
Fronts sent (Ok front) buffer talk = (talk.sent ≡ sent) × HasFront talk buffer front
Fronts sent (Err e) buffer talk = (talk.sent ≡ sent) × HasNoAnswer talk.given

-- the head and what came with it lie in the buffer
abbrev pub IsIn : List ℕ → Front → Type 0
IsIn buffer (Whole headed len at) = (len ≤ at) × (at ≤ length buffer)
IsIn buffer BadFront = Unit {0}
