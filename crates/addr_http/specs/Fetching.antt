-- What a fetch of an id answers, and what it leaves.
use Rattle.std.specs.Prelude.{ℕ, ◌≡◌, ◌<◌, ◌≤◌, ◌+◌, ◌-◌, ◌^◌, min, List, length, Option, Some, None, Result, Ok, Err}
use Rattle.addr_base.specs.Faults.{Rose, one_more}
use Rattle.addr_base.specs.declared.memory.Failed.{Failed}
use Rattle.addr_wire.specs.Talks.{ConnectNow}
use Rattle.addr_http.specs.Conversations.{Asks}
use Rattle.addr_http.specs.Hearing.{Told}
use Rattle.addr_http.specs.Pours.{Pours}
use Rattle.addr_http.specs.Targets.{Address, request_text}
use Rattle.addr_http.specs.declared.http_fetch.HttpFetch.{HttpFetch}
use Rattle.addr_http.specs.declared.outcome.Outcome.{Outcome}
use Rattle.addr_http.specs.declared.outcome.Outcome.TheVariants.{Whole as Got, Missing as NotThere, Refused as OtherStatus, TooLong as Longer, Unreadable, NoMemory as NoRoom}
use Rattle.addr_fetch.specs.declared.fetch.Poured.{Poured}
use Rattle.addr_fetch.specs.declared.fetch.Poured.TheVariants.{Whole, Missing, Refused, TooLong, Fault, NoMemory}

-- a fetcher: its connector, and how often what came was no answer that can be read
pub record HttpNow : Type 0 where
  pub conn : ConnectNow
  pub own : ℕ

abbrev pub http_now : {C : Type 0} → (C → ConnectNow) → HttpFetch C → HttpNow
http_now now fetch = record { conn = now fetch.conn; own = fetch.own }

-- a sum of counts stops at the end of a u64
abbrev pub sum_of : ℕ → ℕ → ℕ
sum_of a b = min (a + b) (2 ^ 64 - 1)

-- a fetcher's count of faults
abbrev pub http_count : HttpNow → ℕ
http_count fetch = sum_of fetch.conn.faults fetch.own

abbrev pub IsFault : Poured → Type 0
IsFault answer = (n : ℕ) × (answer ≡ Fault n)

-- the answer by how the conversation ended; the own count rises where what came isn't readable, and only there
abbrev pub AnsweredBy : {E : Type 0} → Result Outcome E → Poured → ℕ → ℕ → Type 0
AnsweredBy (Ok (Got n)) answer own now = (answer ≡ Whole n) × (now ≡ own)
AnsweredBy (Ok NotThere) answer own now = (answer ≡ Missing) × (now ≡ own)
AnsweredBy (Ok (OtherStatus code)) answer own now = (answer ≡ Refused code) × (now ≡ own)
AnsweredBy (Ok (Longer n)) answer own now = (answer ≡ TooLong n) × (now ≡ own)
AnsweredBy (Ok Unreadable) answer own now = IsFault answer × (now ≡ one_more own)
AnsweredBy (Ok NoRoom) answer own now = (answer ≡ NoMemory) × (now ≡ own)
AnsweredBy (Err e) answer own now = IsFault answer × (now ≡ own)

-- an id of another form is missing, and nothing is asked; else one request was sent to where it leads
abbrev pub AnswersAt : ℕ → Option Address → Poured → List ℕ → HttpNow → HttpNow → Type 0
AnswersAt limit None answer poured old new = (answer ≡ Missing) × (new ≡ old)
AnswersAt limit (Some address) answer poured old new =
    (result : Result Outcome Failed) × AnsweredBy result answer old.own new.own
    × Told (Asks limit old.conn.faults new.conn.faults (request_text address) result poured) old.conn.talk new.conn.talk

-- a file is as long as what was poured; one that is too long is longer than the limit
abbrev pub SizesOf : ℕ → Poured → List ℕ → Type 0
SizesOf limit (Whole n) poured = n ≡ length poured
SizesOf limit Missing poured = Unit {0}
SizesOf limit (Refused code) poured = Unit {0}
SizesOf limit (TooLong n) poured = limit < n
SizesOf limit (Fault n) poured = Unit {0}
SizesOf limit NoMemory poured = Unit {0}

-- what a fetch answers, with the bytes that went to the pourer, at most `limit` of them
pub record Fetches {P : Type 0} (took : P → List ℕ → Type 0) (limit : ℕ) (there : Option Address) (answer : Poured) (p q : P) (old new : HttpNow) : Type 0 where
  pub poured : List ℕ
  pub pours : Pours took p q poured
  pub within : length poured ≤ limit
  pub sizes : SizesOf limit answer poured
  pub answers : AnswersAt limit there answer poured old new

-- with a fault the count rose, and the answer says it; with any other answer the count stays
abbrev pub CountsBy : Poured → ℕ → ℕ → Type 0
CountsBy (Whole n) before now = now ≡ before
CountsBy Missing before now = now ≡ before
CountsBy (Refused code) before now = now ≡ before
CountsBy (TooLong n) before now = now ≡ before
CountsBy (Fault n) before now = (n ≡ now) × Rose before now
CountsBy NoMemory before now = now ≡ before

abbrev pub IfFault : Poured → (ℕ → Type 0) → Type 0
IfFault (Whole n) P = Unit {0}
IfFault Missing P = Unit {0}
IfFault (Refused code) P = Unit {0}
IfFault (TooLong n) P = Unit {0}
IfFault (Fault n) P = P n
IfFault NoMemory P = Unit {0}
