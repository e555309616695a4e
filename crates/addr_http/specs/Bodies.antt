-- The body of an answer, of which a first part came with the head.
use Rattle.std.specs.Prelude.{ℕ, ◌≡◌, Bool, List, ◌++◌, Option, Some, Result, Ok, ◌⊎◌}
use Rattle.addr_wire.specs.Talks.{Talk}
use Rattle.addr_http.specs.Collecting.{CollectedOf, EndedBy, Gave}
use Rattle.addr_http.specs.Conversations.{IsGot, Stops}
use Rattle.addr_http.specs.Hearing.{Told}
use Rattle.addr_http.specs.Pours.{Pours}
use Rattle.addr_http.specs.Received.{End, Got, received_body}
use Rattle.addr_http.specs.declared.collecting.Collected.{Collected}
use Rattle.addr_http.specs.declared.headed.Said.{Said}
use Rattle.addr_http.specs.declared.outcome.Outcome.{Outcome}
use Rattle.addr_http.specs.declared.outcome.Outcome.TheVariants.{NoMemory}

-- the first part and what came behind it, until `total` bytes were there; at most `room` of them were poured
pub record Takes {P E : Type 0} (took : P → List ℕ → Type 0) (total room : ℕ) (first : List ℕ) (result : Result Collected E) (p q : P) (old new : Option Talk) : Type 0 where
  pub gave : List ℕ
  pub poured : List ℕ
  pub pours : Pours took p q poured
  pub case : CollectedOf total room result (first ++ gave) poured
  pub told : Told (Gave gave) old new
  pub over : EndedBy result new

-- what was got of the body is what the whole of it decides
pub record Decides {E : Type 0} (said : Said) (limit before now : ℕ) (result : Result Outcome E) (body poured : List ℕ) (over : Bool) : Type 0 where
  pub got : Got
  pub end : End
  pub is_got : IsGot result poured got
  pub stops : Stops before now over end
  pub received : received_body said limit body end ≡ Some got

pub record Bodies {E : Type 0} (said : Said) (limit before now : ℕ) (result : Result Outcome E) (first poured : List ℕ) (old new : Talk) : Type 0 where
  pub gave : List ℕ
  pub gives : Gave gave old new
  pub decided : (result ≡ Ok NoMemory) ⊎ Decides said limit before now result (first ++ gave) poured new.ended
