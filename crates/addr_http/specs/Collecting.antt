-- A body is received in pieces, each poured as it comes.
use Rattle.std.specs.Prelude.{ℕ, ◌≡◌, ◌<◌, ◌≤◌, ◌-◌, true, List, [], ◌++◌, length, take, Option, Result, Ok, Err}
use Rattle.addr_wire.specs.Talks.{Talk}
use Rattle.addr_http.specs.Hearing.{Told}
use Rattle.addr_http.specs.Pours.{Pours}
use Rattle.addr_http.specs.declared.collecting.Piece.{Piece}
use Rattle.addr_http.specs.declared.collecting.Piece.TheVariants.{Came, Over, Refused}
use Rattle.addr_http.specs.declared.collecting.Collected.{Collected}
use Rattle.addr_http.specs.declared.collecting.Collected.TheVariants.{Enough, Ended, NoMemory}

-- these bytes more were given, and nothing was sent
pub record Gave (bytes : List ℕ) (old new : Talk) : Type 0 where
  pub given : new.given ≡ old.given ++ bytes
  pub sent : new.sent ≡ old.sent

-- one piece: it came, and at most `room` bytes of it were poured; the connector ended, or failed; or the pourer was refused
-- memory
abbrev pub PieceOf : {E : Type 0} → ℕ → Result Piece E → List ℕ → List ℕ → Type 0
PieceOf room (Ok (Came n)) gave poured = (length gave ≡ n) × (0 < n) × (poured ≡ take room gave)
PieceOf room (Ok Over) gave poured = (gave ≡ []) × (poured ≡ [])
PieceOf room (Ok Refused) gave poured = poured ≡ []
PieceOf room (Err e) gave poured = (gave ≡ []) × (poured ≡ [])

abbrev pub IsOver : Option Talk → Type 0
IsOver talk = Told (λ _ now. now.ended ≡ true) talk talk

abbrev pub OverBy : {E : Type 0} → Result Piece E → Option Talk → Type 0
OverBy (Ok (Came n)) talk = Unit {0}
OverBy (Ok Over) talk = IsOver talk
OverBy (Ok Refused) talk = Unit {0}
OverBy (Err e) talk = Unit {0}

pub record Receives {P E : Type 0} (took : P → List ℕ → Type 0) (room : ℕ) (result : Result Piece E) (p q : P) (old new : Option Talk) : Type 0 where
  pub gave : List ℕ
  pub poured : List ℕ
  pub pours : Pours took p q poured
  pub case : PieceOf room result gave poured
  pub told : Told (Gave gave) old new
  pub over : OverBy result new

-- pieces until `left` bytes came, of which at most `room` were poured; `Ended` says how many are missing
abbrev pub CollectedOf : {E : Type 0} → ℕ → ℕ → Result Collected E → List ℕ → List ℕ → Type 0
CollectedOf left room (Ok Enough) gave poured = (left ≤ length gave) × (poured ≡ take room gave)
CollectedOf left room (Ok (Ended missing)) gave poured = (missing ≡ left - length gave) × (0 < missing) × (poured ≡ take room gave)
CollectedOf left room (Ok NoMemory) gave poured = length poured ≤ room
CollectedOf left room (Err e) gave poured = (length gave < left) × (poured ≡ take room gave)

abbrev pub EndedBy : {E : Type 0} → Result Collected E → Option Talk → Type 0
EndedBy (Ok Enough) talk = Unit {0}
EndedBy (Ok (Ended missing)) talk = IsOver talk
EndedBy (Ok NoMemory) talk = Unit {0}
EndedBy (Err e) talk = Unit {0}

pub record Collects {P E : Type 0} (took : P → List ℕ → Type 0) (left room : ℕ) (result : Result Collected E) (p q : P) (old new : Option Talk) : Type 0 where
  pub gave : List ℕ
  pub poured : List ℕ
  pub pours : Pours took p q poured
  pub case : CollectedOf left room result gave poured
  pub told : Told (Gave gave) old new
  pub over : EndedBy result new
