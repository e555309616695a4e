-- How the end of a command is printed: one text by one put, or a prefix of it.
use Rattle.std.specs.Prelude.{ℕ, ◌≡◌, ◌++◌, ◌⊎◌, List, Some, IsNone, MatchOption, take}
use Rattle.addr_base.specs.Faults.{Rose}
use Rattle.addr_base.specs.Streams.{Stream}

-- the text was written whole, and the status is its own
pub record IsPrintedWhole (code : ℕ) (text : List ℕ) (status : ℕ) (old new : Stream) : Type 0 where
  pub status_is : status ≡ code
  pub kept : new.faults ≡ old.faults
  pub written : MatchOption old.written (IsNone new.written) (λ before. new.written ≡ Some (before ++ text))

-- the sink failed, and a prefix of the text was written
pub record IsPrintedInPart (text : List ℕ) (status : ℕ) (old new : Stream) : Type 0 where
  pub status_is : status ≡ 13
  pub rose : Rose old.faults new.faults
  pub written : MatchOption old.written (IsNone new.written) (λ before. (n : ℕ) × (new.written ≡ Some (before ++ take n text)))

abbrev pub PrintsText : ℕ → List ℕ → ℕ → Stream → Stream → Type 0
PrintsText code text status old new = IsPrintedWhole code text status old new ⊎ IsPrintedInPart text status old new
