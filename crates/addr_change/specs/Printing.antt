-- How the end of a command is printed: one text by one put, or a prefix of it; and the causes of its status.
use Rattle.std.specs.Prelude.{ℕ, ◌≡◌, ◌≢◌, ◌++◌, ◌⊎◌, List, [], ◌∷◌, Some, IsNone, MatchOption, codes, take}
use Rattle.addr_base.specs.Faults.{Rose}
use Rattle.addr_base.specs.Files.{Store}
use Rattle.addr_base.specs.Streams.{Stream}

-- the text was written whole, and the status is its own
pub record IsPrintedWhole (code : ℕ) (text : List ℕ) (status : ℕ) (old new : Stream) : Type 0 where
  pub status_is : status ≡ code
  pub kept : new.faults ≡ old.faults
  pub written : MatchOption old.written (IsNone new.written) (λ before. new.written ≡ Some (before ++ text))

-- the sink failed, and a prefix of the text was written
pub record IsPrintedInPart (text : List ℕ) (status : ℕ) (old new : Stream) : Type 0 where
  pub status_is : status ≡ 13
  pub rose : Rose old.faults new.faults
  pub written : MatchOption old.written (IsNone new.written) (λ before. (n : ℕ) × (new.written ≡ Some (before ++ take n text)))

abbrev pub PrintsText : ℕ → List ℕ → ℕ → Stream → Stream → Type 0
PrintsText code text status old new = IsPrintedWhole code text status old new ⊎ IsPrintedInPart text status old new

-- the text was printed with its status; or it takes memory and found none, and the one line was printed that says so
abbrev pub PrintsOrWants : Type 0 → ℕ → List ℕ → ℕ → Stream → Stream → Type 0
PrintsOrWants takes code text status old new = PrintsText code text status old new
    ⊎ (takes × PrintsText 1 (codes "error 1 memory" ++ 10 ∷ []) status old new)

-- the words are no line of the command: nothing but the line of usage was written, and no depot was asked
pub record IsUnasked (line : Type 0) (depot depot_after : Store) (out out_after : Stream) (status : ℕ) : Type 0 where
  pub other : line → ⊥
  pub same : depot_after ≡ depot
  pub prints : PrintsText 2 (codes "error 2 usage" ++ 10 ∷ []) status out out_after

-- the causes of a status: 3 only where the depot's count of faults rose, which it does under no other but 13, and 13 exactly
-- where the sink's rose
pub record HasCauses (depot depot_after : Store) (out out_after : Stream) (status : ℕ) : Type 0 where
  pub depot_rose : status ≡ 3 → Rose depot.faults depot_after.faults
  pub depot_kept : status ≢ 3 → status ≢ 13 → depot_after.faults ≡ depot.faults
  pub sink_rose : status ≡ 13 → Rose out.faults out_after.faults
  pub sink_kept : status ≢ 13 → out_after.faults ≡ out.faults
