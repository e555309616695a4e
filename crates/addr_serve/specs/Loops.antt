-- One connection, and all of them, inside serving.
use Rattle.std.specs.Prelude.{ℕ, ◌≡◌, ◌≤◌, List, length, Option, IfSome, ◌⊎◌}
use Rattle.addr_base.specs.Faults.{Rose}
use Rattle.addr_base.specs.declared.files.MemFile.{MemFile}
use Rattle.addr_wire.specs.Listeners.{Conns, ListenNow}
use Rattle.addr_serve.specs.Lines.{memory_line, net_line}
use Rattle.addr_serve.specs.Serving.{Adds, AreTurns, Follows, Turn, Writes, lines_of}
use Rattle.addr_serve.specs.declared.serving.Ended.{Ended}
use Rattle.addr_serve.specs.declared.serving.Ended.TheVariants.{Done, Memory, Net, Sink}

-- the accepted connections that aren't finished yet don't fall short of the finished ones
abbrev pub IsAhead : Option Conns → Type 0
IsAhead conns = IfSome conns (λ c. length c.finished ≤ length c.accepted)

-- the lines so far, where nothing failed
abbrev pub PrintsSo : List Turn → Ended → Option (List ℕ) → Option (List ℕ) → Type 0
PrintsSo turns Done old new = Writes (lines_of turns) old new
PrintsSo turns Net old new = Writes (lines_of turns) old new
PrintsSo turns Memory old new = Unit {0}
PrintsSo turns Sink old new = Unit {0}

-- connections were served, so many where it is done
pub record ServesAll (folder : List ℕ) (files : Option (List MemFile)) (connections before now : ℕ) (result : Ended) (old new : ListenNow) (text after : Option (List ℕ)) : Type 0 where
  pub turns : List Turn
  pub are : AreTurns folder files before now turns
  pub lists : Follows (Adds turns) old.conns new.conns
  pub port : new.port ≡ old.port
  pub count : result ≡ Done → length turns ≡ connections
  pub prints : PrintsSo turns result text after

-- the listener's count rose where it failed, and else stays
abbrev pub NetCause : Ended → ℕ → ℕ → Type 0
NetCause Done before now = now ≡ before
NetCause Net before now = Rose before now
NetCause Memory before now = now ≡ before
NetCause Sink before now = now ≡ before

-- so behind the last line: where the sink failed, the listener may have failed before
abbrev pub ListenCause : Ended → ℕ → ℕ → Type 0
ListenCause Done before now = now ≡ before
ListenCause Net before now = Rose before now
ListenCause Memory before now = now ≡ before
ListenCause Sink before now = (now ≡ before) ⊎ Rose before now

-- the sink's count rose where it failed, and else stays
abbrev pub SinkCause : Ended → ℕ → ℕ → Type 0
SinkCause Done before now = now ≡ before
SinkCause Net before now = now ≡ before
SinkCause Memory before now = now ≡ before
SinkCause Sink before now = Rose before now

-- the line of one connection
abbrev pub PrintsLine : List ℕ → Ended → Option (List ℕ) → Option (List ℕ) → Type 0
PrintsLine line Done old new = Writes line old new
PrintsLine line Net old new = ⊥
PrintsLine line Memory old new = Unit {0}
PrintsLine line Sink old new = Unit {0}

-- the last line: what is put stands there, or the sink failed
abbrev pub PutsLast : List ℕ → Ended → Ended → Option (List ℕ) → Option (List ℕ) → Type 0
PutsLast line ended result old new = ((result ≡ ended) × Writes line old new) ⊎ (result ≡ Sink)

abbrev pub PrintsLast : Ended → Ended → Option (List ℕ) → Option (List ℕ) → Type 0
PrintsLast Done result old new = (result ≡ Done) × (new ≡ old)
PrintsLast Net result old new = PutsLast net_line Net result old new
PrintsLast Memory result old new = PutsLast memory_line Memory result old new
PrintsLast Sink result old new = (result ≡ Sink) × (new ≡ old)

abbrev pub PutCause : Ended → Ended → ℕ → ℕ → Type 0
PutCause ended result before now = ((result ≡ ended) × (now ≡ before)) ⊎ ((result ≡ Sink) × Rose before now)

abbrev pub LastCause : Ended → Ended → ℕ → ℕ → Type 0
LastCause Done result before now = now ≡ before
LastCause Net result before now = PutCause Net result before now
LastCause Memory result before now = PutCause Memory result before now
LastCause Sink result before now = now ≡ before
