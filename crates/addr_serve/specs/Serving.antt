-- What serving connections, one after the other, leaves of the listener, the depot and the sink.
use Rattle.std.specs.Prelude.{ℕ, ◌≡◌, ◌≤◌, ◌+◌, ◌-◌, ◌^◌, ◌==◌, List, [], ◌∷◌, ◌++◌, length, map, flat_map, count_by, Bool, false, Option, IfSome, MatchOption, IsNone, IsSomeAnd, ◌⊎◌}
use Rattle.addr_base.specs.Faults.{Rose}
use Rattle.addr_base.specs.declared.files.MemFile.{MemFile}
use Rattle.addr_wire.specs.Connections.{ConnNow}
use Rattle.addr_wire.specs.Listeners.{Conns, ListenNow}
use Rattle.addr_http.specs.Responses.{Causes, Tells}
use Rattle.addr_http.specs.declared.answering.Served.{Served}
use Rattle.addr_http.specs.declared.answering.Served.TheVariants.{Answered, Broken, NoMemory}
use Rattle.addr_serve.specs.Lines.{net_line, port_line, served_line}
use Rattle.addr_serve.specs.declared.serving.Ended.{Ended}
use Rattle.addr_serve.specs.declared.serving.Ended.TheVariants.{Done, Memory, Net, Sink}

-- a connection as it was accepted and as it was finished, and how serving it ended
pub record Turn : Type 0 where
  pub accepted : ConnNow
  pub finished : ConnNow
  pub served : Served

-- the depot's count was `before` and is `now`; a 500 comes only where it rose
pub record IsTurn (folder : List ℕ) (files : Option (List MemFile)) (before now : ℕ) (turn : Turn) : Type 0 where
  pub later : before ≤ now
  pub tells : Tells folder files before now turn.accepted turn.finished turn.served
  pub cause : Causes turn.accepted turn.finished turn.served
  pub failed : turn.served ≡ Answered 500 → Rose before now

-- one after the other
abbrev pub AreTurns : List ℕ → Option (List MemFile) → ℕ → ℕ → List Turn → Type 0
AreTurns folder files before now [] = now ≡ before
AreTurns folder files before now (turn ∷ turns) =
    (middle : ℕ) × IsTurn folder files before middle turn × AreTurns folder files middle now turns

-- whether a connection was answered 500
abbrev pub is_failed : Served → Bool
is_failed (Answered status) = status == 500
is_failed Broken = false
is_failed NoMemory = false

-- the connections were accepted, and finished, in this order
pub record Adds (turns : List Turn) (old new : Conns) : Type 0 where
  pub accepted : new.accepted ≡ old.accepted ++ map (λ t. t.accepted) turns
  pub finished : new.finished ≡ old.finished ++ map (λ t. t.finished) turns

abbrev pub lines_of : List Turn → List ℕ
lines_of turns = flat_map (λ t. served_line t.served) turns

-- where it is told before, it is told after, and the fact holds of the two; else it isn't told after
abbrev pub Follows : {T : Type 0} → (T → T → Type 0) → Option T → Option T → Type 0
Follows P old new = MatchOption old (IsNone new) (λ o. IsSomeAnd new (P o))

-- exactly this text was written, where the sink tells it
abbrev pub Writes : List ℕ → Option (List ℕ) → Option (List ℕ) → Type 0
Writes text old new = Follows (λ o n. n ≡ o ++ text) old new

-- what was written, by how serving ended; where the sink failed, or memory was refused, nothing is said of it
abbrev pub Prints : ℕ → List Turn → Ended → Option (List ℕ) → Option (List ℕ) → Type 0
Prints port turns Done old new = Writes (port_line port ++ lines_of turns) old new
Prints port turns Net old new =
    Writes (port_line port ++ (lines_of turns ++ net_line)) old new ⊎ ((turns ≡ []) × Writes net_line old new)
Prints port turns Memory old new = Unit {0}
Prints port turns Sink old new = Unit {0}

-- what was served: exactly the asked number of connections where it is done; at most as many of them were answered 500 as
-- the depot's count rose by, unless it stands at its greatest value
pub record Serves (folder : List ℕ) (files : Option (List MemFile)) (connections before now : ℕ) (result : Ended) (old new : ListenNow) (text after : Option (List ℕ)) : Type 0 where
  pub port : ℕ
  pub turns : List Turn
  pub bound : result ≡ Done → IfSome new.port (λ told. told ≡ port)
  pub are : AreTurns folder files before now turns
  pub lists : Follows (Adds turns) old.conns new.conns
  pub few : (before + count_by (λ t. is_failed t.served) turns ≤ now) ⊎ (2 ^ 64 - 1 ≤ now)
  pub count : result ≡ Done → length turns ≡ connections
  pub prints : Prints port turns result text after
