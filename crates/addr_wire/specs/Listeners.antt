-- A listener: its port, and the connections that were accepted and finished.
use Rattle.std.specs.Prelude.{ℕ, ◌≡◌, ◌≢◌, List, [], ◌∷◌, ◌++◌, Option, Result, Ok, Err, IfOk, IfSome, OnErr, MatchOption, IsNone, IsSomeAnd}
use Rattle.addr_wire.specs.Connections.{ConnNow}
use Rattle.addr_wire.specs.Counts.{Counts}

-- each accepted connection as it was handed out, and each finished one as it was taken back, in order
pub record Conns : Type 0 where
  pub accepted : List ConnNow
  pub finished : List ConnNow

-- `port` is that of the last `open`, where it is told
pub record ListenNow : Type 0 where
  pub port : Option ℕ
  pub conns : Option Conns
  pub faults : ℕ

-- `open`: a port that is told is the one that was answered, and the asked one where that isn't 0
pub record OpensPort {E : Type 0} (asked : ℕ) (old : ListenNow) (result : Result ℕ E) (new : ListenNow) : Type 0 where
  pub told : IfOk result (λ port. IfSome new.port (λ bound. bound ≡ port))
  pub chosen : asked ≢ 0 → IfOk result (λ port. IfSome new.port (λ bound. bound ≡ asked))
  pub failed : OnErr result (new.port ≡ old.port)
  pub conns : new.conns ≡ old.conns
  pub cause : Counts old.faults result new.faults

-- the connection stands last among the accepted ones; where the call failed both lists stay
abbrev pub AcceptsOne : {P E : Type 0} → (P → ConnNow) → Conns → Result P E → Conns → Type 0
AcceptsOne now old (Ok conn) new = new ≡ record { accepted = old.accepted ++ now conn ∷ []; finished = old.finished }
AcceptsOne now old (Err e) new = new ≡ old

pub record Accepts {P E : Type 0} (now : P → ConnNow) (old : ListenNow) (result : Result P E) (new : ListenNow) : Type 0 where
  pub lists : MatchOption old.conns (IsNone new.conns) (λ o. IsSomeAnd new.conns (AcceptsOne now o result))
  pub port : new.port ≡ old.port
  pub cause : Counts old.faults result new.faults

-- the connection stands last among the finished ones
abbrev pub FinishesOne : ConnNow → Conns → Conns → Type 0
FinishesOne conn old new = new ≡ record { accepted = old.accepted; finished = old.finished ++ conn ∷ [] }

pub record Finishes (conn : ConnNow) (old new : ListenNow) : Type 0 where
  pub lists : MatchOption old.conns (IsNone new.conns) (λ o. IsSomeAnd new.conns (FinishesOne conn o))
  pub port : new.port ≡ old.port
  pub faults : new.faults ≡ old.faults
