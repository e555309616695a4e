-- An id is asked for over a connector, if it is one over HTTP.
use Rattle.std.specs.Prelude.{ℕ, ◌≡◌, List, Option, Some, None, Result}
use Rattle.addr_wire.specs.Counts.{Counts}
use Rattle.addr_wire.specs.Talks.{ConnectNow}
use Rattle.addr_http.specs.Conversations.{Asks, Serves}
use Rattle.addr_http.specs.Targets.{Address, request_text}
use Rattle.addr_http.specs.declared.outcome.Outcome.{Outcome}

-- no conversation where the id has another form, and else one, with where it leads
abbrev pub AskedAt : {P E : Type 0} → (P → List ℕ → Type 0) → ℕ → Option Address → Option (Result Outcome E) → P → P → ConnectNow → ConnectNow → Type 0
AskedAt took limit None result p q old new = result ≡ None
AskedAt took limit (Some address) None p q old new = ⊥
AskedAt took limit (Some address) (Some result) p q old new =
    Serves took limit result (Asks limit old.faults new.faults (request_text address) result) p q old.talk new.talk

abbrev pub CountsAt : {E : Type 0} → Option (Result Outcome E) → ℕ → ℕ → Type 0
CountsAt None old new = new ≡ old
CountsAt (Some result) old new = Counts old result new
