-- Which passes are a session's.
use Rattle.atomic_table.specs.Seated.{TableId}
use Rattle.addr_base.specs.declared.told.Told.{Ghosts}
use Rattle.addr_turn.specs.Held.{IsAtRest}
use Rattle.addr_turn.specs.declared.lock.Pass.{Pass}
use Rattle.addr_loader.specs.declared.session.Session.{Session}

-- the table behind the session's lock
abbrev pub lock_of : Session → TableId
lock_of session = session.turns.board.shared.table_id

module _ {S E F : Type 0} {g : Ghosts S E F} where
  -- the pass is the session's, and outside any turn
  abbrev pub IsOf : Session → Pass S E F g → Type 0
  IsOf session pass = IsAtRest (lock_of session) pass.place
