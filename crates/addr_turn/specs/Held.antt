-- What contracts say of a pass: what it knows, that it is of a lock, and whether it is outside or inside a turn.
use Rattle.std.specs.Prelude.{◌≡◌, ◌<◌, [], ◌∷◌, Option, None, IsSome}
use Rattle.atomic_table.specs.Seated.{TableId}
use Rattle.atomic_table.specs.declared.shared.Seat.{Seat}
use Rattle.addr_base.specs.declared.told.Told.{Ghosts}
use Rattle.addr_turn.specs.declared.board.View.{View}
use Rattle.addr_turn.specs.declared.lock.Pass.{Pass}
use Rattle.addr_turn.specs.declared.lock.Turns.{Turns}
use Rattle.addr_turn.specs.Numbers.{number_bound}
use Rattle.addr_turn.specs.Queue.{stage}

module _ {S E F : Type 0} where
  -- the seat is at the table, with no ticket and no slot
  abbrev pub IsAtRest : TableId → Seat (Option S) (View E F) → Type 0
  IsAtRest table seat = (seat.table_id ≡ table) × (stage seat.me.0.role ≡ 0) × (seat.me.1 ≡ []) × IsSome seat.me.0.fixed × (seat.me.0.number < number_bound)

  -- the seat is at the table, at its turn, and has the state out
  abbrev pub IsOut : TableId → Seat (Option S) (View E F) → Type 0
  IsOut table seat = (seat.table_id ≡ table) × (stage seat.me.0.role ≡ 4) × (seat.me.1 ≡ (0, None) ∷ []) × (seat.me.0.number < number_bound)

  -- both are the one lock
  abbrev pub IsSameLock : Turns S E F → Turns S E F → Type 0
  IsSameLock one other = one.board.shared.table_id ≡ other.board.shared.table_id

module _ {S E F : Type 0} {g : Ghosts S E F} where
  -- what the pass knows
  abbrev pub view : Pass S E F g → View E F
  view pass = pass.place.me.0

  -- the pass is of the lock, and outside any turn
  abbrev pub IsPassOf : Turns S E F → Pass S E F g → Type 0
  IsPassOf lock pass = IsAtRest lock.board.shared.table_id pass.place

  -- the pass is of the lock, and inside a turn
  abbrev pub IsInside : Turns S E F → Pass S E F g → Type 0
  IsInside lock pass = IsOut lock.board.shared.table_id pass.place
