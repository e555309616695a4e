-- What a pass gains by calls that record its own events alone.
use Rattle.std.specs.Prelude.{ℕ, ◌≡◌, ◌++◌, List}
use Rattle.addr_history.specs.declared.event.Event.{Event}
use Rattle.addr_history.specs.Legal.{Legal}
use Rattle.addr_history.specs.Events.{number_of}
use Rattle.addr_turn.specs.declared.board.Role.TheVariants.{Idle}
use Rattle.addr_turn.specs.OneHistory.{IsPrefix, own}
use Rattle.addr_loader.specs.Turn.{Knowledge, rows_of, limit_of}

-- the pass when it has seen that history, and these of its events are new
abbrev pub gained : Knowledge → List Event → List Event → Knowledge
gained v h es = record v { role = Idle; seen = h; mine = v.mine ++ es }

pub record Gains (v w : Knowledge) (es : List Event) : Type 0 where
  pub goes_on : IsPrefix v.seen w.seen
  pub after : w ≡ gained v w.seen es
  pub own_are : own number_of v.number w.seen ≡ w.mine
  pub legal : Legal (rows_of v) (limit_of v) w.seen
