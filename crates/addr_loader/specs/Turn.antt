-- One turn around a call of the machine, as the pass knows it.
use Rattle.std.specs.Prelude.{ℕ, ◌≡◌, ◌++◌, false, List, [], ◌∷◌, Option, Some, None, Result, Ok, Err, unwrap_or}
use Rattle.addr_locate.specs.Rows.{Rows}
use Rattle.addr_base.specs.declared.ids.OpId.{OpId}
use Rattle.addr_history.specs.declared.ask.Ask.{Ask}
use Rattle.addr_history.specs.declared.error.LoadErr.{LoadErr}
use Rattle.addr_history.specs.declared.error.LoadErr.TheVariants.{NoMemory}
use Rattle.addr_history.specs.declared.event.Event.{Event}
use Rattle.addr_history.specs.Answers.{load_reply}
use Rattle.addr_history.specs.Counts.{is_closed}
use Rattle.addr_history.specs.Legal.{Legal}
use Rattle.addr_cab.specs.Lookup.{Held, Fits}
use Rattle.addr_core.specs.Machine.{Machine, HasImages, IdleHaveNone, ReadyHave, ImagesFit}
use Rattle.addr_history.specs.Events.{number_of}
use Rattle.addr_turn.specs.declared.board.Role.TheVariants.{Idle}
use Rattle.addr_turn.specs.declared.board.View.{View}
use Rattle.addr_turn.specs.OneHistory.{IsPrefix, own}
use Rattle.addr_turn.specs.Steps.{with_seen, recorded_as}

-- what a pass of a session knows
abbrev pub Knowledge : Type 0
Knowledge = View Event (Rows × ℕ)

-- the rows and the limit that the machine was opened with
abbrev pub no_rows : Rows
no_rows = record { bundles = []; assets = []; keys = []; kinds = [] }

abbrev pub rows_of : Knowledge → Rows
rows_of v = (unwrap_or v.fixed (no_rows, 0)).0

abbrev pub limit_of : Knowledge → ℕ
limit_of v = (unwrap_or v.fixed (no_rows, 0)).1

-- the pass after a turn at the history, which added these events: none or one
abbrev pub after_turn : Knowledge → List Event → List Event → Knowledge
after_turn v h [] = with_seen v Idle h
after_turn v h (e ∷ es) = recorded_as number_of (with_seen v Idle h) e

-- one turn: at its history, which goes on from all that the pass had seen, these events were added
pub record Turn (v w : Knowledge) (h added : List Event) : Type 0 where
  pub goes_on : IsPrefix v.seen h
  -- all its own events stand there
  pub ours : own number_of v.number h ≡ v.mine
  pub after : w ≡ after_turn v h added
  pub own_are : own number_of v.number w.seen ≡ w.mine
  pub legal : Legal (rows_of v) (limit_of v) w.seen

-- what a load is answered; want of memory may come in place of each answer but Closed
abbrev pub LoadAnswer : Rows → ℕ → List Event → Ask → Result OpId LoadErr → Type 0
LoadAnswer rows limit h ask (Err NoMemory) = is_closed h ≡ false
LoadAnswer rows limit h ask result = load_reply rows limit h ask ≡ result

-- a call of the machine adds these events
pub record Adds {I : Type 0} (old new : Machine I) (added : List Event) : Type 0 where
  pub history : new.history ≡ old.history ++ added
  pub rows : new.rows ≡ old.rows
  pub limit : new.limit ≡ old.limit

-- the machine at a history, as whoever has the turn finds it: exactly the resident bundles have an image, which is of a file with
-- its row's size and digest
pub record IsMachine (v : Knowledge) (h : List Event) (m : Machine Held) : Type 0 where
  pub rows : m.rows ≡ rows_of v
  pub limit : m.limit ≡ limit_of v
  pub history : m.history ≡ h
  pub held : HasImages m
  pub idle : IdleHaveNone m
  pub ready : ReadyHave m
  pub fitting : ImagesFit Fits m
