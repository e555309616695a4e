-- What a pass knows after another was met into it, and what the last state of a session tells it.
use Rattle.std.specs.Prelude.{ℕ, ◌≡◌, ◌+◌, ◌++◌, ◌∷◌, List, Some}
use Rattle.addr_locate.specs.Rows.{Rows}
use Rattle.addr_history.specs.Legal.{Legal}
use Rattle.addr_history.specs.declared.event.Event.{Event}
use Rattle.addr_core.specs.Machine.{Machine}
use Rattle.addr_history.specs.Events.{number_of}
use Rattle.addr_turn.specs.Numbers.{times}
use Rattle.addr_turn.specs.OneHistory.{IsPrefix, own, domain, HasAll, AllAccounted, SharedOut, IsKnown}
use Rattle.addr_loader.specs.Turn.{Knowledge, rows_of, limit_of}

pub record MetAll (v w u : Knowledge) : Type 0 where
  pub number : u.number ≡ v.number
  pub mine : u.mine ≡ v.mine
  pub others : u.others ≡ v.others ++ (w.number, w.mine) ∷ w.others
  pub bare : u.bare ≡ v.bare ++ w.bare
  pub fixed : u.fixed ≡ v.fixed
  pub first : IsPrefix v.seen u.seen
  pub second : IsPrefix w.seen u.seen
  pub domains : SharedOut u v w

pub record Finished {I : Type 0} (v : Knowledge) (m : Machine I) : Type 0 where
  pub seen : IsPrefix v.seen m.history
  pub rows : m.rows ≡ rows_of v
  pub limit : m.limit ≡ limit_of v
  pub legal : Legal m.rows m.limit m.history
  pub mine : own number_of v.number m.history ≡ v.mine
  pub accounted : AllAccounted number_of v m.history
  pub known : IsKnown number_of m.history (m.rows, m.limit) v
