-- A turn lends its state, and has it as it was left when the loan ends.
use Rattle.std.specs.Prelude.{[]}
use Rattle.std.specs.Borrow.{Lends, MutBor, Fml, RattleType}
use mir.Syntax.{named}
use Rattle.addr_base.specs.declared.told.Told.{Ghosts}
use Rattle.addr_turn.specs.declared.lock.Inside.{Inside}
use Rattle.addr_turn.specs.contracts.lock.Inside.{the_row}

abbrev pub lends_state : (S E F : RattleType) → (g : Ghosts S.Denot E.Denot F.Denot) → MutBor (Inside S.Denot E.Denot F.Denot g) → MutBor S.Denot → Fml
lends_state S E F g i r = Lends (the_row (record { mir = named 1; lft = [] }) (record { mir = named 2; lft = [] }) S E F g) S i r (λ w. record i.now { state = w })
