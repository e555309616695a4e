-- The ticket lock, whatever else a seat knows: which tickets are held, whose turn it is, and where the state is.
-- A stage is 0 with no ticket, 1 with one, 2 at its turn, 3 where it has glanced since, and 4 with the state out.
use Rattle.std.specs.Prelude.{◌≡◌, ◌⊎◌, ℕ, ◌+◌, ◌%◌, ◌<◌, ◌≤◌, List, [], ◌∷◌, length, slice_index, Option, Some}
use mathlib.Core.Option.{some}
use mathlib.Core.Option as maybe
use lib.ListN.{get_elem?}
use Rattle.atomic_table.specs.Table.{State}
use Rattle.addr_turn.specs.declared.board.Role.{Role}
use Rattle.addr_turn.specs.declared.board.Role.TheVariants.{Idle, Drawn, Turn, Glanced, Out}
use Rattle.addr_turn.specs.Numbers.{number_bound}

-- how far a seat is with its turn, by the stages above
abbrev pub stage : Role → ℕ
stage Idle = 0
stage (Drawn t) = 1
stage (Turn t) = 2
stage (Glanced t) = 3
stage (Out t) = 4

-- the ticket of a role that has one
abbrev pub ticket : Role → ℕ
ticket Idle = 0
ticket (Drawn t) = t
ticket (Turn t) = t
ticket (Glanced t) = t
ticket (Out t) = t

-- how many tickets a seat holds
abbrev pub held : Role → ℕ
held Idle = 0
held (Drawn t) = 1
held (Turn t) = 1
held (Glanced t) = 1
held (Out t) = 1

-- how many tickets all seats hold
abbrev pub tickets_of : {V : Type 0} → (V → Role) → List V → ℕ
tickets_of role [] = 0
tickets_of role (v ∷ vs) = held (role v) + tickets_of role vs

-- a ticket that is held was drawn, and its turn isn't over; who is past the look is at its turn
pub record Waits (m n : ℕ) (r : Role) : Type 0 where
  pub low : 0 < stage r → m ≤ ticket r
  pub high : 0 < stage r → ticket r < n
  pub turn : 1 < stage r → ticket r ≡ m

-- the state is at home, and no seat has it out
pub record AtHome {S V : Type 0} (role : V → Role) (Good : S → Type 0) (homes : List (maybe.Option (Option S))) (views : List V) : Type 0 where
  pub state : S
  pub home : get_elem? homes 0 ≡ some (some (Some state))
  pub good : Good state
  pub none_out : (j : ℕ) (d : V) → get_elem? views j ≡ some d → stage (role d) < 4

-- a seat has the state out
pub record Away {V : Type 0} (role : V → Role) (views : List V) : Type 0 where
  pub who : ℕ
  pub view : V
  pub seat : get_elem? views who ≡ some view
  pub out : stage (role view) ≡ 4

-- the tickets that seats hold are the numbers from the turns that are over on, below the tickets drawn; each is one seat's
pub record Queue {S V : Type 0} (role : V → Role) (Good : S → Type 0) (s : State (Option S) V) : Type 0 where
  -- tickets drawn in all, and turns over in all
  pub n : ℕ
  pub m : ℕ
  pub wide : length s.words ≡ 3
  pub deep : length s.homes ≡ 1
  pub tickets : slice_index s.words 0 ≡ n % 18446744073709551616
  pub turns : slice_index s.words 1 ≡ m % 18446744073709551616
  pub all_held : m + tickets_of role s.views ≡ n
  pub few : length s.views ≤ number_bound
  pub each_seat : (j : ℕ) (d : V) → get_elem? s.views j ≡ some d → Waits m n (role d)
  pub own : (i j : ℕ) (c d : V) → get_elem? s.views i ≡ some c → get_elem? s.views j ≡ some d → 0 < stage (role c) → 0 < stage (role d) → ticket (role c) ≡ ticket (role d) → i ≡ j
  pub place : AtHome role Good s.homes s.views ⊎ Away role s.views
