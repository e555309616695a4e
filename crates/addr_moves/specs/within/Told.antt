-- Moves and the numbers of moved entries, one entry after the other.
use Rattle.std.specs.Prelude.{ℕ, ◌≡◌, ◌<◌, List, [], ◌∷◌, ◌++◌, Some}
use Rattle.std.specs.List.{AllZip, slice_get}
use Rattle.std.specs.Ordering.{nat_cmp}
use Rattle.addr_base.specs.declared.ids.Guid.{Guid}
use Rattle.addr_layout.specs.Members.{IsEntryOf}
use Rattle.addr_project.specs.Model.{Project}
use Rattle.addr_update.specs.declared.model.Move.{Move}
use Rattle.addr_update.specs.declared.model.Why.{Why}
use Rattle.addr_walks.specs.Walks.{IsListOf}
use Rattle.addr_moves.specs.declared.fate.Fate.{Fate}
use Rattle.addr_moves.specs.declared.fate.Fate.TheVariants.{Free, Kept, Moves}

-- moves with that of one more entry, where it moves
abbrev pub with_move : Fate → Guid → List Move → List Move
with_move Free a moves = moves
with_move (Kept m) a moves = moves
with_move (Moves why) a moves = moves ++ record { guid = a; why = why } ∷ []

-- numbers with one more, where the entry moves
abbrev pub with_moved : Fate → ℕ → List ℕ → List ℕ
with_moved Free x moved = moved
with_moved (Kept m) x moved = moved
with_moved (Moves why) x moved = moved ++ x ∷ []

-- the entry with a number below a bound moves
abbrev pub MovesBelow : List Fate → ℕ → ℕ → Type 0
MovesBelow fates k x = (x < k) × (why : Why) × (slice_get fates x ≡ Some (Moves why))

abbrev pub ListsMoved : List Fate → ℕ → List ℕ → Type 0
ListsMoved fates k moved = IsListOf nat_cmp (MovesBelow fates k) moved

-- a move tells the entry with a number
abbrev pub Tells : Project → List Fate → ℕ → Move → Type 0
Tells p fates x move = IsEntryOf p x move.guid × (slice_get fates x ≡ Some (Moves move.why))

abbrev pub TellsMoves : Project → List Fate → ℕ → List Move → Type 0
TellsMoves p fates k moves = (xs : List ℕ) × ListsMoved fates k xs × AllZip (Tells p fates) xs moves
