use Rattle.std.proofs.Common.{◌≡◌, ◌++◌, take}
use Rattle.addr_resolve.specs.Places.{row_places}
use Rattle.addr_resolve.proofs.places.add_places.Given as goal

abbrev pub invariant-loop-row : goal.invariant-loop-row
invariant-loop-row l = l.places ≡ l.fn.places ++ row_places l.bundle (take l.row-index l.rows)
