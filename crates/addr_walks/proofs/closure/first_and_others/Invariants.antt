use Rattle.std.proofs.Common.{◌≡◌, ◌∷◌, take}
use Rattle.std.specs.List.{filter}
use Rattle.addr_walks.specs.Closure.{is_other}
use Rattle.addr_walks.proofs.closure.first_and_others.Given as goal

abbrev pub invariant-loop-c : goal.invariant-loop-c
invariant-loop-c l = l.deps ≡ l.first ∷ filter (is_other l.first) (take l.c-index l.found)
