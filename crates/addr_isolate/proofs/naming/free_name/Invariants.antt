use Rattle.std.proofs.Common.{ℕ, ◌<◌}
use Rattle.std.specs.List.{Contains}
use Rattle.addr_analyze.specs.Isolation.{numbered_name}
use Rattle.addr_project.specs.Faults.{names_of}
use Rattle.addr_isolate.proofs.naming.free_name.Given as goal

abbrev pub invariant-loop-number : goal.invariant-loop-number
invariant-loop-number l = (n : ℕ) → n < l.number → Contains (names_of l.groups) (numbered_name n)
