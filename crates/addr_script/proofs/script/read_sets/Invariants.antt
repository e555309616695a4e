use Rattle.std.proofs.Common.{◌≡◌, ◌≤◌, ◌+◌, ◌++◌, ℕ, List, map, length}
use Rattle.std.specs.List.{AllByRecursion}
use Rattle.addr_base.specs.declared.var.Var.{Var}
use Rattle.addr_script.specs.Commands.{set_line, IsSet}
use Rattle.addr_fields.specs.Lines.{lines_of}
use Rattle.addr_script.proofs.script.read_sets.Given as goal

-- the lines of the variables so far and those of the rest are the lines of the bytes
pub record SoFar (bytes : List ℕ) (first next : ℕ) (vars : List Var) (rest : List ℕ) : Type 0 where
  pub read : lines_of bytes ≡ map set_line vars ++ lines_of rest
  pub each : AllByRecursion IsSet vars
  pub place : next ≡ first + length vars
  pub few : next ≤ 100001

abbrev pub invariant-loop-vars : goal.invariant-loop-vars
invariant-loop-vars l = SoFar l.fn.bytes l.fn.first l.next l.vars l.rest

abbrev pub decreases-loop-vars : goal.decreases-loop-vars
decreases-loop-vars l = length l.rest
