use Rattle.std.proofs.Common.{◌≡◌, ◌++◌, take, string_bytes}
use Rattle.std.specs.List.{flat_map}
use Rattle.addr_texts.specs.PlanText.{dep_line}
use Rattle.addr_texts.proofs.plan.put_deps.Given as goal

abbrev pub invariant-loop-c : goal.invariant-loop-c
invariant-loop-c l = string_bytes l.text ≡ string_bytes l.fn.text ++ flat_map dep_line (take l.c-index l.deps)
