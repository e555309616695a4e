use Rattle.std.proofs.Common.{◌≡◌, ◌++◌, take, string_bytes}
use Rattle.std.specs.List.{flat_map}
use Rattle.addr_texts.specs.PlanText.{entry_line}
use Rattle.addr_texts.proofs.plan.put_entries.Given as goal

abbrev pub invariant-loop-x : goal.invariant-loop-x
invariant-loop-x l = string_bytes l.text ≡ string_bytes l.fn.text ++ flat_map (entry_line l.project) (take l.x-index l.entries)
