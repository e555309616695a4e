use Rattle.std.proofs.Common.{◌≡◌, ◌++◌, take, filter, string_bytes}
use Rattle.std.specs.List.{flat_map}
use Rattle.addr_texts.specs.Marks.{is_unmarked}
use Rattle.addr_texts.specs.PlanText.{copy_line}
use Rattle.addr_texts.proofs.plan.put_copies.Given as goal

abbrev pub invariant-loop-n : goal.invariant-loop-n
invariant-loop-n l = string_bytes l.text ≡ string_bytes l.fn.text ++ flat_map (copy_line l.project) (filter (is_unmarked l.marks) (take l.n-index l.members))
