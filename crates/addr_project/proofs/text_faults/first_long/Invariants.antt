use Rattle.std.proofs.Common.{◌≡◌, map, drop}
use Rattle.addr_expansion.specs.Extents.{answer_of}
use Rattle.addr_project.specs.Faults.{too_long}
use Rattle.addr_project_rows.specs.Firsts.{first_of}
use Rattle.addr_project.proofs.text_faults.first_long.Given as goal

abbrev pub invariant-loop-reply : goal.invariant-loop-reply
invariant-loop-reply l = first_of too_long (map answer_of (drop l.reply-index l.values)) ≡ first_of too_long (map answer_of l.values)
