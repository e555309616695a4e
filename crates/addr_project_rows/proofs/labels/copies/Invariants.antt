use Rattle.std.proofs.Common.{◌≡◌, ◌++◌, map}
use Rattle.addr_project_rows.proofs.labels.copies.Given as goal

abbrev pub invariant-loop-text : goal.invariant-loop-text
invariant-loop-text l = l.labels ++ map (λ text. text.now) l.text-iterator ≡ map (λ text. text.now) l.found.keys
