use Rattle.std.proofs.Common.{◌≡◌, map, drop}
use Rattle.addr_project.specs.Faults.{over_labels}
use Rattle.addr_project_rows.specs.Firsts.{first_of}
use Rattle.addr_project.proofs.counts.first_labels.Given as goal

abbrev pub invariant-loop-entry : goal.invariant-loop-entry
invariant-loop-entry l = first_of over_labels (map (λ x. x.labels) (drop l.entry-index l.entries)) ≡ first_of over_labels (map (λ x. x.labels) l.entries)
