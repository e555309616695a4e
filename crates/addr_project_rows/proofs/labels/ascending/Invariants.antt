use Rattle.std.proofs.Common.{◌≡◌, take, map}
use Rattle.addr_project_rows.specs.Fields.{ascending}
use Rattle.addr_project_rows.proofs.labels.ascending.Given as goal

abbrev pub invariant-loop-text : goal.invariant-loop-text
invariant-loop-text l = map (λ text. text.now) l.found.keys ≡ ascending (take l.text-index l.texts)
