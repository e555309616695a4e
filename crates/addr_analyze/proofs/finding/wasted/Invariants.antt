use Rattle.std.proofs.Common.{◌≡◌, ◌≤◌, ◌*◌, take}
use Rattle.std.specs.List.{sum_by}
use Rattle.addr_analyze.specs.declared.duplicate.Duplicate.{Duplicate}
use Rattle.addr_analyze.proofs.finding.wasted.Given as goal

abbrev pub invariant-loop-duplicate : goal.invariant-loop-duplicate
invariant-loop-duplicate l = record {
  total : l.total ≡ sum_by (λ (d : Duplicate). d.wasted) (take l.duplicate-index l.found);
  few : l.total ≤ l.duplicate-index * 4398046511104;
}
