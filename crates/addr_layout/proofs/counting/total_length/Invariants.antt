use Rattle.std.proofs.Common.{◌≡◌, ◌-◌, ◌^◌, min, length, take}
use Rattle.std.specs.List.{sum_by}
use Rattle.addr_layout.proofs.counting.total_length.Given as goal

abbrev pub invariant-loop-row : goal.invariant-loop-row
invariant-loop-row l = l.total ≡ min (sum_by (λ row. length row) (take l.row-index l.rows)) (2 ^ 64 - 1)
