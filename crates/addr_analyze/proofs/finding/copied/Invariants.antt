use Rattle.std.proofs.Common.{◌≡◌, map}
use Rattle.std.specs.List.{filter, range_with_len}
use Rattle.addr_analyze.specs.Counting.{duplicate_at, is_copied}
use Rattle.addr_analyze.proofs.finding.copied.Given as goal

abbrev pub invariant-loop-n : goal.invariant-loop-n
invariant-loop-n l = l.found.items ≡ map (duplicate_at l.project l.counts) (filter (is_copied l.counts l.entries) (range_with_len 0 l.n))
