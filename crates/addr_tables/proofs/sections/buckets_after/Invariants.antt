use Rattle.std.proofs.Common.{◌≡◌, ◌-◌, [], vec_len}
use Rattle.addr_tables.specs.Faults.{buckets_first}
use Rattle.addr_tables.proofs.sections.buckets_after.Given as goal

abbrev pub invariant-loop-i : goal.invariant-loop-i
invariant-loop-i l = (buckets_first (l.count - l._i) l.buckets.items l.rest ≡ buckets_first l.count [] l.numbers) × (vec_len l.buckets ≡ l._i)
