use Rattle.std.proofs.Common.{take}
use Rattle.hex.specs.Hex.{IsBytes}
use Rattle.addr_walks.specs.Places.{EachAt}
use Rattle.addr_pack.proofs.plain.entries_are_bytes.Given as goal

abbrev pub invariant-loop-i : goal.invariant-loop-i
invariant-loop-i l = EachAt (λ i entry. EachAt (λ k label. IsBytes label) entry.labels) (take l.i l.entries)
