use Rattle.std.proofs.Common.{◌≡◌, ◌≢◌, take}
use Rattle.addr_needs.specs.within.Naming.{AddsSet, AnyOf}
use Rattle.addr_needs.proofs.naming.add_others.Given as goal

abbrev pub invariant-loop-c : goal.invariant-loop-c
invariant-loop-c l = AddsSet l.fn.row.items (AnyOf (take l.c-index l.numbers) (λ c d. (l.b ≢ d) × (c ≡ d))) l.row.items
