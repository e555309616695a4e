use Rattle.std.proofs.Common.{◌≡◌, true, false, Bool, Option}
use Rattle.std.specs.List.{list_all}
use Rattle.addr_base.specs.declared.ids.KeyNo.{KeyNo}
use Rattle.addr_locate.specs.Merge.{has_none}
use Rattle.addr_locate.proofs.merging.rarest.Given as goal

abbrev pub invariant-loop-key : goal.invariant-loop-key
invariant-loop-key l = (p : Option KeyNo → Bool) → has_none l.keys ≡ false → list_all p l.keys ≡ true → p l.rarest ≡ true
