use Rattle.std.proofs.Common.{take}
use Rattle.std.specs.List.{AllZip}
use Rattle.addr_resolve.specs.Items.{IsItemOf}
use Rattle.addr_resolve.proofs.items.items_of.Given as goal

abbrev pub invariant-loop-n : goal.invariant-loop-n
invariant-loop-n l = AllZip (IsItemOf l.cabs l.places) (take l.n-index l.picks) l.items
