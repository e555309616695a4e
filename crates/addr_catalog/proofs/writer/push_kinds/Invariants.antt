use Rattle.std.proofs.Common.{◌≡◌, ◌++◌, take}
use Rattle.addr_catalog.proofs.writer.push_kinds.Given as goal

abbrev pub invariant-loop-kind : goal.invariant-loop-kind
invariant-loop-kind l = l.kinds ≡ l.fn.kinds ++ take l.kind-index l.locator.kinds
