use Rattle.std.proofs.Common.{◌≡◌}
use Rattle.addr_catalog.specs.Catalogue.{somes}
use Rattle.addr_catalog.proofs.reader.somes.Given as goal

abbrev pub invariant-loop-item : goal.invariant-loop-item
invariant-loop-item g l = l.found.items ≡ somes l.yielded
