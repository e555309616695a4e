use Rattle.std.proofs.Common.{◌≡◌, ◌++◌, string_bytes, take}
use Rattle.addr_pack.specs.Naming.{spelled}
use Rattle.addr_pack.proofs.naming.push_labels.Given as goal

abbrev pub invariant-loop-label : goal.invariant-loop-label
invariant-loop-label l = string_bytes l.name ≡ string_bytes l.fn.name ++ spelled (take l.label-index l.labels)
