use Rattle.std.proofs.Common.{◌≡◌, ◌++◌, drop, string_bytes}
use Rattle.addr_base.specs.Escapes.{escaped}
use Rattle.addr_base.proofs.escapes.esc.Given as goal

abbrev pub invariant-loop-b : goal.invariant-loop-b
invariant-loop-b l = string_bytes l.name ++ escaped (drop l.b-index l.b-items) ≡ escaped l.text
