use Rattle.addr_locate.proofs.NameLemmas.{AreNumbered}
use Rattle.addr_locate.proofs.numbering.number_rows.Given as goal

abbrev pub invariant-loop-asset : goal.invariant-loop-asset
invariant-loop-asset l = AreNumbered l.yielded l.keys l.kinds l.rows.items
