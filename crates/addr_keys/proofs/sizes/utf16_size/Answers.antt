use Rattle.std.proofs.Common.{arith}
use Rattle.addr_keys.proofs.BodyLemmas.{double_units}
use Rattle.addr_keys.proofs.sizes.utf16_size.Goals as goal

pub returns : goal.returns
returns c = omega (arith, double_units c.args.text.now, c.unit_count.ensures, c.saturating_mul.ensures)
