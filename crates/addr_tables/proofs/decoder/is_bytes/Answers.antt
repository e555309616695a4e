use Rattle.std.proofs.Common.{arith}
use Rattle.addr_tables.proofs.decoder.is_bytes.Goals as goal

pub returns : goal.returns
returns c = λ i. omega (arith, c.type_inv.text i)
