use Rattle.std.proofs.Common.{arith}
use Rattle.addr_fields.proofs.NumberLemmas.{same_number}
use Rattle.addr_fields.proofs.fields.number.Goals as goal

pub returns-else-n : goal.returns-else-n
returns-else-n c = λ m is. absurd (omega (arith, same_number _ m _ (omega (arith, is.0), is.1) c.in-Some.ensures))
