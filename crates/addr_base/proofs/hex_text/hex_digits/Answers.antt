use Rattle.addr_base.proofs.HexLemmas.{hex_ascii}
use Rattle.addr_base.proofs.hex_text.hex_digits.Goals as goal

pub returns-clause-ascii : goal.returns-clause-ascii
returns-clause-ascii c = rw c.in-Ok.ensures.written (hex_ascii c.args.bytes)
