use Rattle.std.proofs.Common.{arith}
use Rattle.addr_keys.proofs.SizeLemmas.{json-size}
use Rattle.addr_keys.proofs.sizes.json_size.Goals as goal

pub returns : goal.returns
returns c = omega (arith, json-size c.args.assembly.now c.args.class.now c.args.text.now, c.saturating_add-names.ensures, c.utf16_size.ensures, c.saturating_add.ensures, c.saturating_add-2.ensures)
