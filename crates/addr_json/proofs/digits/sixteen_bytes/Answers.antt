use Rattle.std.proofs.Common.{◌∙◌, ap}
use Rattle.addr_json.specs.Members.{bytes_from}
use Rattle.addr_json.proofs.DigitLemmas.{bytes_read}
use Rattle.addr_json.proofs.digits.sixteen_bytes.Goals as goal

pub returns : goal.returns
returns c = bytes_read _ _ c.parse_hex.ensures.reads ∙ ap bytes_from c.as_bytes.ensures.value
