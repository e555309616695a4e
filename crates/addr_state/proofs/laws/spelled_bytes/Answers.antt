use Rattle.addr_state.proofs.NameBytes.{text_spelled}
use Rattle.addr_state.proofs.laws.spelled_bytes.Goals as goal

pub returns : goal.returns
returns c = text_spelled c.args.text.now c.utf8.text
