use Rattle.addr_catalog.proofs.AlikeLemmas.{reads_back}
use Rattle.addr_catalog.proofs.laws.written_rows_read_back.Goals as goal

pub returns : goal.returns
returns c = λ apart. reads_back c.args.locator.now c.are_rows.ensures c.requires.keyed.keys c.requires.again apart
