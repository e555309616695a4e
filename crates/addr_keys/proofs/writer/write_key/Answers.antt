use Rattle.addr_keys.proofs.PlaceLemmas.{written_reads}
use Rattle.addr_keys.proofs.writer.write_key.Goals as goal

pub returns-in-Ok-clause-again : goal.returns-in-Ok-clause-again
returns-in-Ok-clause-again c = written_reads c.args.into.now.items c.put_key.new.into.items c.args.key.now c.in-Ok.ensures.written c.in-Ok.ensures.form
