use Rattle.std.proofs.Common.{arith}
use Rattle.addr_tables.proofs.FieldLemmas.{fields_front}
use Rattle.addr_tables.proofs.sections.fields_first.Goals as goal

pub returns-clause-front : goal.returns-clause-front
returns-clause-front c = fields_front c.args.numbers.now (omega arith)
