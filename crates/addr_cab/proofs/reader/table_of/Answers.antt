use Rattle.std.proofs.Common.{arith}
use Rattle.addr_cab.proofs.TableLaws.{text_found}
use Rattle.addr_cab.proofs.reader.table_of.Goals as goal

pub returns-clause-text : goal.returns-clause-text
returns-clause-text c = text_found c.args.room c.args.table.now (λ rows. rows.items) c.tested.result (λ i. omega (arith, c.type_inv.table i)) c.tested.ensures.exact
