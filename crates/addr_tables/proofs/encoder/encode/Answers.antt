use Rattle.addr_tables.proofs.BackLemmas.{stand_of, again_of}
use Rattle.addr_tables.proofs.encoder.encode.Goals as goal

pub returns-clause-stand : goal.returns-clause-stand
returns-clause-stand c =
    stand_of c.args.rows.now c.args.internals c.args.providers c.args.kinds c.tables_of.result c.requires c.tables_of.ensures.forms c.tables_of.ensures.good c.tables_of.ensures.written

pub returns-clause-again : goal.returns-clause-again
returns-clause-again c =
    again_of c.args.rows.now c.tables_of.result
    (stand_of c.args.rows.now c.args.internals c.args.providers c.args.kinds c.tables_of.result c.requires c.tables_of.ensures.forms c.tables_of.ensures.good c.tables_of.ensures.written)
