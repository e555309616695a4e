use Rattle.std.proofs.Common.{Result, subst}
use Rattle.addr_tables.specs.declared.rows.Rows.{Rows}
use Rattle.addr_tables.specs.declared.error.TableErr.{TableErr}
use Rattle.addr_tables.specs.declared.error.TableErr.TheVariants.{NoMemory}
use Rattle.addr_reading.specs.Gives.{Gives}
use Rattle.addr_reading.proofs.StepLaws.{if_gives}
use Rattle.addr_tables.specs.Rows.{StandFor}
use Rattle.addr_tables.proofs.WholeLemmas.{is_found, is_read}
use Rattle.addr_tables.proofs.NamedLemmas.{rows_named}
use Rattle.addr_tables.proofs.decoder.decode.Goals as goal

pub returns-clause-found : goal.returns-clause-found
returns-clause-found c = if_gives NoMemory (λ r. r) (StandFor c.args.tables.now) c.rows_of.result _ (λ rows. is_found c.args.tables.now rows c.are_texts.ensures) c.rows_of.ensures

pub returns-clause-only : goal.returns-clause-only
returns-clause-only c = λ rows is. subst (λ (x : Result Rows TableErr). Gives NoMemory (λ r. r) c.rows_of.result x) (is_read c.args.tables.now rows is) c.rows_of.ensures

pub returns-clause-named : goal.returns-clause-named
returns-clause-named c = rows_named c.args.tables.now

pub returns-clause-law : goal.returns-clause-law
returns-clause-law c = λ rows. (is_read c.args.tables.now rows, is_found c.args.tables.now rows c.are_texts.ensures)
