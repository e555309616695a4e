use Rattle.addr_reading.proofs.StepLaws.{is_decided, not_both}
use Rattle.addr_tables.specs.Faults.{rows_read}
use Rattle.addr_tables.specs.declared.error.TableErr.TheVariants.{NoMemory}
use Rattle.addr_tables.proofs.NamedLemmas.{rows_named}
use Rattle.addr_tables.proofs.WholeLemmas.{is_found, is_read}
use Rattle.addr_tables.proofs.laws.table_laws.Goals as goal

pub returns-clause-either : goal.returns-clause-either
returns-clause-either c = λ tables. is_decided NoMemory (rows_read tables) (rows_named tables)

pub returns-clause-read : goal.returns-clause-read
returns-clause-read c = is_read

pub returns-clause-stand : goal.returns-clause-stand
returns-clause-stand c = is_found

pub returns-clause-apart : goal.returns-clause-apart
returns-clause-apart c = λ tables rows e is. not_both (rows_read tables) rows e (is_read tables rows is)
