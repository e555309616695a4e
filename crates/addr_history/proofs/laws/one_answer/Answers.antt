use Rattle.addr_history.proofs.OneAnswer.{one_reading, one_reading_of_all}
use Rattle.addr_history.proofs.laws.one_answer.Goals as goal

pub returns-clause-reads : goal.returns-clause-reads
returns-clause-reads c = one_reading

pub returns-clause-reads_all : goal.returns-clause-reads_all
returns-clause-reads_all c = one_reading_of_all
