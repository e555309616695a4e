use Rattle.addr_held.proofs.OneLemmas.{one-answer, one-shown}
use Rattle.addr_held.proofs.laws.held_is_one.Goals as goal

pub returns-clause-answers : goal.returns-clause-answers
returns-clause-answers c = λ files folder are. one-answer c.bundle_laws.ensures.meant c.table_laws.ensures.one c.table_laws.ensures.never files folder are

pub returns-clause-shows : goal.returns-clause-shows
returns-clause-shows c = λ files folder are. one-shown c.bundle_laws.ensures.meant c.table_laws.ensures.one c.table_laws.ensures.never files folder are
