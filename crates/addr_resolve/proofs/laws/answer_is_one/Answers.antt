use Rattle.addr_resolve.proofs.AnswerLemmas.{one-answer}
use Rattle.addr_resolve.proofs.laws.answer_is_one.Goals as goal

pub returns : goal.returns
returns c = λ files folder key are x y first second of-x of-y. one-answer c.bundle_laws.ensures.meant c.table_laws.ensures.one c.table_laws.ensures.never files folder are key x y first second of-x of-y
