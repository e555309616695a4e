use Rattle.addr_check.proofs.OneLemmas.{one-answer}
use Rattle.addr_check.proofs.laws.check_is_one.Goals as goal

pub returns : goal.returns
returns c = λ files folder are. one-answer files folder (c.folder_has_one_answer.ensures files folder) (c.held_is_one.ensures.shows files folder are)
