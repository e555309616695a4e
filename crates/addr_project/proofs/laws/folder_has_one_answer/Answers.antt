use Rattle.addr_project.proofs.AnswerLemmas.{one_answer}
use Rattle.addr_project.proofs.laws.folder_has_one_answer.Goals as goal

pub returns : goal.returns
returns c = one_answer
