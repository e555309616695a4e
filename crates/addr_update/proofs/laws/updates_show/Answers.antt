use Rattle.addr_update.proofs.HistoryLemmas.{updates-show}
use Rattle.addr_update.proofs.laws.updates_show.Goals as goal

pub returns : goal.returns
returns c = updates-show c.state_laws.ensures.sound (λ files folder p q first second. (c.folder_has_one_answer.ensures files folder).one_project p q first second)
