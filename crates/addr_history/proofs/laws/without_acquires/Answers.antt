use Rattle.addr_history.proofs.Counting.{one_or_none}
use Rattle.addr_history.proofs.laws.without_acquires.Goals as goal

pub returns : goal.returns
returns c = one_or_none
