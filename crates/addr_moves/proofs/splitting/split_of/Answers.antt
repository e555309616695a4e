use Rattle.addr_moves.proofs.KeptRowLemmas.{split-from}
use Rattle.addr_moves.proofs.splitting.split_of.Goals as goal

pub returns-clause-split : goal.returns-clause-split
returns-clause-split c = λ was r now are. split-from c.args.fates.now c.args.state.now c.args.project.now was r now are c.in_ok-kept.kept c.in_ok-moved.moved c.in_ok-kept.ensures c.in_ok-moved.ensures

pub returns-clause-once : goal.returns-clause-once
returns-clause-once c = c.in_ok-kept.ensures.once
