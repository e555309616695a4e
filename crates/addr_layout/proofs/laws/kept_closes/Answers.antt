use Rattle.addr_layout.proofs.KeptLemmas.{kept-closes}
use Rattle.addr_layout.proofs.laws.kept_closes.Goals as goal

pub returns : goal.returns
returns c = kept-closes c.args.project.now c.args.plan.now c.args.layout.now c.args.rows.now c.requires.laid c.requires.rows
