use Rattle.addr_layout.proofs.LedLemmas.{all-led}
use Rattle.addr_layout.proofs.laws.references_are_led.Goals as goal

pub returns : goal.returns
returns c = all-led c.args.project.now c.args.plan.now c.kept.ensures c.args.layout.now c.requires
