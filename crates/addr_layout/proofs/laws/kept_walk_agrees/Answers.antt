use Rattle.std.proofs.Common.{◌≡◌, true}
use Rattle.addr_layout.proofs.KeptLemmas.{kept-walk-agrees}
use Rattle.addr_layout.proofs.laws.kept_walk_agrees.Goals as goal

pub returns : goal.returns
returns c = λ holds homes names. kept-walk-agrees c.args.project.now c.args.plan.now (λ b g. holds b g ≡ true) (λ b x y d. homes b x y d ≡ true) (λ b d. names b d ≡ true)
