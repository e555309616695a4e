use Rattle.addr_project.specs.Kept.{IsKept}
use Rattle.addr_project.specs.Model.{Project}
use Rattle.addr_update.specs.Fresh.{FreshKeeps}
use Rattle.addr_update.proofs.FreshLemmas.{fresh-keeps}
use Rattle.addr_update.proofs.laws.fresh_keeps.Goals as goal

keeps : (p : Project) → IsKept p → FreshKeeps p
keeps p kept plan placed apart unmoved r is old files folder none after = fresh-keeps p kept plan placed r is folder old files none after apart unmoved

pub returns : goal.returns
returns c = keeps c.args.project.now c.kept.ensures
