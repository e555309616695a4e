use Rattle.std.proofs.Common.{sym, subst}
use Rattle.addr_project.specs.Kept.{IsKept}
use Rattle.addr_project.specs.Model.{Project}
use Rattle.addr_release.proofs.FaithfulLemmas.{has-assets}
use Rattle.addr_update.specs.Laws.{CleanStays}
use Rattle.addr_update.proofs.CleanLemmas.{clean-same, clean-led}
use Rattle.addr_update.proofs.laws.clean_stays.Goals as goal

clean : (p : Project) → IsKept p → CleanStays p
clean p kept u is a m old way d =
    let assets = has-assets u.project (subst IsKept (sym is) kept) in
    (clean-same u assets a m old way d, clean-led u assets a m old way d)

pub returns : goal.returns
returns c = clean c.args.project.now c.kept.ensures
