use Rattle.addr_check.proofs.CheckLemmas.{held-told}
use Rattle.addr_check.proofs.checking.read_folder.Goals as goal

pub returns-in_err-release-clause-reads : goal.returns-in_err-release-clause-reads
returns-in_err-release-clause-reads g c =
    held-told (λ f. f.project) (λ f. f.release) c.args.folder.now (g.D.Depot.now c.args.depot.now).files (g.D.Depot.now c.read.new.depot).files c.in_ok-project.project c.in_err-release.field-0.0 c.from_residual-in_err-release.result
    c.in_ok-project.ensures.told c.in_ok-project.ensures.same.files c.in_err-release.ensures.answers c.from_residual-in_err-release.ensures.1
