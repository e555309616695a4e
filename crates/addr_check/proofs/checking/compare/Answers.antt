use Rattle.addr_check.proofs.CheckLemmas.{compared-as, refused-told, unread-told}
use Rattle.addr_check.proofs.checking.compare.Goals as goal

pub returns-in_err-read-clause-compares : goal.returns-in_err-read-clause-compares
returns-in_err-read-clause-compares g c =
    unread-told c.args.folder.now (g.D.Depot.now c.args.depot.now).files c.in_err-read.field-0.0 c.from_residual.result c.in_err-read.ensures.reads c.from_residual.ensures.1

pub returns-in_err-compared-clause-compares : goal.returns-in_err-compared-clause-compares
returns-in_err-compared-clause-compares g c =
    refused-told c.args.folder.now (g.D.Depot.now c.args.depot.now).files c.in_ok-read.read.project c.in_ok-read.read.release c.in_err-compared.field-0.0 c.from_residual-in_err-compared.result
    c.in_ok-read.ensures.reads c.in_err-compared.ensures.refused c.from_residual-in_err-compared.ensures.1

pub returns-clause-compares : goal.returns-clause-compares
returns-clause-compares g c =
    compared-as c.args.folder.now (g.D.Depot.now c.args.depot.now).files c.in_ok-read.read.project c.in_ok-read.read.release c.in_ok-compared.compared c.in_ok-read.ensures.reads c.in_ok-compared.ensures.same
