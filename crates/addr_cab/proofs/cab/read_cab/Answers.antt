use Rattle.std.proofs.Common.{arith}
use Rattle.addr_cab.proofs.HoldLaws.{all_found, only, first_fault}
use Rattle.addr_cab.proofs.TableLaws.{is_read}
use Rattle.addr_cab.proofs.cab.read_cab.Goals as goal

pub returns-clause-found : goal.returns-clause-found
returns-clause-found c = all_found c.args.file.items c.args.bundle.now c.cab_of.result c.requires c.cab_of.ensures.exact c.cab_of.ensures.text

pub returns-clause-only : goal.returns-clause-only
returns-clause-only c = λ name objects held.
    only c.args.file.items c.args.bundle.now c.cab_of.result name objects (omega (arith, c.args.file.small, c.args.file.ok)) c.requires c.cab_of.ensures.exact held

pub returns-clause-law : goal.returns-clause-law
returns-clause-law c = is_read

pub returns-clause-fault : goal.returns-clause-fault
returns-clause-fault c = λ e fault. first_fault c.args.file.items c.args.bundle.now c.cab_of.result e c.cab_of.ensures.exact fault
