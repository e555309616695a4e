use Rattle.addr_unityfs.proofs.Promises.{is_bundle, nodes_inside, bundle_or_fault, not_both, one_bundle}
use Rattle.addr_unityfs.proofs.NamedLaws.{bundle_named}
use Rattle.addr_unityfs.proofs.WrittenLaws.{reads_back, size_is, written_size}
use Rattle.addr_unityfs.proofs.laws.bundle_laws.Goals as goal

pub returns-clause-meant : goal.returns-clause-meant
returns-clause-meant c = is_bundle

pub returns-clause-one : goal.returns-clause-one
returns-clause-one c = bundle_or_fault

pub returns-clause-never : goal.returns-clause-never
returns-clause-never c = not_both

pub returns-clause-own : goal.returns-clause-own
returns-clause-own c = one_bundle

pub returns-clause-named : goal.returns-clause-named
returns-clause-named c = bundle_named

pub returns-clause-inside : goal.returns-clause-inside
returns-clause-inside c = nodes_inside

pub returns-clause-back : goal.returns-clause-back
returns-clause-back c = reads_back

pub returns-clause-size : goal.returns-clause-size
returns-clause-size c = λ player nodes. (written_size player nodes, size_is player nodes)
