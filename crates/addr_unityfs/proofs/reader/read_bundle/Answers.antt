use Rattle.std.proofs.Common.{rules, arith}
use Rattle.addr_unityfs.specs.Faults.{bundle_read}
use Rattle.addr_unityfs.proofs.Answered.{answers}
use Rattle.addr_unityfs.proofs.Promises.{is_bundle, found, only, found_inside}
use Rattle.addr_unityfs.proofs.NamedLaws.{bundle_named}
use Rattle.addr_unityfs.proofs.reader.read_bundle.Goals as goal

pub returns-clause-found : goal.returns-clause-found
returns-clause-found c = found c.args.file.now c.bundle_of.result (λ i. omega (arith, c.type_inv.file i)) c.bundle_of.ensures.read

pub returns-clause-inside : goal.returns-clause-inside
returns-clause-inside c = found_inside c.args.file.now c.bundle_of.result (λ i. omega (arith, c.type_inv.file i)) c.bundle_of.ensures.read

pub returns-clause-exact : goal.returns-clause-exact
returns-clause-exact c = answers c.bundle_of.result (bundle_read c.args.file.now) c.bundle_of.ensures.read

pub returns-clause-only : goal.returns-clause-only
returns-clause-only c = λ b held. only c.args.file.now c.bundle_of.result b (λ i. omega (arith, c.type_inv.file i)) (search rules) (answers c.bundle_of.result (bundle_read c.args.file.now) c.bundle_of.ensures.read) held

pub returns-clause-law : goal.returns-clause-law
returns-clause-law c = λ b. is_bundle c.args.file.now b (λ i. omega (arith, c.type_inv.file i)) (search rules)

pub returns-clause-named : goal.returns-clause-named
returns-clause-named c = bundle_named c.args.file.now
