use Rattle.addr_release.proofs.NameLemmas.{bundle-puts-once, bundles-content}
use Rattle.addr_release.proofs.OwnLemmas.{made-named}
use Rattle.addr_release.proofs.TestLemmas.{bundles-free}
use Rattle.addr_release.proofs.puts.bundle_puts.Goals as goal

pub returns-clause-named : goal.returns-clause-named
returns-clause-named c = made-named

pub returns-clause-once : goal.returns-clause-once
returns-clause-once c = bundle-puts-once

pub returns-clause-content : goal.returns-clause-content
returns-clause-content c = bundles-content

pub returns-clause-free : goal.returns-clause-free
returns-clause-free c = bundles-free
