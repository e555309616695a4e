use Rattle.addr_release.specs.Puts.{content_puts}
use Rattle.addr_release.proofs.ContentLemmas.{keeps-free}
use Rattle.addr_release.proofs.TestLemmas.{none-free, none-stays, test-stays}
use Rattle.addr_release.proofs.puts.release_tests.Goals as goal

pub returns-clause-free : goal.returns-clause-free
returns-clause-free c = λ folder r files named none. none-free folder r files named none

pub returns-clause-tested : goal.returns-clause-tested
returns-clause-tested c = λ folder r k old new test named after here late. test-stays folder r named k old new test after here late

pub returns-clause-untaken : goal.returns-clause-untaken
returns-clause-untaken c = λ folder r k old new named none after. none-stays folder r named k old new none after

pub returns-clause-keeps : goal.returns-clause-keeps
returns-clause-keeps c = λ folder r k old new named none after. keeps-free folder (content_puts folder r) r.catalogue k old new (none-free folder r old named none) after
