use Rattle.addr_release.proofs.NameLemmas.{release-once, release-content}
use Rattle.addr_release.specs.Puts.{content_puts, puts_of}
use Rattle.addr_release.proofs.ContentLemmas.{catalogue-along}
use Rattle.addr_release.proofs.PutLemmas.{after-second, after-there, once-agree}
use Rattle.addr_release.proofs.puts.release_puts.Goals as goal

pub returns-clause-once : goal.returns-clause-once
returns-clause-once c = release-once

pub returns-clause-there : goal.returns-clause-there
returns-clause-there c = λ folder r old new named after. after-there (puts_of folder r) old new (once-agree (puts_of folder r) (release-once folder r named)) after

pub returns-clause-second : goal.returns-clause-second
returns-clause-second c = λ folder r old new later named after again. after-second (puts_of folder r) new later (after-there (puts_of folder r) old new (once-agree (puts_of folder r) (release-once folder r named)) after) again

pub returns-clause-content : goal.returns-clause-content
returns-clause-content c = release-content

pub returns-clause-catalogue : goal.returns-clause-catalogue
returns-clause-catalogue c = λ folder r named. catalogue-along folder (content_puts folder r) r.catalogue (release-content folder r named)
