use Rattle.std.proofs.Common.{◌∙◌, sym}
use Rattle.addr_unityfs.proofs.TookLaws.{early_exact, early_first}
use Rattle.addr_unityfs.proofs.GateLaws.{told_named}
use Rattle.addr_unityfs.proofs.arriving.BundleReader.early.Goals as goal

pub returns-clause-exact : goal.returns-clause-exact
returns-clause-exact c = λ fed t. c.fault.ensures ∙ early_exact c.args.self.now.total c.args.self.now.stage c.args.self.now.kept.items fed t.kept c.args.self.now.staged

pub returns-clause-first : goal.returns-clause-first
returns-clause-first c = λ fed more e t told len. early_first c.args.self.now.total c.args.self.now.stage c.args.self.now.kept.items fed more e t.kept c.args.self.now.staged (sym c.fault.ensures ∙ told) len

pub returns-clause-named : goal.returns-clause-named
returns-clause-named c = λ same. told_named c.args.self.now.total c.args.self.now.stage c.args.self.now.kept.items c.args.self.now.few c.args.self.now.staged (sym c.fault.ensures ∙ same)
