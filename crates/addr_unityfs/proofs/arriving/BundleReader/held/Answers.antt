use Rattle.std.proofs.Common.{◌≡◌, length, rules, ◌∙◌}
use Rattle.addr_unityfs.proofs.GateLaws.{all_kept}
use Rattle.addr_unityfs.proofs.arriving.BundleReader.held.Goals as goal

pub returns-clause-all : goal.returns-clause-all
returns-clause-all c = λ fed t none.
    let value : c.len.result ≡ length c.args.self.now.kept.items = search rules in
    value ∙ all_kept c.args.self.now.total c.args.self.now.stage c.args.self.now.kept.items fed t.kept c.args.self.now.staged none
