use Rattle.std.proofs.Common.{length, refl}
use Rattle.addr_unityfs.proofs.TookLaws.{whole_read}
use Rattle.addr_unityfs.proofs.GateLaws.{told_is_bad, not_both}
use Rattle.addr_unityfs.proofs.arriving.BundleReader.finish.Goals as goal

pub returns-clause-exact : goal.returns-clause-exact
returns-clause-exact c = λ fed t.
    let len = (c.if-not-is_whole.ensures (length fed) t.count).0 refl in
    (len, c.short_digest-digest.ensures fed t.hash, whole_read c.args.self.total c.args.self.stage c.args.self.kept.items fed c.in_ok-read.read len c.args.self.staged t.kept c.in_ok-read.ensures.bad c.in_ok-read.ensures.read)

pub returns-in_err-read-clause-ok_told : goal.returns-in_err-read-clause-ok_told
returns-in_err-read-clause-ok_told c = λ fed e t early. absurd (not_both _ _ (c.in_err-read.ensures.bad e (told_is_bad c.args.self.total c.args.self.stage c.args.self.kept.items fed e t.kept c.args.self.staged early)))
