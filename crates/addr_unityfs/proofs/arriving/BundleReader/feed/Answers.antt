use Rattle.std.proofs.Common.{length, sym, ap, ◌∙◌, length-append}
use Rattle.std.proofs.lemmas.Bool.{false≢true}
use Rattle.addr_unityfs.specs.Arriving.{count_of}
use Rattle.addr_unityfs.proofs.TookLaws.{kept_more}
use Rattle.addr_unityfs.proofs.GateLaws.{held_same, held_told}
use Rattle.addr_unityfs.proofs.arriving.BundleReader.feed.Goals as goal

pub returns-clause-took : goal.returns-clause-took
returns-clause-took c = λ fed t. record {
  hash = c.update.ensures fed t.hash;
  count = c.counted-self.ensures (length fed) t.count ∙ ap count_of (sym (length-append fed c.args.piece.now));
  kept = kept_more c.args.self.now.total c.args.self.now.stage c.in_ok-self.field-0 c.args.self.now.kept.items c.keep.new.kept.items fed c.args.piece.now c.args.self.now.staged c.in_ok-self.ensures.next c.in_ok-self.ensures.items t.kept;
}

pub returns-clause-held_told : goal.returns-clause-held_told
returns-clause-held_told c = λ fed e t early. held_same c.args.self.now.total c.args.self.now.stage c.args.self.now.kept.items c.keep.new.kept.items fed c.args.piece.now e t.kept c.args.self.now.staged c.in_ok-self.ensures.items early

pub returns-in_err-self-clause-ok_told : goal.returns-in_err-self-clause-ok_told
returns-in_err-self-clause-ok_told c = λ fed e t early. absurd (false≢true (c.in_err-self.ensures.ok_bad (held_told c.args.self.now.total c.args.self.now.stage c.args.self.now.kept.items fed e t.kept c.args.self.now.staged early)))
