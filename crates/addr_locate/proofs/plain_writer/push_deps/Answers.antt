use Rattle.addr_locate.proofs.PlainTextLemmas.{put_deps}
use Rattle.addr_locate.proofs.plain_writer.push_deps.Goals as goal

pub returns : goal.returns
returns c = put_deps c.args.deps.now c.in-Some.others.now c.in-Some.first.now _ _ _ c.in-Some.ensures.cases.0 c.in_ok-write.ensures.bytes c.in_ok-push_more_deps.ensures
