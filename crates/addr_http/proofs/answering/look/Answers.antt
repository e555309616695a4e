use Rattle.std.proofs.Common.{rules}
use Rattle.addr_http.proofs.AnswerLemmas.{file_reply}
use Rattle.addr_http.proofs.answering.look.Goals as goal

pub returns-in-Ok-Some-clause-told : goal.returns-in-Ok-Some-clause-told
returns-in-Ok-Some-clause-told g c =
    let content = rw c.in-Ok-Some.field-0-is at c.in-Ok-Some.ensures.content in
    file_reply c.args.folder.now c.args.name.now c.as_str.result.now c.in-Ok-Some.bytes.items c.from_vec.result (g.D.Depot.now c.args.depot.now).files (g.D.Depot.now c.args.depot.now).faults (g.D.Depot.now c.read.new.self).faults c.args.head_only content (search (rules)) c.from_vec.ensures
