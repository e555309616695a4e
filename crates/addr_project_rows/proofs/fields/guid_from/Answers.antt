use Rattle.addr_project_rows.proofs.GuidLemmas.{parsed}
use Rattle.addr_project_rows.proofs.fields.guid_from.Goals as goal

pub returns : goal.returns
returns c = parsed c.args.text.now c.parse.result c.parse.ensures.reads
