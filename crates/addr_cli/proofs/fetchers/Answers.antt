use Rattle.std.proofs.Common.{rules, ◌∙◌, sym}
use Rattle.addr_cli.proofs.LoadLemmas.{asks_workers}
use Rattle.addr_cli.proofs.fetchers.Goals as goal

pub returns : goal.returns
returns c = λ folder workers script asks. c.in_ok-fetchers.ensures ∙ asks_workers c.args.words.now c.in-Some.request.folder.now folder c.in-Some.request.workers workers c.in-Some.request.script.now script c.in-Some.ensures asks
