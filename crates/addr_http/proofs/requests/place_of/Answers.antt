use Rattle.addr_http.proofs.PathLemmas.{text_before, text_from}
use Rattle.addr_http.proofs.requests.place_of.Goals as goal

pub returns-clause-before : goal.returns-clause-before
returns-clause-before c = text_before c.args.text.now c.args.mark c.first_of.result c.first_of.ensures

pub returns-clause-from : goal.returns-clause-from
returns-clause-from c = text_from c.args.text.now c.args.mark c.first_of.result c.first_of.ensures
