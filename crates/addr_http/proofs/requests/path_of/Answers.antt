use Rattle.addr_http.proofs.PathLemmas.{path_none}
use Rattle.addr_http.proofs.requests.path_of.Goals as goal

pub returns-in-None-clause-value : goal.returns-in-None-clause-value
returns-in-None-clause-value c = path_none c.args.target.now c.origin_form-path.result.now c.origin_form-path.ensures.value c.in-None.ensures.value
