use Rattle.addr_http.proofs.PathLemmas.{behind_some, behind_none, behind_text}
use Rattle.addr_http.proofs.requests.behind.Goals as goal

pub returns-in-Some-clause-value : goal.returns-in-Some-clause-value
returns-in-Some-clause-value c = behind_some c.args.text.now c.args.word.now c.in-Some.rest.now c.in-Some.ensures.found

pub returns-in-Some-clause-text : goal.returns-in-Some-clause-text
returns-in-Some-clause-text c = behind_text c.args.text.now c.args.word.now c.in-Some.rest.now c.requires.ascii c.in-Some.ensures.found

pub returns-in-None-clause-value : goal.returns-in-None-clause-value
returns-in-None-clause-value c = behind_none c.args.text.now c.args.word.now c.in-None.ensures.found
