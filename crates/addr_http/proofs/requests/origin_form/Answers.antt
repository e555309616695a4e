use Rattle.addr_http.proofs.PathLemmas.{slash_text}
use Rattle.addr_http.proofs.requests.origin_form.Goals as goal

pub returns-in-None-place_of-clause-text : goal.returns-in-None-place_of-clause-text
returns-in-None-place_of-clause-text c = λ u. rw c.as_slice.ensures slash_text
