use Rattle.std.proofs.Common.{◌∙◌, ap, sym, List, ℕ}
use Rattle.addr_http.specs.Targets.{address_in}
use Rattle.addr_http.proofs.FetchLemmas.{asked_at}
use Rattle.addr_http.proofs.http_fetch.asked.Goals as goal

pub returns-in-Some-clause-told : goal.returns-in-Some-clause-told
returns-in-Some-clause-told g c =
    asked_at g.P.Pour.took c.args.limit (address_in c.args.id.now) c.in-Some.target.host.now c.in-Some.target.path.now c.as_text.result.now c.as_text-in-Some.result.now c.in-Some.target.port c.ask_at-outcome.result
    c.args.into.now c.ask_at-outcome.new.into (g.C.Connect.now c.args.conn.now) (g.C.Connect.now c.ask_at-outcome.new.conn) (g.C.Connect.now c.shut.new.self)
    (ap (λ (t : List ℕ). address_in t) (sym c.as_bytes.ensures.value) ∙ c.in-Some.ensures.value) c.as_text.ensures c.as_text-in-Some.ensures c.shut.ensures c.ask_at-outcome.ensures.told
