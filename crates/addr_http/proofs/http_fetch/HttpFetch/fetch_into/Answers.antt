use Rattle.std.proofs.Common.{ap}
use Rattle.addr_http.specs.Fetching.{HttpNow}
use Rattle.addr_http.specs.Targets.{address_in}
use Rattle.addr_http.proofs.FetchLemmas.{counts_by, fetches, fetches_none, not_asked}
use Rattle.addr_http.proofs.http_fetch.HttpFetch.fetch_into.Goals as goal

pub returns-in-None-clause-fetches : goal.returns-in-None-clause-fetches
returns-in-None-clause-fetches g c =
    let none = not_asked g.P.Pour.took c.args.limit (address_in c.args.internal_id.now) c.args.into.now c.asked.new.into (g.C.Connect.now c.args.self.now.conn) (g.C.Connect.now c.asked.new.conn) c.in-None.ensures.told in
    let same = c.in-None.ensures.unasked none in
    fetches_none g.P.Pour.took c.args.limit (address_in c.args.internal_id.now) c.args.into.now c.asked.new.into _ _ none same.1
    (ap (λ conn. let now : HttpNow = record { conn = g.C.Connect.now conn; own = c.args.self.now.own } in now) same.0)

pub returns-in-Some-clause-fetches : goal.returns-in-Some-clause-fetches
returns-in-Some-clause-fetches g c =
    fetches g.P.Pour.took c.args.limit (address_in c.args.internal_id.now) c.in-Some.outcome c.answer_of.result c.args.into.now c.asked.new.into _ _ c.in-Some.ensures.told c.answer_of.ensures.told

pub returns-in-Some-clause-count : goal.returns-in-Some-clause-count
returns-in-Some-clause-count g c =
    counts_by c.in-Some.outcome c.answer_of.result _ _ _ _ c.count.result c.count.ensures c.in-Some.ensures.cause c.answer_of.ensures.told c.answer_of.ensures.fault
