use Rattle.std.proofs.Common.{◌∙◌}
use Rattle.addr_walks.specs.Rows.{LedTo}
use Rattle.addr_walks.proofs.FoundLemmas.{listed-size}
use Rattle.addr_walks.proofs.searching.Search.count.Goals as goal

pub returns-clause-count : goal.returns-clause-count
returns-clause-count c =
    let queue = c.spread.new.self.queue in
    let size = listed-size (LedTo c.args.rows.now c.args.seeds.now) _ queue.items c.spread.ensures.tracks c.in_ok-spread.ensures.found in
    (size.0, size.1, c.len.ensures ∙ (queue.ok.0 ∙ size.2))
