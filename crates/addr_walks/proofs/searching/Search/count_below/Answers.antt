use Rattle.std.proofs.Common.{sym, ◌∙◌, ap, nat_lt, List, ℕ}
use Rattle.std.specs.List.{count_by}
use Rattle.addr_walks.specs.Rows.{LedTo}
use Rattle.addr_walks.proofs.FoundLemmas.{listed-below-size}
use Rattle.addr_walks.proofs.searching.Search.count_below.Goals as goal

pub returns-clause-count : goal.returns-clause-count
returns-clause-count c =
    let queue = c.spread.new.self.queue in
    let size = listed-below-size (LedTo c.args.rows.now c.args.seeds.now) c.args.bound _ queue.items c.spread.ensures.tracks c.in_ok-spread.ensures.found in
    (size.0, size.1, c.count_below.ensures ∙ (ap (λ (xs : List ℕ). count_by (λ n. nat_lt n c.args.bound) xs) c.as_slice.ensures.value ∙ size.2))
