use Rattle.std.proofs.Common.{ℕ, List, [], length, get_or, ap, ◌∙◌, arith}
use Rattle.std.proofs.lemmas.List.{get_or_default}
use Rattle.std.proofs.lemmas.List.Elements.{Contains-get_or}
use Rattle.addr_layout.proofs.RankLemmas.{read-at, row-read}
use Rattle.addr_layout.proofs.graph.Graph.seeds_at.Goals as goal

pub returns-clause-value : goal.returns-clause-value
returns-clause-value c =
    let graph = c.args.self.now in
    let row = c.as_slice-2.result.now in
    let read = row-read c.as_slice.result.now c.args.b row c.index-as_slice-b.result c.as_slice-2.ensures c.index-as_slice-b.is in
    read ∙ (ap (λ (rows : List (List ℕ)). get_or rows c.args.b row) c.as_slice.ensures ∙ get_or_default graph.seeds c.args.b row [] c.requires.within)

pub returns-clause-below : goal.returns-clause-below
returns-clause-below c = λ k d within.
    let graph = c.args.self.now in
    let row = c.as_slice-2.result.now in
    let read = row-read c.as_slice.result.now c.args.b row c.index-as_slice-b.result c.as_slice-2.ensures c.index-as_slice-b.is in
    let at = read-at c.as_slice.result.now graph.seeds c.args.b row c.as_slice.ensures (let same = ap length c.as_slice.ensures in let inside = c.requires.within in omega arith) read in
    let small = c.requires.sized.seeds_below.each c.args.b (get_or row k d) (row, at, Contains-get_or row k d within) in
    let long = c.requires.sized.within in
    omega arith
