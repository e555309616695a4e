use Rattle.std.proofs.Common.{[], sym, subst}
use Rattle.addr_walks.specs.Marks.{Tracks}
use Rattle.addr_walks.proofs.MarkLemmas.{tracks-fresh}
use Rattle.addr_walks.proofs.marking.Marked.new.Goals as goal

pub returns-clause-tracks : goal.returns-clause-tracks
returns-clause-tracks c =
    let fresh = subst (λ marks. Tracks marks []) (sym (c.in_ok-vec.ensures.items_if_clones_equal (λ y same. same))) (tracks-fresh c.args.size) in
    subst (Tracks c.in_ok-vec.field-0.items) (sym c.new.ensures.items) fresh
