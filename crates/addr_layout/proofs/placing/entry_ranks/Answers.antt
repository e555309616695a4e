use Rattle.std.proofs.Common.{◌+◌, get_or, take, sym, subst}
use Rattle.std.proofs.lemmas.List.{get_or_default}
use Rattle.std.specs.List.{AllZip}
use Rattle.addr_walks.proofs.Zips.{zip-more}
use Rattle.addr_layout.specs.Graph.{IsEntryRank}
use Rattle.addr_layout.proofs.placing.entry_ranks.Goals as goal

pub loop-x-preserved : goal.loop-x-preserved
loop-x-preserved c =
    let entries = c.args.entries.now in
    let i = c.loop-x.x-index in
    let fits = IsEntryRank c.args.project.now c.args.guids.now in
    let more = zip-more fits entries c.loop-x.ranks i _ c.rank_of.result c.loop-x-test.true (get_or_default entries i 0 (get_or entries i 0) c.loop-x-test.true) c.loop-x.invariant
    (c.entry_guid-guid.result, c.entry_guid-guid.ensures, c.rank_of.ensures) in
    subst (AllZip fits (take (i + 1) entries)) (sym c.in_ok-push.ensures.ok) more
