use Rattle.std.proofs.Common.{ℕ, ◌+◌, List, length, get_or, sym, ap, subst, ◌∙◌}
use Rattle.std.proofs.lemmas.List.{length_push}
use Rattle.std.proofs.lemmas.List.Elements.{Contains-get_or}
use Rattle.std.specs.List.{AllZip, Contains}
use Rattle.addr_walks.specs.Places.{EachAt}
use Rattle.addr_walks.proofs.Lists.{EachAt-push}
use Rattle.addr_layout.specs.Graph.{AreSeeds, IsEntryRank}
use Rattle.addr_layout.proofs.RankLemmas.{read-at}
use Rattle.addr_layout.proofs.placing.seeds_of.Goals as goal

pub entry_ranks-requires-clause-within : goal.entry_ranks-requires-clause-within
entry_ranks-requires-clause-within c = λ k d within.
    let bundle = c.bundle-item.result in
    let at = read-at c.as_slice-bundle-items.result.now c.args.plan.now.bundles c.loop-bundle.bundle-index bundle c.as_slice-bundle-items.ensures c.loop-bundle-test.true c.bundle-item.is in
    let here = subst (λ (xs : List ℕ). Contains xs (get_or c.as_slice.result.now k d)) c.as_slice.ensures (Contains-get_or c.as_slice.result.now k d within) in
    c.requires.shared.entries c.loop-bundle.bundle-index (get_or c.as_slice.result.now k d) (bundle, at, here)

pub loop-bundle-preserved : goal.loop-bundle-preserved
loop-bundle-preserved c =
    let p = c.args.project.now in
    let plan = c.args.plan.now in
    let guids = c.args.guids.now in
    let seeds = c.loop-bundle.seeds in
    let i = c.loop-bundle.bundle-index in
    let bundle = c.bundle-item.result in
    let ranks = c.in_ok-entry_ranks.field-0 in
    let at = read-at c.as_slice-bundle-items.result.now plan.bundles i bundle c.as_slice-bundle-items.ensures c.loop-bundle-test.true c.bundle-item.is in
    let zip = subst (λ (xs : List ℕ). AllZip (IsEntryRank p guids) xs ranks) c.as_slice.ensures c.in_ok-entry_ranks.ensures in
    let here = subst (λ b. AreSeeds p plan guids b ranks) (sym c.loop-bundle.invariant.as_many) (bundle, at, zip) in
    record {
      as_many = ap length c.in_ok-push.ensures.ok ∙ (length_push seeds ranks ∙ ap (λ n. n + 1) c.loop-bundle.invariant.as_many);
      seeds = subst (EachAt (AreSeeds p plan guids)) (sym c.in_ok-push.ensures.ok) (EachAt-push (AreSeeds p plan guids) seeds ranks c.loop-bundle.invariant.seeds here);
    }
