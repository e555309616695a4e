use Rattle.std.proofs.Common.{ℕ, List, Option, length, map, sym, ap, subst, ◌∙◌}
use Rattle.std.specs.List.{filter}
use Rattle.addr_base.specs.declared.ids.Guid.{Guid}
use Rattle.addr_walks.specs.Places.{EachAt}
use Rattle.addr_walks.specs.Rows.{AreBelow}
use Rattle.addr_layout.specs.Graph.{AreBeside, AreRefRanks, AreSeeds, is_free}
use Rattle.addr_layout.specs.Members.{IsNumbered}
use Rattle.addr_layout.specs.Owners.{AreOwners}
use Rattle.addr_layout.proofs.GraphLemmas.{seeds-below, bundles-are, sized}
use Rattle.addr_layout.proofs.graph.graph_of.Goals as goal

pub owners_of-requires-clause-below : goal.owners_of-requires-clause-below
owners_of-requires-clause-below c =
    let below = seeds-below c.args.project.now c.args.plan.now c.as_slice-sorted.result.now c.in_ok-seeds.seeds c.in_ok-seeds.ensures.seeds in
    let here = subst (λ (rows : List (List ℕ)). AreBelow rows (length c.as_slice-sorted.result.now)) (sym c.as_slice-2.ensures) below in
    here

pub returns-clause-graph : goal.returns-clause-graph
returns-clause-graph c =
    let p = c.args.project.now in
    let plan = c.args.plan.now in
    let same = c.as_slice-sorted.ensures in
    let seeds = subst (λ (guids : List Guid). EachAt (AreSeeds p plan guids) c.in_ok-seeds.seeds) same c.in_ok-seeds.ensures.seeds in
    let owned = subst (λ (rows : List (List ℕ)). AreOwners rows c.in_ok-bundles.bundles) c.as_slice-2.ensures c.in_ok-bundles.ensures.owners in
    record {
      guids = c.in_ok-guids.ensures;
      numbers = subst (λ (guids : List Guid). AreBeside guids (λ g n. IsNumbered p n g) c.in_ok-numbers.numbers) same c.in_ok-numbers.ensures;
      refs = subst (λ (guids : List Guid). AreBeside guids (AreRefRanks p guids) c.in_ok-refs.refs) same c.in_ok-refs.ensures;
      as_many = c.in_ok-seeds.ensures.as_many;
      seeds = seeds;
      bundles = bundles-are p plan c.in_ok-guids.guids c.in_ok-seeds.seeds c.in_ok-bundles.bundles c.in_ok-guids.ensures c.requires.shared c.in_ok-seeds.ensures.as_many seeds (c.in_ok-bundles.ensures.size ∙ ap length same) owned;
      within = c.in_ok-within.ensures ∙ (ap (λ (rows : List (List ℕ)). map (filter (is_free c.as_slice-4.result.now)) rows) c.as_slice-3.ensures
          ∙ ap (λ (bundles : List (Option ℕ)). map (filter (is_free bundles)) c.in_ok-refs.refs) c.as_slice-4.ensures);
    }

pub returns-clause-sized : goal.returns-clause-sized
returns-clause-sized c = sized c.args.project.now c.args.plan.now _ (returns-clause-graph c)
