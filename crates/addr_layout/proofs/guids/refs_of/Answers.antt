use Rattle.std.proofs.Common.{◌≡◌, ℕ, ◌+◌, ◌<◌, List, length, get_or, Some, sym, ap, subst, ◌∙◌, arith}
use Rattle.std.proofs.lemmas.List.{length_push}
use Rattle.std.proofs.lemmas.List.Elements.{Contains-get_or}
use Rattle.std.specs.List.{Contains, slice_get}
use Rattle.addr_base.specs.declared.ids.Guid.{Guid}
use Rattle.addr_project.specs.declared.model.Asset.{Asset}
use Rattle.addr_walks.specs.Places.{EachAt}
use Rattle.addr_layout.specs.Graph.{AreRanks, AreRefRanks}
use Rattle.addr_walks.proofs.Lists.{Contains-slice_get}
use Rattle.addr_layout.proofs.RankLemmas.{beside-at, number-below, refs-here, asset-read, refs-more}
use Rattle.addr_layout.proofs.guids.refs_of.Goals as goal

pub bounds-assets-n : goal.bounds-assets-n
bounds-assets-n c =
    let at = beside-at c.args.guids.now _ c.args.numbers.now c.loop-n.n-index 0 c.requires.numbers c.loop-n-test.true in
    let below = number-below c.args.project.now _ at.0 at.2 in
    let same = ap length c.assets-assets.ensures in
    omega arith

pub ranks_of-requires-clause-here : goal.ranks_of-requires-clause-here
ranks_of-requires-clause-here c = λ k d within.
    let p = c.args.project.now in
    let guids = c.args.guids.now in
    let asset = c.index-assets-n.result in
    let at = asset-read p guids c.args.numbers.now c.assets-assets.result.now c.loop-n.n-index asset c.requires.numbers c.loop-n-test.true c.assets-assets.ensures c.index-assets-n.is in
    let here = Contains-get_or c.as_slice.result.now k d within in
    let refers = subst (λ (refs : List Guid). Contains refs (get_or c.as_slice.result.now k d)) (c.as_slice.ensures ∙ ap (λ (a : Asset). a.refs) (sym c.index-assets-n.is)) here in
    refs-here p guids c.kept.ensures c.requires.guids asset (Contains-slice_get p.assets _ asset at) (get_or c.as_slice.result.now k d) refers

pub loop-n-preserved : goal.loop-n-preserved
loop-n-preserved c =
    let p = c.args.project.now in
    let guids = c.args.guids.now in
    let numbers = c.args.numbers.now in
    let rows = c.loop-n.refs in
    let asset = c.index-assets-n.result in
    let at = asset-read p guids numbers c.assets-assets.result.now c.loop-n.n-index asset c.requires.numbers c.loop-n-test.true c.assets-assets.ensures c.index-assets-n.is in
    let here = subst (λ r. slice_get p.assets (get_or numbers r 0) ≡ Some asset) (sym c.loop-n.invariant.as_many) at in
    let ranks = subst (λ (refs : List Guid). AreRanks guids refs c.in_ok-ranks_of.field-0) (c.as_slice.ensures ∙ ap (λ (a : Asset). a.refs) (sym c.index-assets-n.is)) c.in_ok-ranks_of.ensures in
    let fits : ℕ → List ℕ → Type 0 = λ r ranks. (g : Guid) → slice_get guids r ≡ Some g → AreRefRanks p guids g ranks in
    record {
      as_many = ap length c.in_ok-push.ensures.ok ∙ (length_push rows c.in_ok-ranks_of.field-0 ∙ ap (λ n. n + 1) c.loop-n.invariant.as_many);
      each = subst (EachAt fits) (sym c.in_ok-push.ensures.ok)
          (refs-more p guids numbers rows c.in_ok-ranks_of.field-0 asset c.requires.numbers (subst (λ r. r < length numbers) (sym c.loop-n.invariant.as_many) c.loop-n-test.true) here ranks c.loop-n.invariant.each);
    }
