use Rattle.std.proofs.Common.{◌≡◌, ◌+◌, length, get_or, subst, ap, ◌∙◌, arith}
use Rattle.std.proofs.lemmas.List.{length-append}
use Rattle.std.proofs.lemmas.List.Elements.{Contains-get_or}
use Rattle.addr_walks.specs.Marks.{Grows}
use Rattle.addr_walks.proofs.MarkLemmas.{searches-start, searches-more, searches-end, listed-at, listed-few, row_at}
use Rattle.addr_walks.proofs.marking.Marked.spread.Goals as goal

pub loop-done-init : goal.loop-done-init
loop-done-init c = record {
  len = omega arith;
  within = omega arith;
  tracks = c.mark_all.ensures.tracks;
  searches = searches-start c.args.rows.now c.args.seeds.now c.mark_all.new.self.queue.items
      (subst (λ old. Grows c.args.seeds.now old c.mark_all.new.self.queue.items) c.clear.ensures.none c.in_ok-mark_all.ensures.grows);
}

pub bounds-rows-b : goal.bounds-rows-b
bounds-rows-b c =
    let marks = c.loop-done.self.marks in
    let queue = c.loop-done.self.queue in
    let below = listed-at marks.items queue.items c.loop-done.done c.index.result.now c.loop-done.invariant.tracks (omega (arith, queue.ok.0)) c.index.ensures in
    omega (arith, marks.ok.0)

pub mark_all-requires-in-loop-done-clause-within : goal.mark_all-requires-in-loop-done-clause-within
mark_all-requires-in-loop-done-clause-within c = λ k d within.
    let marks = c.loop-done.self.marks in
    let queue = c.loop-done.self.queue in
    let below = listed-at marks.items queue.items c.loop-done.done c.index.result.now c.loop-done.invariant.tracks (omega (arith, queue.ok.0)) c.index.ensures in
    let row = row_at c.args.rows.now c.index.result.now c.index-rows-b.result c.as_slice.result.now (omega (arith, marks.ok.0)) c.as_slice.ensures c.index-rows-b.is in
    let small = c.requires.below.each c.index.result.now (get_or c.as_slice.result.now k d) (c.as_slice.result.now, row, Contains-get_or c.as_slice.result.now k d within) in
    omega arith

pub loop-done-smaller : goal.loop-done-smaller
loop-done-smaller c =
    let marks = c.loop-done.self.marks in
    let queue = c.loop-done.self.queue in
    let few = listed-few marks.items queue.items c.loop-done.invariant.tracks in
    omega (arith, marks.ok.0, queue.ok.0)

pub loop-done-preserved : goal.loop-done-preserved
loop-done-preserved c =
    let marks = c.loop-done.self.marks in
    let queue = c.loop-done.self.queue in
    let new = c.mark_all-in-loop-done.new.self.queue in
    let grown = c.in_ok-mark_all-2.ensures.grows in
    let longer : length new.items ≡ length queue.items + length grown.added = ap length grown.is ∙ length-append queue.items grown.added in
    let below = listed-at marks.items queue.items c.loop-done.done c.index.result.now c.loop-done.invariant.tracks (omega (arith, queue.ok.0)) c.index.ensures in
    let row = row_at c.args.rows.now c.index.result.now c.index-rows-b.result c.as_slice.result.now (omega (arith, marks.ok.0)) c.as_slice.ensures c.index-rows-b.is in
    record {
      len = omega arith;
      within = omega (arith, queue.ok.0, new.ok.0);
      tracks = c.mark_all-in-loop-done.ensures.tracks;
      searches = searches-more c.args.rows.now c.args.seeds.now queue.items new.items c.as_slice.result.now c.loop-done.done c.index.result.now
          (omega (arith, queue.ok.0)) c.index.ensures row grown c.loop-done.invariant.searches;
    }

pub returns-clause-found : goal.returns-clause-found
returns-clause-found c = searches-end c.args.rows.now c.args.seeds.now c.loop-done.self.queue.items c.loop-done.done (omega (arith, c.loop-done.self.queue.ok.0)) c.loop-done.invariant.searches
