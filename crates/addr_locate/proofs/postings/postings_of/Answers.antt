use Rattle.std.proofs.Common.{◌≡◌, ◌∙◌, ◌+◌, ap, sym, subst, map, take, List}
use Rattle.std.proofs.lemmas.List.{with_items_is}
use Rattle.std.specs.Vec.{with_items}
use Rattle.addr_base.specs.declared.ids.KeyNo.{KeyNo}
use Rattle.addr_locate.specs.Changes.{change_each}
use Rattle.addr_locate.specs.Postings.{ArePostings}
use Rattle.addr_locate.proofs.PostingLemmas.{postings_more, with_row}
use Rattle.addr_locate.proofs.postings.postings_of.Goals as goal

pub loop-i-preserved : goal.loop-i-preserved
loop-i-preserved c =
    let row = c.index-rows-i.result in
    let more = postings_more c.args.rows.now c.args.count c.loop-i.i row c.loop-i.postings.items c.requires.once c.loop-i-test.true c.index-rows-i.is c.loop-i.invariant in
    let posted : (with_items c.loop-i.postings c.post_row.new.postings).items ≡ change_each (with_row (record { 0 = c.loop-i.i })) (map (λ (k : KeyNo). k.0) row.keys) c.loop-i.postings.items =
    with_items_is c.loop-i.postings c.post_row.new.postings (c.post_row.auto.postings ∙ c.as_mut_slice.ensures.len)
    ∙ c.in_ok-post_row.ensures
    ∙ ap (change_each (with_row (record { 0 = c.loop-i.i })) (map (λ (k : KeyNo). k.0) c.as_slice.result.now)) c.as_mut_slice.ensures.value
    ∙ ap (λ (ks : List KeyNo). change_each (with_row (record { 0 = c.loop-i.i })) (map (λ (k : KeyNo). k.0) ks) c.loop-i.postings.items) c.as_slice.ensures in
    subst (ArePostings (take (c.loop-i.i + 1) c.args.rows.now) c.args.count) (sym posted) more
