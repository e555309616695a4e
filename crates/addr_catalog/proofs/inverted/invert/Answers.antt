use Rattle.std.proofs.Common.{◌<◌, ◌∙◌, sym, ap, length, map, arith, ℕ}
use Rattle.std.specs.List.{range_with_len}
use Rattle.addr_catalog.specs.Inverted.{first_with, with_list}
use Rattle.addr_catalog.proofs.InvertedLemmas.{none_with, first_fit, all_added, list_added, long_as, list_is, list_within, below_same}
use Rattle.addr_catalog.proofs.inverted.invert.Goals as goal

pub loop-k-init : goal.loop-k-init
loop-k-init c = c.in_ok-found.ensures ∙ none_with c.args.lists.now c.args.count

pub add_list-requires : goal.add_list-requires
add_list-requires c =
    let small : c.loop-k.k < length c.args.lists.now = omega arith in
    let long = long_as (first_with c.args.lists.now c.loop-k.k) c.args.count c.loop-k.found.items c.loop-k.invariant in
    let here = list_within c.args.lists.now c.args.count c.loop-k.k c.index-lists-k.result c.requires.within small c.index-lists-k.is in
    record { within = below_same (sym c.as_slice.ensures) (sym long) here }

pub loop-k-preserved : goal.loop-k-preserved
loop-k-preserved c =
    let lists = c.args.lists.now in
    let k = c.loop-k.k in
    let small : k < length lists = omega arith in
    let long = long_as (first_with lists k) c.args.count c.loop-k.found.items c.loop-k.invariant in
    let same = c.as_slice.ensures ∙ list_is lists k c.index-lists-k.result small c.index-lists-k.is in
    let added = c.in_ok-add_list.ensures.added (first_with lists k) (c.loop-k.invariant ∙ ap (λ (n : ℕ). map (first_with lists k) (range_with_len 0 n)) (sym long)) (first_fit lists k) in
    list_added lists k c.args.count c.as_slice.result.now c.add_list.new.lists.items same (added ∙ ap (λ (n : ℕ). map (with_list k c.as_slice.result.now (first_with lists k)) (range_with_len 0 n)) long)

pub returns : goal.returns
returns c = all_added c.args.lists.now c.loop-k.k c.args.count c.loop-k.found.items (omega arith) c.loop-k.invariant
