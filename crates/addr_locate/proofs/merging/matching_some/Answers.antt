use Rattle.std.proofs.Common.{◌∙◌, ap, map}
use Rattle.std.proofs.lemmas.Result.{IfOk-weaker}
use Rattle.std.proofs.lemmas.List.Filters.{dedup_is}
use Rattle.std.proofs.lemmas.List.Kept.{Contains-dedup_nat, Contains-from_dedup}
use Rattle.std.proofs.lemmas.List.Sorted.{Contains-permutation, IsPermutation-sym}
use Rattle.std.proofs.lemmas.Map.Keys.{IsStrictlyIncreasing-dedup}
use Rattle.addr_locate.proofs.MergeLemmas.{row_no, union_rows}
use Rattle.addr_locate.proofs.merging.matching_some.Goals as goal

pub returns : goal.returns
returns c =
    let is = dedup_is _ _ _ c.dedup.ensures.filtered in
    let moved = c.sort_unstable.ensures.permutation in
    let union = union_rows c.args.rows.now c.args.postings.now c.args.kind c.args.keys.now c.in_ok-numbers.numbers.items c.dedup.new.self.items c.requires c.in_ok-numbers.ensures
    (rw is (IsStrictlyIncreasing-dedup _ c.sort_unstable.ensures.sorted))
    (λ x there. rw is (Contains-dedup_nat _ x (Contains-permutation _ _ x moved there)))
    (λ x there. Contains-permutation _ _ x (IsPermutation-sym _ _ moved) (Contains-from_dedup _ _ x (rw is at there))) in
    IfOk-weaker c.rows_numbered.result _ _ (λ found made. made ∙ ap (map row_no) c.as_slice.ensures.value ∙ union) c.rows_numbered.ensures
