use Rattle.std.proofs.Common.{◌≡◌, ◌∙◌, ap, length, nat_lt}
use Rattle.std.specs.List.{list_all}
use Rattle.std.proofs.lemmas.Result.{IfOk-weaker}
use Rattle.addr_locate.specs.Merge.{merged}
use Rattle.addr_locate.specs.Rows.{Rows}
use Rattle.addr_base.specs.declared.ids.RowNo.{RowNo}
use Rattle.addr_locate.proofs.PostingLemmas.{lists_same}
use Rattle.addr_locate.proofs.FoundLemmas.{merged-within}
use Rattle.addr_locate.proofs.locator.Locator.locate.Goals as goal

pub returns-clause-within : goal.returns-clause-within
returns-clause-within c =
    let rows = c.args.self.now.assets in
    let same : c.as_slice.result.now ≡ rows = c.as_slice.ensures ∙ ap (λ (r : Rows). r.assets) c.self.view_is in
    IfOk-weaker c.merge_rows.result (λ found. found ≡ merged rows c.args.keys.now c.args.mode c.args.kind) _ (λ found is. ap (list_all (λ (r : RowNo). nat_lt r.0 (length rows))) is ∙ merged-within rows c.args.keys.now c.args.mode c.args.kind) (rw same at c.merge_rows.ensures)

pub merge_rows-requires : goal.merge_rows-requires
merge_rows-requires c = lists_same c.self.inside.assets c.as_slice.result.now c.self.inside.postings.items c.as_slice-2.result.now c.as_slice.ensures c.as_slice-2.ensures.value c.self.invariant.posted
