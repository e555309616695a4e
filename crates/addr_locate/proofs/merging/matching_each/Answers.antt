use Rattle.std.proofs.Common.{◌≡◌, ◌∙◌, ap, filter, take, slice_get, false}
use Rattle.std.proofs.lemmas.List.{take_all}
use Rattle.std.specs.Option.{option_map_or}
use Rattle.addr_base.specs.declared.ids.RowNo.{RowNo}
use Rattle.addr_locate.specs.Postings.{has_each}
use Rattle.addr_locate.proofs.MergeLemmas.{each_rows}
use Rattle.addr_locate.proofs.merging.matching_each.Goals as goal

pub returns : goal.returns
returns c =
    let listed = c.rows_of_key-listed.result.now in
    let whole : take c.loop-row.row-index listed ≡ listed = take_all c.loop-row.row-index listed c.loop-row-test.false in
    c.loop-row.invariant
    ∙ ap (filter (λ (r : RowNo). option_map_or (has_each c.args.kind c.args.keys.now) (slice_get c.args.rows.now r.0) false)) (whole ∙ c.rows_of_key-listed.ensures)
    ∙ each_rows c.args.rows.now c.args.postings.now c.args.kind c.args.keys.now c.rarest.result c.requires c.rarest.ensures
