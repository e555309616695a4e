use Rattle.std.proofs.Common.{◌≡◌, ◌∙◌, ap, filter, take}
use Rattle.std.proofs.lemmas.List.{take_all}
use Rattle.addr_locate.specs.Postings.{is_kind_at}
use Rattle.addr_locate.proofs.MergeLemmas.{matching_listed}
use Rattle.addr_locate.proofs.merging.matching.Goals as goal

pub returns : goal.returns
returns c =
    let listed = c.rows_of_key-listed.result.now in
    let whole : take c.loop-row.row-index listed ≡ listed = take_all c.loop-row.row-index listed c.loop-row-test.false in
    c.loop-row.invariant
    ∙ ap (filter (is_kind_at c.args.kind c.args.rows.now)) (whole ∙ c.rows_of_key-listed.ensures)
    ∙ matching_listed c.args.rows.now c.args.postings.now c.args.kind c.args.key c.requires
