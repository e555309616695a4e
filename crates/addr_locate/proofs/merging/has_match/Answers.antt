use Rattle.std.proofs.Common.{◌∙◌, ap}
use Rattle.std.specs.List.{list_any}
use Rattle.addr_locate.specs.Postings.{is_kind_at}
use Rattle.addr_locate.proofs.MergeLemmas.{any_listed}
use Rattle.addr_locate.proofs.merging.has_match.Goals as goal

pub returns : goal.returns
returns c =
    c.any_is_kind.ensures
    ∙ ap (list_any (is_kind_at c.args.kind c.args.rows.now)) c.rows_of_key.ensures
    ∙ any_listed c.args.rows.now c.args.postings.now c.args.kind c.args.key c.requires
