use Rattle.std.proofs.Common.{List, ℕ, Some, length, ap, sym, ◌∙◌}
use Rattle.std.proofs.lemmas.Option.{slice_get_within}
use Rattle.addr_locate.specs.declared.rows.AssetRow.{AssetRow}
use Rattle.addr_moves.specs.Firsts.{number_under}
use Rattle.addr_moves.proofs.GroupLemmas.{read-in}
use Rattle.addr_moves.proofs.HolderLemmas.{before-some, row-below}
use Rattle.addr_moves.proofs.before.is_before.Goals as goal

pub returns-in-Some : goal.returns-in-Some
returns-in-Some c =
    let r = c.args.locator.now in
    let find = number_under c.args.ids.now in
    let k = c.in-Some.k in
    let is = c.in-Some.ensures ∙ ap find c.digits_of.ensures in
    let at = read-in c.assets.result.now r.assets k c.index-assets-k.result c.assets.ensures.rows (row-below r find k _ c.requires.ids is) c.index-assets-k.is in
    before-some r c.args.digits.now c.args.guid find k c.index-assets-k.result c.leads_to.result c.requires.ids is at c.leads_to.ensures
