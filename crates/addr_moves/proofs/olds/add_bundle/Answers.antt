use Rattle.std.proofs.Common.{◌≡◌, List, is_some, true, subst, sym, ap, ◌∙◌}
use Rattle.addr_base.specs.declared.ids.Guid.{Guid}
use Rattle.addr_moves.specs.Firsts.{number_under}
use Rattle.addr_moves.specs.within.Holders.{AddsEach}
use Rattle.addr_moves.proofs.HolderLemmas.{adds-some}
use Rattle.addr_moves.proofs.olds.add_bundle.Goals as goal

pub returns : goal.returns
returns c =
    let fixed = number_under c.args.fixed.now in
    let old = c.args.old.now in
    let before = number_under c.args.holders.now in
    let new = number_under c.add_entries.new.holders in
    let found = c.number_under.ensures ∙ ap fixed c.as_bytes.ensures in
    let some : is_some (fixed old.group) ≡ true = ap is_some (sym found) ∙ c.if-is_none.ensures in
    adds-some (fixed old.group) before new old.entries c.args.m some (subst (λ (gs : List Guid). AddsEach before gs c.args.m new) c.as_slice.ensures c.in_ok-add_entries.ensures)
