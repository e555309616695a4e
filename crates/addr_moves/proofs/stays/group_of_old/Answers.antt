use Rattle.std.proofs.Common.{◌≡◌, List, ℕ, Option, true, is_some, subst, sym, ap, ◌∙◌}
use Rattle.addr_moves.specs.Firsts.{number_under}
use Rattle.addr_moves.specs.within.Groups.{IsFixedAt}
use Rattle.addr_moves.proofs.GroupLemmas.{stays-as}
use Rattle.addr_moves.proofs.stays.group_of_old.Goals as goal

pub returns : goal.returns
returns c = λ names firsts. (
    let fixed = number_under c.args.fixed.now in
    let found = c.number_under.ensures ∙ ap fixed c.as_bytes.ensures in
    let some : is_some (fixed c.args.old.now.group) ≡ true = ap is_some (sym found) ∙ c.if-is_none.ensures in
    stays-as names c.args.project.now fixed c.args.old.now c.fixed_group.result firsts some (subst (λ name. IsFixedAt c.args.project.now name c.fixed_group.result) c.as_bytes-2.ensures c.fixed_group.ensures))
