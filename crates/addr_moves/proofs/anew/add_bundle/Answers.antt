use Rattle.std.proofs.Common.{List, ℕ, ap, subst, sym, ◌∙◌}
use Rattle.addr_base.specs.Ids.{digest_of}
use Rattle.addr_moves.specs.within.Anew.{AddsNames, name_under}
use Rattle.addr_moves.proofs.AnewLemmas.{adds-free}
use Rattle.addr_moves.proofs.anew.add_bundle.Goals as goal

pub returns : goal.returns
returns c =
    let p = c.args.project.now in
    let old = name_under c.args.anew.now in
    let new = name_under c.add_names.new.anew in
    adds-free p old new c.args.bundle.now c.is_free.result c.internal_name-name.result c.is_free.ensures c.if-not-is_free.false (c.internal_name-name.ensures ∙ ap digest_of c.as_str.ensures)
    (subst (λ xs. AddsNames p old xs c.internal_name-name.result new) c.as_slice.ensures c.in_ok-add_names.ensures)
