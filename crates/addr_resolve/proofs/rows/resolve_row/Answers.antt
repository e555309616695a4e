use Rattle.std.proofs.Common.{ℕ, List, get_or, None, inl, refl, subst}
use Rattle.std.proofs.lemmas.Option.{slice_get-get_or}
use Rattle.addr_base.specs.Ids.{ReadsHex}
use Rattle.addr_base.specs.declared.ids.BundleNo.{BundleNo}
use Rattle.addr_resolve.proofs.rows.resolve_row.Goals as goal

pub returns-in-None-clause-resolves : goal.returns-in-None-clause-resolves
returns-in-None-clause-resolves c = λ files is. (
    let none : BundleNo = record { 0 = 0 } in
    let deps = c.args.row.now.deps in
    (get_or deps 0 none, slice_get-get_or deps 0 none c.requires.deps, inl (subst (λ (t : List ℕ). ReadsHex t None) c.as_str.ensures c.in-None.ensures.reads, refl)))
