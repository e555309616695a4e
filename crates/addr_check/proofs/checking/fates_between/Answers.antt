use Rattle.std.proofs.Common.{◌≡◌, ◌∙◌, ap, sym, subst, List, length}
use Rattle.addr_resolve.specs.Items.{AreNamed, ShowsCabs}
use Rattle.addr_check.proofs.CheckLemmas.{fates-seen, rows-many}
use Rattle.addr_check.proofs.checking.fates_between.Goals as goal

pub fates_of-requires-clause-same : goal.fates_of-requires-clause-same
fates_of-requires-clause-same c = ap length c.as_slice-2.ensures ∙ rows-many c.args.release.now.state.bundles c.in_ok-rows.rows c.in_ok-rows.ensures ∙ sym c.requires.many ∙ sym (ap length c.as_slice.ensures)

pub returns : goal.returns
returns c = fates-seen c.args.release.now c.in_ok-rows.rows c.args.project.now c.args.now.now c.in_ok-fates.fates c.requires.many c.in_ok-rows.ensures
    (λ was named shows. c.in_ok-fates.ensures was (subst (AreNamed was) (sym c.as_slice-2.ensures) named) (subst (ShowsCabs was) (sym c.as_slice.ensures) shows))
