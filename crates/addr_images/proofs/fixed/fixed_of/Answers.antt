use Rattle.std.proofs.Common.{sym, subst, ◌∙◌, ap}
use Rattle.std.specs.Cmp.Lexicographic.{slice_cmp}
use Rattle.std.specs.Ordering.{nat_cmp}
use Rattle.addr_release.specs.Built.{IsFixedName}
use Rattle.addr_walks.specs.Walks.{IsListOf}
use Rattle.addr_images.specs.within.Fixed.{fixed_names}
use Rattle.addr_images.proofs.FixedLemmas.{fixed-list}
use Rattle.addr_images.proofs.fixed.fixed_of.Goals as goal

pub returns : goal.returns
returns c =
    let p = c.args.project.now in
    subst (IsListOf (slice_cmp nat_cmp) (IsFixedName p)) (sym (c.in_ok-names.ensures ∙ (c.in_ok-found.ensures ∙ ap fixed_names c.groups.ensures))) (fixed-list p)
