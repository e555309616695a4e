use Rattle.std.proofs.Common.{subst, sym, refl}
use Rattle.addr_check.specs.Comparing.{update_of}
use Rattle.addr_held.proofs.OpenedLemmas.{shows-from}
use Rattle.addr_needs.specs.Numbers.{AreNumbers}
use Rattle.addr_resolve.specs.Items.{ShowsCabs}
use Rattle.addr_patch.proofs.preparing.numbers_and_needs.Goals as goal

pub returns : goal.returns
returns c =
    let u = update_of c.args.compared.now in
    let r = c.args.compared.now.release in
    record {
      olds = c.in_ok-olds.ensures.numbers;
      needs = c.in_ok-needs.ensures.needs u (record {
        project = refl;
        placed = c.requires.placed;
        updated = c.requires.updated;
        numbers = subst (AreNumbers u.state c.args.plan.now) (sym c.as_slice.ensures) c.in_ok-olds.ensures.numbers;
        shows = subst (ShowsCabs u.was) (sym c.as_slice-2.ensures) (shows-from r.state.bundles r.cabs c.requires.many);
      });
      below = c.in_ok-needs.ensures.below;
    }
