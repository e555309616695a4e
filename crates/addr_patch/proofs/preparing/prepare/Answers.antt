use Rattle.std.proofs.Common.{subst, sym}
use Rattle.addr_check.specs.Comparing.{update_of}
use Rattle.addr_held.proofs.OpenedLemmas.{refused-as}
use Rattle.addr_needs.specs.Needed.{AreNeeds}
use Rattle.addr_update.specs.Placement.{IsUpdated}
use Rattle.addr_patch.specs.FromCauses.{of_limit}
use Rattle.addr_patch.specs.within.Preparing.{RefusesPreparing}
use Rattle.addr_patch.proofs.PrepareLemmas.{fits-after, members-refused, release-refused}
use Rattle.addr_patch.proofs.preparing.prepare.Goals as goal

pub returns-in_err-layout-clause-refused : goal.returns-in_err-layout-clause-refused
returns-in_err-layout-clause-refused c =
    let u = update_of c.args.compared.now in
    let plan = c.in_ok-decided.decided.plan in
    let made = c.in_ok-decided.ensures in
    let updated : IsUpdated u plan = (made.kept, made.moved, made.split, made.updated) in
    let e = c.in_err-layout.field-0.0 in
    refused-as (RefusesPreparing u) c.from_residual-in_err-layout.result (of_limit e) c.from_residual-in_err-layout.ensures.1
    (members-refused u plan updated e c.in_err-layout.ensures.refused)

pub returns-in_err-update_within-clause-refused : goal.returns-in_err-update_within-clause-refused
returns-in_err-update_within-clause-refused c =
    let u = update_of c.args.compared.now in
    let plan = c.in_ok-decided.decided.plan in
    let made = c.in_ok-decided.ensures in
    let updated : IsUpdated u plan = (made.kept, made.moved, made.split, made.updated) in
    let rows = c.as_slice-needs.result.now in
    let are : AreNeeds u plan rows = subst (AreNeeds u plan) (sym c.as_slice-needs.ensures) c.in_ok-needed.ensures.needs in
    let e = c.in_err-update_within.field-0.0 in
    refused-as (RefusesPreparing u) c.from_residual-in_err-update_within.result (of_limit e) c.from_residual-in_err-update_within.ensures.1
    (release-refused u plan updated rows e are c.in_err-update_within.ensures.refused)

pub returns-clause-prepared : goal.returns-clause-prepared
returns-clause-prepared c =
    let u = update_of c.args.compared.now in
    let plan = c.in_ok-decided.decided.plan in
    let made = c.in_ok-decided.ensures in
    let updated : IsUpdated u plan = (made.kept, made.moved, made.split, made.updated) in
    let rows = c.as_slice-needs.result.now in
    let are : AreNeeds u plan rows = subst (AreNeeds u plan) (sym c.as_slice-needs.ensures) c.in_ok-needed.ensures.needs in
    let fits = c.in_ok-update_within.ensures.fits in
    record {
      placed = c.requires.placed;
      kept = made.kept;
      moved = made.moved;
      split = made.split;
      updated = made.updated;
      within = record {
        names = c.requires.names;
        updated = updated;
        members = fits.members;
        deps = fits-after u plan rows are fits.deps;
        bytes = fits.bytes;
      };
      few = made.few;
      shared = made.shared;
      laid = c.in_ok-layout.ensures.laid;
      olds = c.in_ok-needed.ensures.olds;
      needs = c.in_ok-needed.ensures.needs;
      below = c.in_ok-needed.ensures.below;
      rows = c.in_ok-rows.ensures;
      counted = made.counted;
    }
