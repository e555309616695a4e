use Rattle.std.proofs.Common.{◌≡◌, ◌<◌, List, length, subst, sym, ap, refl, ◌^◌, arith, Fits, w32}
use Rattle.addr_check.specs.Comparing.{update_of}
use Rattle.addr_held.specs.Opening.{was_of}
use Rattle.addr_moves.specs.Fates.{AreFates}
use Rattle.addr_moves.specs.declared.fate.Fate.{Fate}
use Rattle.addr_moving.specs.Kept.{AreKept}
use Rattle.addr_update.specs.Placement.{IsSplit}
use Rattle.addr_patch.proofs.PrepareLemmas.{are-kept, decided-from, few-moved, split-as}
use Rattle.addr_patch.proofs.preparing.decide.Goals as goal

pub plan_moved-requires-clause-kept : goal.plan_moved-requires-clause-kept
plan_moved-requires-clause-kept c =
    let u = update_of c.args.compared.now in
    let r = c.args.compared.now.release in
    let made = c.in_ok-split.split in
    let fates : AreFates u c.as_slice-fates.result.now = subst (λ (xs : List Fate). AreFates u xs) (sym c.as_slice-fates.ensures) c.requires.fates in
    let split : IsSplit u made.kept made.moved = c.in_ok-split.ensures.split (was_of r) r.catalogue.locator u.now fates in
    subst (AreKept u.project) (sym c.as_slice.ensures) (are-kept u c.kept.ensures c.requires.sound made.kept made.moved split c.in_ok-split.ensures.once)

pub overflow_cast-result : goal.overflow_cast-result
overflow_cast-result c =
    let u = update_of c.args.compared.now in
    let r = c.args.compared.now.release in
    let made = c.in_ok-split.split in
    let fates : AreFates u c.as_slice-fates.result.now = subst (λ (xs : List Fate). AreFates u xs) (sym c.as_slice-fates.ensures) c.requires.fates in
    let split : IsSplit u made.kept made.moved = c.in_ok-split.ensures.split (was_of r) r.catalogue.locator u.now fates in
    let few = few-moved u c.kept.ensures made.moved split.moves in
    let same = ap length c.as_slice-moved.ensures in
    omega (arith, few, same)

pub returns : goal.returns
returns c =
    let u = update_of c.args.compared.now in
    let r = c.args.compared.now.release in
    let made = c.in_ok-split.split in
    let fates : AreFates u c.as_slice-fates.result.now = subst (λ (xs : List Fate). AreFates u xs) (sym c.as_slice-fates.ensures) c.requires.fates in
    let split : IsSplit u made.kept made.moved = c.in_ok-split.ensures.split (was_of r) r.catalogue.locator u.now fates in
    let own = split-as u made.kept c.as_slice.result.now made.moved c.as_slice-moved.result.now c.as_slice.ensures c.as_slice-moved.ensures split in
    decided-from u c.requires.placed c.requires.sound c.entries_split.ensures c.moved_placement_is_shared.ensures c.name_laws.ensures.few c.as_slice.result.now c.as_slice-moved.result.now c.in_ok-plan.plan
    (length c.as_slice-moved.result.now) own c.in_ok-plan.ensures refl
