use Rattle.std.proofs.Common.{◌≡◌, ◌<◌, ◌+◌, ℕ, List, length, slice_index_or, slice_set, take, refl, subst, sym, ap, ◌∙◌, arith, Some}
use Rattle.std.specs.List.{slice_get}
use Rattle.std.proofs.lemmas.Option.{slice_get-get_or}
use Rattle.std.proofs.lemmas.List.{take_all}
use Rattle.addr_update.specs.within.Turned.{Adds}
use Rattle.addr_update.proofs.TurnLemmas.{adds-more, adds-none}
use Rattle.addr_update.proofs.doubting.add_row.Goals as goal

pub loop-c-init : goal.loop-c-init
loop-c-init c = record { len = refl; added = adds-none c.args.back.now.items c.args.b }

pub loop-c-preserved : goal.loop-c-preserved
loop-c-preserved c =
    let rows = c.loop-c.back.items in
    let row = c.args.row.now in
    let i = c.loop-c.c-index in
    let k = slice_index_or row i 0 in
    let below = c.requires.below i 0 c.loop-c-test.true in
    let long = c.loop-c.invariant.len in
    let whole = c.loop-c.back.ok in
    let small : k < length rows = omega (arith, below, long, whole) in
    let at : slice_get rows k ≡ Some c.index_mut.result.now = slice_get-get_or rows k c.index_mut.result.now small ∙ ap Some (sym c.index_mut.ensures.value) in
    record {
      len = c.loop-c.invariant.len;
      added = subst (λ (v : List ℕ). Adds c.args.back.now.items (take (i + 1) row) c.args.b (slice_set rows k v)) (sym (c.in_ok-push.ensures.ok)) (adds-more c.args.back.now.items rows row c.args.b i c.index_mut.result.now c.loop-c-test.true at c.loop-c.invariant.added);
    }

pub returns-clause-added : goal.returns-clause-added
returns-clause-added c = subst (λ (xs : List ℕ). Adds c.args.back.now.items xs c.args.b c.loop-c.back.items) (take_all c.loop-c.c-index c.args.row.now c.loop-c-test.false) c.loop-c.invariant.added
