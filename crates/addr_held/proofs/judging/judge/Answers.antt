use Rattle.std.proofs.Common.{◌<◌, ◌^◌, ◌∙◌, List, ℕ, length, None, subst, sym}
use Rattle.std.proofs.lemmas.Bool.{false≢true}
use Rattle.std.specs.Prelude.{Ok}
use Rattle.addr_held.specs.within.Steps.{Opens, TellsBytes}
use Rattle.addr_held.proofs.ByteLemmas.{fault-of-objects, intact-file, listed-back, listed-of}
use Rattle.addr_held.proofs.judging.judge.Goals as goal
use Rattle.hex.specs.Hex.{IsBytes}

pub returns-then-are_listed : goal.returns-then-are_listed
returns-then-are_listed c = λ files folder there. (
    let old = c.args.old.now in
    let file = c.args.file.items in
    let cab = c.in-Ok.cab in
    let tells : TellsBytes old file None = subst (λ (f : List ℕ). TellsBytes old f None) c.as_slice-2.ensures.value c.in-None.ensures in
    let bytes : IsBytes file = subst (λ (f : List ℕ). IsBytes f) c.as_slice.ensures.value c.are_bytes.ensures.bytes in
    let short : length file < 2 ^ 63 = subst (λ (f : List ℕ). length f < 2 ^ 63) c.as_slice.ensures.value c.are_bytes.ensures.short in
    let opens : Opens file (Ok cab) = subst (Opens file) c.in-Ok.is c.in_ok-cab-in-None.ensures in
    intact-file files folder old file cab bytes short there tells opens (listed-of cab c.objects.result.now c.as_slice-in-Ok.result.now old.objects c.objects.ensures.rows c.as_slice-in-Ok.ensures (c.are_listed.ensures.0 c.if-are_listed.true)))

pub returns-else-are_listed : goal.returns-else-are_listed
returns-else-are_listed c = λ files folder there. (
    let old = c.args.old.now in
    let file = c.args.file.items in
    let cab = c.in-Ok.cab in
    let tells : TellsBytes old file None = subst (λ (f : List ℕ). TellsBytes old f None) c.as_slice-2.ensures.value c.in-None.ensures in
    let opens : Opens file (Ok cab) = subst (Opens file) c.in-Ok.is c.in_ok-cab-in-None.ensures in
    fault-of-objects files folder old file cab there tells opens (λ same. false≢true (sym c.if-are_listed.false ∙ c.are_listed.ensures.1 (listed-back cab c.objects.result.now c.as_slice-in-Ok.result.now old.objects c.objects.ensures.rows c.as_slice-in-Ok.ensures same))))
