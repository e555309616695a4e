use Rattle.std.proofs.Common.{◌≡◌, ◌<◌, ◌+◌, List, Some, length, get_or, take, subst, sym, ap, ◌∙◌, []}
use Rattle.std.proofs.lemmas.List.{take_all, take_more}
use Rattle.std.proofs.lemmas.Option.{slice_get-get_or}
use Rattle.std.specs.List.{slice_get}
use Rattle.addr_base.specs.declared.ids.Guid.{Guid}
use Rattle.addr_moves.specs.within.Changing.{AreSpoilt}
use Rattle.addr_moves.proofs.ChangeLemmas.{spoilt-more, spoilt-none}
use Rattle.addr_moves.proofs.changing.spoilt_of.Goals as goal

pub loop-n-init : goal.loop-n-init
loop-n-init c = subst (AreSpoilt c.args.spoils.now []) (sym c.new-spoilt.ensures) (spoilt-none c.args.spoils.now)

pub loop-n-preserved : goal.loop-n-preserved
loop-n-preserved c =
    let spoils = c.args.spoils.now in
    let found = c.args.found.now in
    let i = c.loop-n.n-index in
    let n = get_or found i 0 in
    let within : i < length found = c.loop-n-test.true in
    let gs : List Guid = c.as_slice.result.now in
    let at : slice_get spoils n ≡ Some gs = slice_get-get_or spoils n c.index-spoils-n.result (c.requires i 0 within) ∙ ap Some (sym c.index-spoils-n.is ∙ sym c.as_slice.ensures) in
    subst (λ ns. AreSpoilt spoils ns c.add_all.new.guids) (sym (take_more found i 0 within))
    (subst (AreSpoilt spoils _) (sym c.in_ok-add_all.ensures) (spoilt-more spoils (take i found) n gs c.loop-n.spoilt at c.loop-n.invariant))

pub returns : goal.returns
returns c = subst (λ ns. AreSpoilt c.args.spoils.now ns c.loop-n.spoilt) (take_all c.loop-n.n-index c.args.found.now c.loop-n-test.false) c.loop-n.invariant
