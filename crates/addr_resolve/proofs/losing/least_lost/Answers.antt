use Rattle.std.proofs.Common.{◌+◌, get_or, take, Option, None, subst, sym}
use Rattle.std.proofs.lemmas.Option.{slice_get-get_or}
use Rattle.addr_base.specs.declared.ids.Guid.{Guid}
use Rattle.addr_resolve.specs.Lost.{IsLeastOf}
use Rattle.addr_resolve.proofs.LostLemmas.{least-more}
use Rattle.addr_resolve.proofs.losing.least_lost.Goals as goal

pub loop-n-preserved : goal.loop-n-preserved
loop-n-preserved c =
    let lost = c.args.lost.now in
    let found = c.args.found.now in
    let k = c.loop-n.n-index in
    let n = get_or found k 0 in
    let l : Option Guid = get_or lost n None in
    subst (IsLeastOf lost (take (k + 1) found)) (sym c.lesser-least.ensures)
    (least-more lost found k c.loop-n.least l c.loop-n-test.true (slice_get-get_or lost n None (c.requires k 0 c.loop-n-test.true)) c.loop-n.invariant)
