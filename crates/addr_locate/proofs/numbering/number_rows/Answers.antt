use Rattle.std.proofs.Common.{◌++◌, ◌∷◌, [], sym, subst}
use Rattle.addr_locate.proofs.NameLemmas.{AreNumbered, numbered_more}
use Rattle.addr_locate.proofs.numbering.number_rows.Goals as goal

pub loop-asset-preserved : goal.loop-asset-preserved
loop-asset-preserved c =
    let more = numbered_more c.loop-asset.yielded c.in-Some.asset c.loop-asset.keys c.loop-asset.kinds c.numbered.new.keys c.numbered.new.kinds c.loop-asset.rows.items c.loop-asset.invariant c.in_ok-numbered.ensures.keys c.in_ok-numbered.ensures.kinds c.in_ok-numbered.field-0 c.in_ok-numbered.ensures.row in
    subst (AreNumbered (c.loop-asset.yielded ++ c.in-Some.asset ∷ []) c.numbered.new.keys c.numbered.new.kinds) (sym c.in_ok-push.ensures.items) more
