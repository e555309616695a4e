use Rattle.std.proofs.Common.{sym, subst, ◌∙◌}
use Rattle.addr_layout.proofs.RankLemmas.{same-some}
use Rattle.addr_pack.specs.Placement.{InBundle}
use Rattle.addr_images.proofs.owners.owner_at.Goals as goal

pub unreachable-requires : goal.unreachable-requires
unreachable-requires c = let found = c.requires.owners.each c.args.x c.requires.within in cc (sym c.in-None.is ∙ found.1)

pub returns : goal.returns
returns c =
    let found = c.requires.owners.each c.args.x c.requires.within in
    subst (λ b. InBundle c.args.plan.now b c.args.x) (same-some found.0 c.in-Some.b (sym found.1 ∙ c.in-Some.is)) found.2
