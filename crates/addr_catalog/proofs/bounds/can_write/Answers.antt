use Rattle.addr_catalog.proofs.FewLemmas.{few_from}
use Rattle.addr_catalog.proofs.bounds.can_write.Goals as goal

pub returns-then-not-are_few : goal.returns-then-not-are_few
returns-then-not-are_few c =
    (λ yes. absurd (cc), λ can. let yes = c.are_few.ensures.1 (few_from c.args.locator.now c.are_rows.ensures can) in let other = c.if-not-are_few.true in absurd (cc))
