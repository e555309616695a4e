use Rattle.std.proofs.Common.{◌∷◌, [], ◌∙◌, Option, length, ap}
use Rattle.addr_base.specs.declared.ids.KeyNo.{KeyNo}
use Rattle.addr_locate.specs.Merge.{merged}
use Rattle.addr_locate.specs.declared.rows.Kind.TheVariants.{Any}
use Rattle.addr_locate.specs.declared.rows.Merge.TheVariants.{UseFirst}
use Rattle.addr_resolve.proofs.KeyLemmas.{filled, no-rows, rows-of-key}
use Rattle.addr_resolve.proofs.resolving.rows_of_key.Goals as goal

pub returns-then-is_empty-clause-finds : goal.returns-then-is_empty-clause-finds
returns-then-is_empty-clause-finds c =
    let r = c.args.locator.now in
    no-rows r c.args.key.now c.are_rows.ensures c.in_ok-numbers.numbers (c.in_ok-numbers.ensures.rows ∙ ap (λ (k : Option KeyNo). merged r.assets (k ∷ []) UseFirst Any) c.key_no-asked.ensures.place) (ap length (c.is_empty.ensures.0 c.if-is_empty.true))

pub returns-else-is_empty-clause-finds : goal.returns-else-is_empty-clause-finds
returns-else-is_empty-clause-finds c =
    let r = c.args.locator.now in
    (filled c.in_ok-numbers.numbers c.is_empty.result c.is_empty.ensures c.if-is_empty.false, rows-of-key r c.args.key.now c.are_rows.ensures c.in_ok-numbers.numbers (c.in_ok-numbers.ensures.rows ∙ ap (λ (k : Option KeyNo). merged r.assets (k ∷ []) UseFirst Any) c.key_no-asked.ensures.place))
