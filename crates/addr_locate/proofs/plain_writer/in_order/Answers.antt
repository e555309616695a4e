use Rattle.std.proofs.Common.{rules, ap, ◌∙◌}
use Rattle.std.proofs.lemmas.List.Sorted.{answers_always, IsNonDecreasingBy-from_sort}
use Rattle.addr_base.specs.declared.ids.KeyNo.{KeyNo}
use Rattle.addr_locate.specs.PlainText.{in_order}
use Rattle.addr_locate.proofs.OrderLemmas.{in_order-from_sort}
use Rattle.addr_locate.proofs.plain_writer.in_order.Goals as goal

pub returns : goal.returns
returns c =
    let number = λ (k : KeyNo). k.0 in
    let keys = answers_always _ _ _ (λ f a r next called. search rules) in
    let stable = c.sort_by_key.ensures.stable number keys in
    let sorted = IsNonDecreasingBy-from_sort number c.sort_by_key.new.self.items (c.in_ok-sort_by_key.ensures.sorted number keys) in
    in_order-from_sort c.in_ok-sorted.sorted.items c.sort_by_key.new.self.items sorted stable ∙ ap in_order c.in_ok-sorted.ensures.items
