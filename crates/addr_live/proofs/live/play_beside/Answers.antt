use Rattle.std.proofs.Common.{rules, ◌≡◌, List, ℕ, ap, sym, subst, map, string_bytes, Some, IfSome}
use Rattle.addr_locate.specs.Rows.{Rows}
use Rattle.addr_core.specs.Machine.{Machine}
use Rattle.addr_live.specs.declared.order.Order.{Order}
use Rattle.addr_live.specs.Whole.{PlaysBeside}
use Rattle.addr_live.proofs.PrintLemmas.{printed}
use Rattle.addr_live.proofs.live.play_beside.Goals as goal

pub returns-in-Ok : goal.returns-in-Ok
returns-in-Ok g c =
    let e = c.run_whole-ended in
    let rows : c.in-Ok.core.rows ≡ c.args.locator = ap (λ (m : Machine _). m.rows) c.in-Ok.ensures in
    let limit : c.in-Ok.core.limit ≡ c.args.limit = ap (λ (m : Machine _). m.limit) c.in-Ok.ensures in
    let cs = map (λ (o : Order). o.command) c.args.orders.items in
    subst (λ (z : Rows × ℕ). IfSome c.whole_text.result (λ w. PlaysBeside g.F.Fetch.gives z.0 z.1 cs c.args.fetchers.items e.result.fetchers.items c.args.fetch e.result.fetch w)) (λ i. (rows i, limit i))
    (printed string_bytes g.F.Fetch.gives c.in-Ok.core.rows c.in-Ok.core.limit cs c.args.fetchers.items e.result.fetchers.items c.args.fetch e.result.fetch e.result.core e.result.text c.whole_text.result e.ensures.rows e.ensures.live e.ensures.chained c.whole_text.ensures)
