use Rattle.std.proofs.Common.{rules, ◌≡◌, map, string_bytes}
use Rattle.addr_turn.specs.Held.{view}
use Rattle.addr_live.specs.declared.order.Order.{Order}
use Rattle.addr_live.proofs.RunLemmas.{ran_of, if_some_from}
use Rattle.addr_live.proofs.script.run_script.Goals as goal

pub returns-clause-ran : goal.returns-clause-ran
returns-clause-ran g c =
    let t = c.close.ensures.turn in
    if_some_from c.play_all-played.result c.ok.result _ _ c.play_all-played.ensures.plays (search rules) (λ text plays.
    ran_of g.F.Fetch.gives (view c.args.pass) (view c.play_all-played.new.pass) (view c.close.new.pass) c.args.fetch c.play_all-played.new.fetch (map (λ (o : Order). o.command) c.args.orders.items) (string_bytes text) t.0 c.requires.scripts plays t.1)
