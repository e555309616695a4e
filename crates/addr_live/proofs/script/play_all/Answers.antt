use Rattle.std.proofs.Common.{rules, ◌≡◌, List, [], ◌∷◌, ◌++◌, map, ap, sym, subst, ◌∙◌, string_bytes, refl}
use Rattle.std.proofs.lemmas.List.{map-append}
use Rattle.addr_script.specs.declared.command.Command.{Command}
use Rattle.addr_turn.specs.Held.{view}
use Rattle.addr_live.specs.declared.order.Order.{Order}
use Rattle.addr_live.specs.Plays.{PlaysLines}
use Rattle.addr_live.proofs.RunLemmas.{lines_none, lines_more}
use Rattle.addr_live.proofs.script.play_all.Goals as goal

pub loop-order-init : goal.loop-order-init
loop-order-init g c = record {
  pass = c.requires.pass;
  plays = lines_none g.F.Fetch.gives (view c.args.pass.now) c.args.fetch.now (string_bytes c.new-text.result) c.requires.scripts c.new-text.ensures.bytes;
}

pub loop-order-preserved : goal.loop-order-preserved
loop-order-preserved g c = record {
  pass = c.play_line.ensures.pass;
  plays = subst (λ (cs : List Command). PlaysLines g.F.Fetch.gives (view c.args.pass.now) c.args.fetch.now cs (string_bytes c.play_line.new.text) (view c.play_line.new.pass) c.play_line.new.fetch) (sym (map-append (λ (o : Order). o.command) c.loop-order.yielded (c.in-Some.order ∷ [])))
      (lines_more g.F.Fetch.gives (view c.args.pass.now) (view c.loop-order.pass) (view c.play_line.new.pass) c.args.fetch.now c.loop-order.fetch c.play_line.new.fetch (map (λ (o : Order). o.command) c.loop-order.yielded) c.in-Some.order.command (string_bytes c.loop-order.text) (string_bytes c.play_line.new.text) c.loop-order.invariant.plays c.in_ok-play_line.ensures.plays);
}
