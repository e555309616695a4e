use Rattle.std.proofs.Common.{map, string_bytes}
use Rattle.addr_turn.specs.Held.{view}
use Rattle.addr_loader.specs.Sessions.{IsOf}
use Rattle.addr_live.specs.Plays.{PlaysLines}
use Rattle.addr_live.proofs.script.play_all.Given as goal

abbrev pub invariant-loop-order : goal.invariant-loop-order
invariant-loop-order g l = record {
  pass : IsOf l.session l.pass;
  plays : PlaysLines g.F.Fetch.gives (view l.fn.pass) l.fn.fetch (map (λ o. o.command) l.yielded) (string_bytes l.text) (view l.pass) l.fetch;
}
