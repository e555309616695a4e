use Rattle.std.proofs.Common.{◌≡◌, ◌+◌, ◌≤◌, ◌++◌, length, vec_capacity, vec_len}
use Rattle.addr_turn.specs.Held.{view}
use Rattle.addr_loader.specs.Sessions.{IsOf, lock_of}
use Rattle.addr_loader.specs.Teams.{AreOf}
use Rattle.addr_live.specs.Hands.{HandedOut, back}
use Rattle.addr_live.proofs.hands.hand_to.Given as goal

abbrev pub invariant-loop-fetch : goal.invariant-loop-fetch
invariant-loop-fetch g l = record {
  pass : IsOf l.session l.pass;
  teams : AreOf (lock_of l.session) l.teams.items;
  handed : HandedOut (view l.fn.pass) (view l.pass) l.teams.items;
  spare : length l.fetchers.items ≤ (view l.pass).spare;
  back_are : l.fn.fetchers.items ≡ l.fetchers.items ++ back l.teams.items;
  count : length l.teams.items + length l.fetchers.items ≡ length l.fn.fetchers.items;
  fit : length l.fn.fetchers.items ≤ vec_capacity l.teams;
  room : length l.fn.fetchers.items ≤ vec_capacity l.fetchers;
}

abbrev pub decreases-loop-fetch : goal.decreases-loop-fetch
decreases-loop-fetch g l = length l.fetchers.items
