use Rattle.std.proofs.Common.{◌≡◌, ◌+◌, ◌≤◌, ◌++◌, List, length, vec_capacity}
use Rattle.addr_turn.specs.Held.{view}
use Rattle.addr_loader.specs.declared.team.Team.{Team}
use Rattle.addr_loader.specs.Sessions.{IsOf, lock_of}
use Rattle.addr_loader.specs.Teams.{AreOf}
use Rattle.addr_live.specs.Hands.{Gathered, back}
use Rattle.addr_live.proofs.hands.gather.Given as goal

abbrev pub invariant-loop-team : goal.invariant-loop-team
invariant-loop-team g l = record {
  pass : IsOf l.session l.pass;
  teams : AreOf (lock_of l.session) l.teams.items;
  gathered : (done : List (Team g.row.F.Denot)) × (l.teams.items ++ done ≡ l.fn.teams.items) × Gathered (view l.fn.pass) done (view l.pass) × (l.fetchers.items ≡ back done);
  count : length l.teams.items + length l.fetchers.items ≡ length l.fn.teams.items;
  fit : length l.fn.teams.items ≤ vec_capacity l.fetchers;
}

abbrev pub decreases-loop-team : goal.decreases-loop-team
decreases-loop-team g l = length l.teams.items
