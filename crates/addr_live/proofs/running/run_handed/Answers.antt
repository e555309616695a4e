use Rattle.std.proofs.Common.{rules, arith, ◌≡◌, ◌≤◌, sym, ap, ◌∙◌, map, string_bytes, length, subst}
use Rattle.addr_turn.specs.Held.{view}
use Rattle.addr_loader.specs.Sessions.{lock_of}
use Rattle.addr_loader.specs.Teams.{TeamWorked}
use Rattle.addr_live.specs.declared.order.Order.{Order}
use Rattle.addr_live.proofs.Handing.{are_of_worked}
use Rattle.addr_live.proofs.Wholes.{first_scripts, ran_live, are_chained, rows_ended, if_some_of, pairs_length}
use Rattle.addr_live.proofs.running.run_handed.Goals as goal

pub run_beside-teams-requires-clause-scripts : goal.run_beside-teams-requires-clause-scripts
run_beside-teams-requires-clause-scripts g c κs within =
    let first = c.requires.first in
    first_scripts g.F.Fetch.gives first.0 (view c.args.handed.pass) c.args.handed.teams.items first.1 first.2

pub gather-pass-requires-clause-teams : goal.gather-pass-requires-clause-teams
gather-pass-requires-clause-teams g c = are_of_worked g.F.Fetch.gives (lock_of c.args.session) c.args.handed.teams.items c.run_beside-teams.result.0.items c.run_beside-teams.ensures.teams

pub gather-pass-requires-clause-fit : goal.gather-pass-requires-clause-fit
gather-pass-requires-clause-fit g c =
    let same = pairs_length (TeamWorked g.F.Fetch.gives (lock_of c.args.session)) c.args.handed.teams.items c.run_beside-teams.result.0.items c.run_beside-teams.ensures.teams in
    let room = c.requires.room.1 in
    omega (arith, same, room)

pub returns-clause-rows : goal.returns-clause-rows
returns-clause-rows g c =
    let first = c.requires.first in
    let ran = c.run_beside-teams.result.1 in
    if_some_of ran.text _ _ c.run_beside-teams.ensures.ran (λ text played.
    rows_ended g.F.Fetch.gives first.0 (view c.args.handed.pass) c.args.handed.teams.items first.1 first.2 (lock_of c.args.session) (view ran.pass) (view c.gather-pass.result.0) c.args.fetch ran.fetch c.finish-core.result c.run_beside-teams.result.0.items
    (map (λ (o : Order). o.command) c.args.orders.items) (string_bytes text) c.requires.some c.run_beside-teams.ensures.teams played c.gather-pass.ensures.gathered c.finish-core.ensures.finished)

pub returns-clause-live : goal.returns-clause-live
returns-clause-live g c =
    let first = c.requires.first in
    let ran = c.run_beside-teams.result.1 in
    if_some_of ran.text _ _ c.run_beside-teams.ensures.ran (λ text played.
    ran_live g.F.Fetch.gives first.0 (view c.args.handed.pass) c.args.handed.teams.items first.1 first.2 (lock_of c.args.session) (view ran.pass) (view c.gather-pass.result.0) c.args.fetch ran.fetch c.finish-core.result c.run_beside-teams.result.0.items
    (map (λ (o : Order). o.command) c.args.orders.items) (string_bytes text) c.requires.some c.run_beside-teams.ensures.teams played c.gather-pass.ensures.gathered c.finish-core.ensures.finished)

pub returns-clause-chained : goal.returns-clause-chained
returns-clause-chained g c =
    let first = c.requires.first in
    let ran = c.run_beside-teams.result.1 in
    if_some_of ran.text _ _ c.run_beside-teams.ensures.ran (λ text played.
    are_chained g.F.Fetch.gives first.0 (view c.args.handed.pass) c.args.handed.teams.items first.1 first.2 (lock_of c.args.session) (view ran.pass) (view c.gather-pass.result.0) c.args.fetch ran.fetch c.finish-core.result c.run_beside-teams.result.0.items
    (map (λ (o : Order). o.command) c.args.orders.items) (string_bytes text) c.requires.some c.run_beside-teams.ensures.teams played c.gather-pass.ensures.gathered c.finish-core.ensures.finished c.gather-pass.result.1.items c.gather-pass.ensures.back)
