use Rattle.std.proofs.Common.{◌≡◌, ℕ, List, Option, length, IfSome, sym, subst}
use Rattle.addr_walks.specs.Places.{EachAt}
use Rattle.addr_layout.specs.Graph.{IsDirect}
use Rattle.addr_layout.specs.Links.{FollowsNeeds}
use Rattle.addr_layout.proofs.FollowLemmas.{direct-follows, links-follow}
use Rattle.addr_layout.proofs.counting.need_rows.Goals as goal

pub returns-in-Some : goal.returns-in-Some
returns-in-Some c =
    let graph = c.in_ok-graph.graph in
    let many = subst (λ (found : Option (List (List ℕ))). IfSome found (λ rows. length rows ≡ length graph.seeds)) c.in-Some.is c.in_ok-direct.ensures.as_many in
    let each = subst (λ (found : Option (List (List ℕ))). IfSome found (EachAt (IsDirect graph))) c.in-Some.is c.in_ok-direct.ensures.direct in
    direct-follows c.args.project.now c.args.plan.now graph c.kept.ensures c.requires.shared c.in_ok-graph.ensures.graph c.in-Some.direct many each

pub returns : goal.returns
returns c =
    let p = c.args.project.now in
    let plan = c.args.plan.now in
    subst (FollowsNeeds p plan) (sym c.in_ok-links-in-None.ensures) (links-follow p plan c.in_ok-graph.graph c.kept.ensures c.requires.shared c.in_ok-graph.ensures.graph)
