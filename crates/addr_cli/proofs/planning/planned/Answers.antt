use Rattle.std.proofs.Common.{◌∙◌, sym, subst}
use Rattle.addr_walks.specs.Closure.{IsDeps}
use Rattle.addr_walks.specs.Places.{EachAt}
use Rattle.addr_layout.specs.Needs.{Needs}
use Rattle.addr_cli.proofs.PlanningLemmas.{needs-deps}
use Rattle.addr_cli.proofs.planning.planned.Goals as goal

pub plan_text-requires-clause-deps : goal.plan_text-requires-clause-deps
plan_text-requires-clause-deps c =
    let p = c.args.project.now in
    let placement = c.in_ok-placement.placement in
    let laid = c.in_ok-layout.layout in
    let closes = c.direct_closes.ensures.closes c.placement_is_shared.ensures.new in
    let rows = c.as_slice.ensures ∙ c.in_ok-direct.ensures in
    subst (EachAt (IsDeps (Needs p placement))) (sym c.as_slice-2.ensures) (needs-deps p placement laid closes c.as_slice.result.now rows c.in_ok-deps-2.deps c.in_ok-deps-2.ensures)

pub returns : goal.returns
returns c = (
  c.in_ok-placement.ensures.fit,
  c.in_ok-placement.placement,
  c.in_ok-placement.ensures.placed,
  c.in_ok-members.members,
  c.in_ok-members.ensures,
  c.if-members-gt-MOST.false,
  c.in_ok-deps.deps,
  c.in_ok-deps.ensures,
  c.if-deps-gt-MOST.false,
  c.in_ok-text.ensures,
)
