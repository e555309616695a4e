use Rattle.std.proofs.Common.{List, ℕ, subst, ◌∙◌}
use Rattle.addr_analyze.specs.Isolation.{IsFreeName}
use Rattle.addr_base.specs.declared.ids.Guid.{Guid}
use Rattle.addr_project.specs.declared.model.Group.{Group}
use Rattle.addr_isolate.specs.Isolating.{IsWritten, guids_of}
use Rattle.addr_isolate.proofs.IsolateLemmas.{fault-is, made-is}
use Rattle.addr_isolate.proofs.isolating.isolate.Goals as goal

pub returns-in-Some : goal.returns-in-Some
returns-in-Some c = c.in-Some.ensures.some c.args.file.now

pub returns-in-Ok : goal.returns-in-Ok
returns-in-Ok c =
    let guids = c.as_slice.ensures ∙ c.in_ok-guids.ensures in
    let text = subst (λ (name : List ℕ). IsWritten c.args.file.now name (guids_of c.args.found.now) c.in-Ok.file) c.as_str.ensures
    (subst (λ (gs : List Guid). IsWritten c.args.file.now c.as_str.result.now gs c.in-Ok.file) guids c.in-Ok.ensures.ok) in
    made-is c.args.project.now c.args.plan.now c.args.found.now c.args.file.now (record { group = c.in_ok-group.group; file = c.in-Ok.file }) c.kept.ensures c.requires.found
    (record {
      free = subst (λ (gs : List Group). IsFreeName gs c.in_ok-group.group) c.groups.ensures c.in_ok-group.ensures.free;
      text = c.in_ok-group.ensures.text;
      groups = c.in_default.ensures.none.0;
      entries = c.in_default.ensures.none.1;
    }) text

pub returns-in-Err : goal.returns-in-Err
returns-in-Err c = fault-is c.args.project.now c.args.found.now c.args.file.now c.in-Err.refusal c.in-Err.ensures.err
