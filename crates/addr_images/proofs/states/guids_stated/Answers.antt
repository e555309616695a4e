use Rattle.std.proofs.Common.{map, ap, subst, sym, ◌∙◌}
use Rattle.std.specs.List.{filter}
use Rattle.addr_layout.specs.Members.{HasEntry, Member}
use Rattle.addr_project.specs.Reach.{guid_cmp}
use Rattle.addr_walks.specs.Walks.{IsListOf}
use Rattle.addr_images.specs.within.Stated.{guid_at, is_marked}
use Rattle.addr_images.proofs.StateLemmas.{all-marked-below, all-members-below, entry-guids, member-guids}
use Rattle.addr_images.proofs.states.guids_stated.Goals as goal

pub guids_of-requires : goal.guids_of-requires
guids_of-requires c = all-members-below c.args.project.now c.args.plan.now c.args.b c.args.lay.now c.as_slice-members.result.now c.kept.ensures c.requires.full c.as_slice-members.ensures

pub guids_of-requires-2 : goal.guids_of-requires-2
guids_of-requires-2 c =
    all-marked-below c.args.project.now c.args.plan.now c.args.b c.args.lay.now c.args.marks.now c.as_slice.result.now c.kept.ensures c.requires.full
    (c.as_slice.ensures ∙ (c.in_ok-marked.ensures ∙ ap (filter (is_marked c.args.marks.now)) c.as_slice-members.ensures))

pub returns-clause-objects : goal.returns-clause-objects
returns-clause-objects c =
    let p = c.args.project.now in
    subst (IsListOf guid_cmp (Member p c.args.plan.now c.args.b)) (sym (c.in_ok-objects.ensures ∙ ap (map (guid_at p)) c.as_slice-members.ensures)) (member-guids p c.args.plan.now c.args.b c.args.lay.now c.kept.ensures c.requires.full)

pub returns-clause-entries : goal.returns-clause-entries
returns-clause-entries c =
    let p = c.args.project.now in
    let marked = c.as_slice.ensures ∙ (c.in_ok-marked.ensures ∙ ap (filter (is_marked c.args.marks.now)) c.as_slice-members.ensures) in
    subst (IsListOf guid_cmp (HasEntry p c.args.plan.now c.args.b)) (sym (c.in_ok-entries.ensures ∙ ap (map (guid_at p)) marked)) (entry-guids p c.args.plan.now c.args.b c.args.lay.now c.args.marks.now c.kept.ensures c.requires.full c.requires.marks)
