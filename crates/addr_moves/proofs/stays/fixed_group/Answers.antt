use Rattle.std.proofs.Common.{ap, ◌∙◌}
use Rattle.std.proofs.lemmas.Option.{slice_get_within}
use Rattle.addr_project.specs.declared.model.Group.{Group}
use Rattle.addr_moves.specs.Firsts.{number_under}
use Rattle.addr_moves.proofs.GroupLemmas.{group-at, not-fixed, read-in}
use Rattle.addr_moves.proofs.stays.fixed_group.Goals as goal

pub returns-else-groups-n : goal.returns-else-groups-n
returns-else-groups-n c =
    let p = c.args.project.now in
    let find = number_under c.args.groups.now in
    let n = c.in-Some.n in
    let own = group-at p c.kept.ensures find c.requires.groups c.args.name.now n c.in-Some.ensures in
    let at = read-in c.groups.result.now p.groups n c.index-groups-n.result c.groups.ensures (slice_get_within p.groups n own.0 own.1) c.index-groups-n.is in
    not-fixed p c.kept.ensures find c.requires.groups c.args.name.now n c.index-groups-n.result c.in-Some.ensures at (ap (λ (g : Group). g.fixed) c.index-groups-n.is ∙ c.if-groups-n.false)
