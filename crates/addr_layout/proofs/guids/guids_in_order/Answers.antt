use Rattle.std.proofs.Common.{sym, ap, ◌∙◌, subst, map, List}
use Rattle.std.proofs.Common.{IsPermutation}
use Rattle.addr_base.specs.declared.ids.Guid.{Guid}
use Rattle.addr_project.specs.declared.model.Asset.{Asset}
use Rattle.addr_layout.specs.Graph.{AreGuids}
use Rattle.addr_layout.proofs.GuidLemmas.{guids-are}
use Rattle.addr_layout.proofs.guids.guids_in_order.Goals as goal

pub returns : goal.returns
returns c =
    let p = c.args.project.now in
    let sorted = c.sort_unstable.new.self.items in
    let same = c.in_ok-guids.ensures ∙ ap (map (λ (asset : Asset). asset.guid)) c.assets.ensures in
    let moved = subst (λ (xs : List Guid). IsPermutation xs sorted) same c.sort_unstable.ensures.permutation in
    subst (AreGuids p) (sym c.from_vec.ensures) (guids-are p sorted c.kept.ensures moved c.sort_unstable.ensures.sorted)
