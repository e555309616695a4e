-- An update's placement is one.
use Rattle.std.proofs.Common.{◌≡◌, ℕ, inl, inr, List, Some, sym, ap, ◌∙◌}
use Rattle.std.specs.Cmp.{nat_cmp_total}
use Rattle.addr_pack.specs.declared.bundles.Plan.{Plan}
use Rattle.addr_pack.specs.declared.bundles.PlanBundle.{PlanBundle}
use Rattle.addr_project.specs.declared.model.Group.{Group}
use Rattle.addr_project.specs.Kept.{IsKept as IsKeptProject}
use Rattle.addr_project.proofs.OnceLemmas.{to_map}
use Rattle.addr_state.specs.declared.model.StateBundle.{StateBundle}
use Rattle.addr_walks.proofs.Lists.{one-list, same-list}
use Rattle.addr_update.specs.declared.model.KeptBundle.{KeptBundle}
use Rattle.addr_update.specs.Moved.{Update, IsKeptNo, IsMovedNo}
use Rattle.addr_update.specs.Placement.{IsKeptAs, IsSplit, IsUpdateBundle, IsUpdated, kept_bundle, moved_bundle}
use Rattle.addr_update.proofs.SharedLemmas.{name-order}

same-kept : (j k : KeptBundle) → j.name ≡ k.name → j.group ≡ k.group → j.entries ≡ k.entries → kept_bundle j ≡ kept_bundle k
same-kept j k name group entries = cc

same-plan : (x y : Plan) → x.bundles ≡ y.bundles → x ≡ y
same-plan x y same = λ i. record { bundles = same i }

module _ (u : Update) (project : IsKeptProject u.project) where
  -- a bundle of the state stays as one bundle
  one-kept : (j k : KeptBundle) (m : ℕ) (old : StateBundle) → IsKeptAs u j m old → IsKeptAs u k m old → kept_bundle j ≡ kept_bundle k
  one-kept j k m old first second =
      let name : first.group.name ≡ second.group.name = first.group_name ∙ sym second.group_name in
      let group : j.group ≡ k.group = project.groups_once j.group k.group second.group.name
      (to_map (λ (g : Group). g.name) u.project.groups j.group first.group first.group_at ∙ ap Some name)
      (to_map (λ (g : Group). g.name) u.project.groups k.group second.group second.group_at) in
      same-kept j k (first.name ∙ sym second.name) group (one-list nat_cmp_total (IsKeptNo u m) j.entries k.entries first.entries second.entries)

  module _ (kept other : List KeptBundle) (moved also : List ℕ) (split : IsSplit u kept moved) (again : IsSplit u other also) where
    one-moved : moved ≡ also
    one-moved = one-list nat_cmp_total (IsMovedNo u) moved also split.moves again.moves

    in-other : (b : PlanBundle) → IsUpdateBundle u.project u.now kept moved b → IsUpdateBundle u.project u.now other also b
    in-other b (inl own) = inl own
    in-other b (inr (inl (some, is))) = inr (inl ((λ none. some (one-moved ∙ none)), is ∙ ap (moved_bundle u.project) one-moved))
    in-other b (inr (inr (k, here, is))) =
        let from = split.bundles k here in
        let to = again.all from.0 from.1 from.2.stays in
        inr (inr (to.0, to.1, is ∙ one-kept k to.0 from.0 from.1 from.2 to.2))

  pub one-updated : (plan other : Plan) → IsUpdated u plan → IsUpdated u other → plan ≡ other
  one-updated plan other (kept, moved, split, list) (more, also, again, listed) =
      same-plan plan other (same-list name-order (IsUpdateBundle u.project u.now kept moved) (IsUpdateBundle u.project u.now more also)
      (in-other kept more moved also split again) (in-other more kept also moved again split) plan.bundles other.bundles list listed)
