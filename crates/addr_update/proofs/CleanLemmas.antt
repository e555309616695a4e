-- An entry with a clean way is neither changed nor led away.
use Rattle.std.proofs.Common.{◌≡◌, ℕ, inl, inr, map, refl, sym, ap, subst, ◌∙◌}
use Rattle.addr_base.specs.declared.ids.Guid.{Guid}
use Rattle.addr_base.specs.declared.images.RefTo.{RefTo}
use Rattle.addr_layout.specs.Agreement.{place}
use Rattle.addr_project.specs.declared.model.Asset.{Asset}
use Rattle.addr_project.specs.Reach.{Item, Reaches}
use Rattle.addr_release.specs.Opened.{Holds, Jumps}
use Rattle.addr_release.proofs.FaithfulLemmas.{HasAssets}
use Rattle.addr_walks.specs.Walks.{Leads}
use Rattle.addr_walks.specs.Walks.Leads.{stays, goes}
use Rattle.addr_walks.proofs.Lists.{map-Contains}
use Rattle.addr_update.specs.Clean.{HasCleanWay}
use Rattle.addr_update.specs.Moved.{Update, HasChanged, IsLedAway, IsOld}
use Rattle.addr_update.proofs.SplitLemmas.{one-first}

module _ (u : Update) (assets : HasAssets u.project) (a : Guid) (m : ℕ) (old : IsOld u a m) (clean : HasCleanWay u m a) where
  -- each reference of the project can be followed on the way
  way-found : (d : Guid) → Reaches u.project a d → (c : ℕ) × Leads (Jumps u.was) (place m a) (place c d)
  way-found d stays = (m, stays)
  way-found d (goes {x = x} {y = y} before (asset, here, guid, refers)) =
      let sofar = way-found x before in
      let at = clean (place sofar.0 x) sofar.1 in
      let o = at.0.0.0 in
      let holds : Holds u.was (place sofar.0 x) o = at.0.0.1 in
      let found = at.0.1 o holds in
      let own : found.0.guid ≡ x = sym (ap (λ (i : Item). i.guid) found.2) ∙ holds.3 in
      let same : asset ≡ found.0 = assets.distinct asset found.0 here found.1 (guid ∙ sym own) in
      let refs : map (λ (r : RefTo). r.guid) o.refs ≡ asset.refs = ap (λ (i : Item). i.refs) found.2 ∙ ap (λ (b : Asset). b.refs) (sym same) in
      let ref = map-Contains (λ (r : RefTo). r.guid) o.refs y (rw refs refers) in
      let led = (at.1 o ref.0 holds ref.1).1 in
      (led.0, goes sofar.1 (o, holds, ref.0, ref.1, ref.2, led.1))

  pub clean-same : (d : Guid) → ¬ HasChanged u a d
  clean-same d (reach, inl none) = let there = way-found d reach in none (place there.0 d) (m, old, there.1) refl
  clean-same d (reach, inr (q, (n, other, way), guid, fails)) = fails (clean q (subst (λ k. Leads (Jumps u.was) (place k a) q) (one-first u a n m other old) way)).0

  pub clean-led : (d : Guid) → ¬ IsLedAway u a d
  clean-led d (q, (n, other, way), o, holds, r, here, guid, fails) = fails ((clean q (subst (λ k. Leads (Jumps u.was) (place k a) q) (one-first u a n m other old) way)).1 o r holds here).0
