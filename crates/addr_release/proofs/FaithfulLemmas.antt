-- From a place that holds what a project has, the files show what the project shows: building and updating stand on this.
use Rattle.std.proofs.Common.{◌≡◌, ◌≢◌, ◌↔◌, ℕ, List, map, Some, sym, ap, ◌∙◌}
use Rattle.std.specs.List.{Contains, slice_get}
use Rattle.addr_base.specs.declared.ids.Guid.{Guid}
use Rattle.addr_base.specs.declared.images.RefTo.{RefTo}
use Rattle.addr_cab.specs.declared.object.ObjectOut.{ObjectOut}
use Rattle.addr_layout.specs.Agreement.{Place, place}
use Rattle.addr_layout.specs.Members.{HasEntry}
use Rattle.addr_layout.proofs.RankLemmas.{same-some}
use Rattle.addr_pack.specs.declared.bundles.Plan.{Plan}
use Rattle.addr_project.specs.declared.model.Asset.{Asset}
use Rattle.addr_project.specs.Kept.{IsKept}
use Rattle.addr_project.specs.Model.{Project}
use Rattle.addr_project.proofs.OnceLemmas.{to_map}
use Rattle.addr_project.specs.Reach.{Item, Refers, Reaches, Reach, IsReached, item_of}
use Rattle.addr_walks.specs.Walks.{Leads}
use Rattle.addr_walks.specs.Walks.Leads.{stays, goes}
use Rattle.addr_walks.proofs.Lists.{Contains-map, map-Contains, slice_get-Contains, IsListOf-same}
use Rattle.addr_walks.proofs.Walking.{kept-along}
use Rattle.addr_release.specs.Opened.{Opened, Holds, LeadsTo, Jumps, item_of_object, ShowsAt, IsWhole, Taken, IsUnfolding}

-- each reference names an asset, and no two assets have one GUID
pub record HasAssets (p : Project) : Type 0 where
  pub named : (x y : Guid) → Refers p x y → (asset : Asset) × Contains p.assets asset × (asset.guid ≡ y)
  pub distinct : (d e : Asset) → Contains p.assets d → Contains p.assets e → d.guid ≡ e.guid → d ≡ e

pub has-assets : (p : Project) → IsKept p → HasAssets p
has-assets p kept = record {
  named = λ x y (asset, here, guid, refers). kept.refs_named asset y here refers;
  distinct = λ d e here there same.
      let first = slice_get-Contains p.assets d here in
      let second = slice_get-Contains p.assets e there in
      let guid : (λ (a : Asset). a.guid.0) d ≡ (λ (a : Asset). a.guid.0) e = ap (λ (g : Guid). g.0) same in
      let number : first.0 ≡ second.0 = kept.assets_once first.0 second.0 e.guid.0 (to_map (λ (a : Asset). a.guid.0) p.assets first.0 d first.1 ∙ ap Some guid) (to_map (λ (a : Asset). a.guid.0) p.assets second.0 e second.1) in
      same-some d e (sym first.1 ∙ ap (slice_get p.assets) number ∙ second.1);
}

-- Some places of a release hold what the project has: each holds an asset's bytes and references, each of its references
-- leads to a place, and that place is one of them too.
pub record IsFaithful (p : Project) (files : List Opened) (good : Place → Type 0) : Type 0 where
  pub some : (q : Place) → good q → (o : ObjectOut) × Holds files q o
  pub same : (q : Place) → good q → (o : ObjectOut) → Holds files q o → (asset : Asset) × Contains p.assets asset × (item_of_object o ≡ item_of asset)
  pub leads : (q : Place) → good q → (o : ObjectOut) → Holds files q o → (r : RefTo) → Contains o.refs r → (c : ℕ) × LeadsTo files q.bundle r.home c
  pub kept : (q s : Place) → good q → Jumps files q s → good s

-- They do so, each entry's place is one of them, and where a step leaves a bundle, the bundle needs the other one.
pub record Carries (p : Project) (plan : Plan) (needs : ℕ → ℕ → Type 0) (files : List Opened) (good : Place → Type 0) : Type 0 where
  pub faithful : IsFaithful p files good
  pub entries : (b : ℕ) (a : Guid) → HasEntry p plan b a → good (place b a)
  pub needed : (q s : Place) → good q → Jumps files q s → q.bundle ≢ s.bundle → needs q.bundle s.bundle

module _ (p : Project) (files : List Opened) (good : Place → Type 0) (assets : HasAssets p) (faithful : IsFaithful p files good) where
  -- what the place holds is the asset with its GUID
  asset-at : (q : Place) (o : ObjectOut) → good q → Holds files q o → (asset : Asset) × Contains p.assets asset × (item_of_object o ≡ item_of asset) × (asset.guid ≡ q.guid)
  asset-at q o is holds =
      let found = faithful.same q is o holds in
      (found.0, found.1, found.2, sym (ap (λ (i : Item). i.guid) found.2) ∙ holds.3)

  jump-refers : (q s : Place) → good q → Jumps files q s → Refers p q.guid s.guid
  jump-refers q s is (o, holds, r, here, guid, leads) =
      let found = asset-at q o is holds in
      let refs : map (λ (r : RefTo). r.guid) o.refs ≡ found.0.refs = ap (λ (i : Item). i.refs) found.2 in
      (found.0, found.1, found.3, rw (← refs, ← guid) (Contains-map (λ (r : RefTo). r.guid) o.refs r here))

  pub good-along : (q s : Place) → good q → Leads (Jumps files) q s → good s
  good-along q s is walk = kept-along (Jumps files) good (λ x y step here. faithful.kept x y step here) q s is walk

  walk-reaches : (q s : Place) → good q → Leads (Jumps files) q s → Reaches p q.guid s.guid
  walk-reaches q s is stays = stays
  walk-reaches q s is (goes {x = x} {y = y} before last) = goes (walk-reaches q x is before) (jump-refers x y (good-along q x is before) last)

  -- each reference of the project is followed
  jump-found : (q : Place) (y : Guid) → good q → Refers p q.guid y → (c : ℕ) × Jumps files q (place c y)
  jump-found q y is (asset, here, guid, refers) =
      let there = faithful.some q is in
      let found = asset-at q there.0 is there.1 in
      let same : asset ≡ found.0 = assets.distinct asset found.0 here found.1 (guid ∙ sym found.3) in
      let refs : map (λ (r : RefTo). r.guid) there.0.refs ≡ asset.refs = ap (λ (i : Item). i.refs) found.2 ∙ ap (λ (a : Asset). a.refs) (sym same) in
      let ref = map-Contains (λ (r : RefTo). r.guid) there.0.refs y (rw refs refers) in
      let home = faithful.leads q is there.0 there.1 ref.0 ref.1 in
      (home.0, (there.0, there.1, ref.0, ref.1, ref.2, home.1))

  walk-found : (b : ℕ) (a d : Guid) → good (place b a) → Reaches p a d → (c : ℕ) × Leads (Jumps files) (place b a) (place c d)
  walk-found b a d is stays = (b, stays)
  walk-found b a d is (goes {x = x} {y = y} before last) =
      let sofar = walk-found b a x is before in
      let step = jump-found (place sofar.0 x) y (good-along (place b a) (place sofar.0 x) is sofar.1) last in
      (step.0, goes sofar.1 step.1)

  whole : (start : Place) → good start → IsWhole files start
  whole start is q walk = let here = good-along start q is walk in let there = faithful.some q here in (there.0, there.1, faithful.leads q here there.0 there.1)

  taken-shown : (b : ℕ) (a : Guid) → good (place b a) → (i : Item) → Taken files (place b a) i → IsReached p a i
  taken-shown b a is i (c, walk, shows, low) =
      let here = good-along (place b a) (place c i.guid) is walk in
      let found = asset-at (place c i.guid) shows.0 here shows.1 in
      let reach = walk-reaches (place b a) (place c i.guid) is walk in
      (found.0, found.1, rw found.3 reach, shows.2 ∙ found.2)

  shows-asset : (q : Place) (asset : Asset) → good q → Contains p.assets asset → asset.guid ≡ q.guid → ShowsAt files q (item_of asset)
  shows-asset q asset is here guid =
      let there = faithful.some q is in
      let found = asset-at q there.0 is there.1 in
      let same : asset ≡ found.0 = assets.distinct asset found.0 here found.1 (guid ∙ sym found.3) in
      (there.0, there.1, ap item_of same ∙ sym found.2)

  shown-taken : (b : ℕ) (a : Guid) → good (place b a) → (i : Item) → IsReached p a i → Taken files (place b a) i
  shown-taken b a is i (asset, here, reach, item) =
      let guid : asset.guid ≡ i.guid = sym (ap (λ (j : Item). j.guid) item) in
      let to : Reaches p a i.guid = rw (← guid) reach in
      let there = walk-found b a i.guid is to in
      let shows : (c : ℕ) → Leads (Jumps files) (place b a) (place c i.guid) → ShowsAt files (place c i.guid) i = λ c walk. (let s = shows-asset (place c i.guid) asset (good-along (place b a) (place c i.guid) is walk) here guid in (s.0, s.1, item ∙ s.2)) in
      (there.0, there.1, shows there.0 there.1, λ c low walk. shows c walk)

  pub faithful-shows : (b : ℕ) (a : Guid) → good (place b a) → (items : List Item) → IsUnfolding files (place b a) items ↔ Reach p a items
  faithful-shows b a is items = (
    λ u. IsListOf-same (Taken files (place b a)) (IsReached p a) (taken-shown b a is) (shown-taken b a is) items u.lists,
    λ shown. record { whole = whole (place b a) is; lists = IsListOf-same (IsReached p a) (Taken files (place b a)) (shown-taken b a is) (taken-shown b a is) items shown },
  )

  -- good places with one GUID hold the same bytes and references
  pub places-agree : (q s : Place) (d e : ObjectOut) → good q → good s → q.guid ≡ s.guid → Holds files q d → Holds files s e → item_of_object d ≡ item_of_object e
  places-agree q s d e first second guid here there =
      let one = asset-at q d first here in
      let two = asset-at s e second there in
      let same : one.0 ≡ two.0 = assets.distinct one.0 two.0 one.1 two.1 (one.3 ∙ guid ∙ sym two.3) in
      one.2 ∙ ap item_of same ∙ sym two.2
