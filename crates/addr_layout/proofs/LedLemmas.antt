-- The references of a bundle's members lead to members of it, or to bundles of its direct list.
use Rattle.std.proofs.Common.{◌≡◌, ℕ, inl, inr, Bool, true, false, List, [], ◌∷◌, refl, sym, ap, subst, ◌∙◌}
use Rattle.std.specs.Bool.{MatchBool}
use Rattle.std.specs.List.{AllZip, Contains}
use Rattle.addr_base.specs.declared.ids.Guid.{Guid}
use Rattle.addr_pack.specs.declared.bundles.Plan.{Plan}
use Rattle.addr_project.specs.declared.model.Asset.{Asset}
use Rattle.addr_project.specs.Kept.{IsKept}
use Rattle.addr_project.specs.Model.{Project}
use Rattle.addr_walks.specs.Walks.Leads.{stays, goes}
use Rattle.addr_walks.proofs.Lists.{Contains-here, Contains-later, Contains-slice_get, slice_get-Contains}
use Rattle.addr_layout.specs.declared.model.LayBundle.{LayBundle}
use Rattle.addr_layout.specs.declared.model.Layout.{Layout}
use Rattle.addr_layout.specs.declared.model.RefHome.{RefHome}
use Rattle.addr_layout.specs.declared.model.RefHome.TheVariants.{Own, Bundle}
use Rattle.addr_layout.specs.Laws.{AreLed, IsLed, LeadsWell}
use Rattle.addr_layout.specs.Layout.{AreHomes, IsBare, IsFull, IsLayout}
use Rattle.addr_layout.specs.Members.{IsNumbered, Member}
use Rattle.addr_layout.specs.Needs.{IsHome}
use Rattle.addr_layout.proofs.RankLemmas.{same-some}

-- what holds of each pair, given that its left side stands in the list
zip-within : {A B : Type 0} (R S : A → B → Type 0) (xs : List A) (ys : List B) → ((x : A) (y : B) → Contains xs x → R x y → S x y) → AllZip R xs ys → AllZip S xs ys
zip-within R S [] [] takes zip = tt
zip-within R S [] (y ∷ ys) takes zip = absurd zip
zip-within R S (x ∷ xs) [] takes zip = absurd zip
zip-within R S (x ∷ xs) (y ∷ ys) takes zip = (takes x y (Contains-here x xs) zip.0, zip-within R S xs ys (λ a b here. takes a b (Contains-later x xs a here)) zip.1)

module _ (p : Project) (plan : Plan) (kept : IsKept p) where
  -- what a reference names has a number
  numbered : (asset : Asset) (y : Guid) → Contains p.assets asset → Contains asset.refs y → (m : ℕ) × IsNumbered p m y
  numbered asset y here refers =
      let other = kept.refs_named asset y here refers in
      let at = slice_get-Contains p.assets other.0 other.1 in
      (at.0, (other.0, at.1, other.2))

  led : (b : ℕ) (lay : LayBundle) → IsFull p plan b lay → (asset : Asset) → Contains p.assets asset → Member p plan b asset.guid → (y : Guid) (h : RefHome) → Contains asset.refs y → IsHome p plan b y h → IsLed p lay y h
  led b lay full asset here member y Own refers (inl (n, at, (e, there, number))) = (e.asset, number, full.members.all e.asset (y, number, (y, (n, at, (e, there, number)), stays)))
  led b lay full asset here (e, has, walk) y Own refers (inr (none, same)) =
      let number = numbered asset y here refers in
      (number.0, number.1, full.members.all number.0 (y, number.1, (e, has, goes walk ((asset, here, refl, refers), none))))
  led b lay full asset here member y (Bundle c) refers (apart, inl has) = full.direct.all c (apart, asset.guid, y, member, (asset, here, refl, refers), has)
  led b lay full asset here member y (Bundle c) refers (apart, inr (none, same)) = absurd (apart same)

  full-led : (b : ℕ) (lay : LayBundle) → IsFull p plan b lay → AllZip (AreLed p lay) lay.members lay.refs
  full-led b lay full = zip-within (AreHomes p plan b) (AreLed p lay) lay.members lay.refs each full.refs
    where
      each : (n : ℕ) (homes : List RefHome) → Contains lay.members n → AreHomes p plan b n homes → AreLed p lay n homes
      each n homes here (asset, at, zip) =
          let from = full.members.within n here in
          let same : asset ≡ from.1.0 = same-some asset from.1.0 (sym at ∙ from.1.1) in
          let guid : from.0 ≡ asset.guid = sym from.1.2 ∙ ap (λ (a : Asset). a.guid) (sym same) in
          let member = subst (Member p plan b) guid from.2 in
          (asset, at, zip-within (IsHome p plan b) (IsLed p lay) asset.refs homes (λ y h refers home. led b lay full asset (Contains-slice_get p.assets n asset at) member y h refers home) zip)

  pub all-led : (layout : Layout) → IsLayout p plan layout → LeadsWell p layout
  all-led layout laid b lay at = let is = laid.laid b lay at in by_kept is.0.kept is.2
    where
      by_kept : (t : Bool) → MatchBool t (IsBare lay) (IsFull p plan b lay) → AllZip (AreLed p lay) lay.members lay.refs
      by_kept true bare = subst (λ ms. AllZip (AreLed p lay) ms lay.refs) (sym bare.0) (subst (λ (rs : List (List RefHome)). AllZip (AreLed p lay) [] rs) (sym bare.1) tt)
      by_kept false full = full-led b lay full
