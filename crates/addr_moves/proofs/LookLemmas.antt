-- What is seen at places: one more reference, and the spoilt GUIDs.
use Rattle.std.proofs.Common.{◌≡◌, ◌↔◌, ◌⊎◌, inl, inr, ℕ, Bool, true, false, not, IsTrue, List, [], ◌∷◌, ◌++◌, length, map, Option, Some, None, refl, sym, ap, subst, ◌∙◌}
use Rattle.std.proofs.lemmas.Bool.{false≢true}
use Rattle.std.proofs.lemmas.List.Elements.{Contains-append_left, Contains-push, Contains-push_cases}
use Rattle.std.specs.List.{Contains, slice_get}
use Rattle.addr_base.specs.Images.{Object}
use Rattle.addr_base.specs.declared.ids.Guid.{Guid}
use Rattle.addr_base.specs.declared.images.Home.TheVariants.{Own}
use Rattle.addr_base.specs.declared.images.RefTo.{RefTo}
use Rattle.addr_layout.proofs.RankLemmas.{same-some}
use Rattle.addr_project.specs.Kept.{IsKept}
use Rattle.addr_project.specs.declared.model.Asset.{Asset}
use Rattle.addr_project.specs.Model.{Project}
use Rattle.addr_release.proofs.FaithfulLemmas.{has-assets}
use Rattle.addr_resolve.specs.declared.graph.PlaceRow.{PlaceRow}
use Rattle.addr_walks.proofs.Lists.{Contains-none, Contains-slice_get}
use Rattle.addr_moves.specs.Firsts.{AreFirsts}
use Rattle.addr_moves.proofs.AssetLemmas.{found-number}
use Rattle.addr_moves.specs.declared.looks.Homes.{Homes}
use Rattle.addr_moves.specs.within.Looks.{AreGuidsWhere, AreSpoils, IsAwayBy, IsBuiltBy, IsGapBy, IsSpoiltBy, IsStrayBy, with_guid}
use Rattle.addr_moves.specs.within.Leasts.{IsLeastIn, IsLeastWhere}
use Rattle.addr_moves.proofs.LeastLemmas.{least-same}

pub where-none : (P : RefTo → Type 0) → AreGuidsWhere P [] []
where-none P = record { within = λ g here. absurd (Contains-none g here); all = λ r here is. absurd (Contains-none r here) }

pub where-more : (P : RefTo → Type 0) (refs : List RefTo) (r : RefTo) (guids : List Guid) (t : Bool) → IsTrue t ↔ P r → AreGuidsWhere P refs guids → AreGuidsWhere P (refs ++ r ∷ []) (with_guid t r.guid guids)
where-more P refs r guids true tells are = record {
  within = λ g here. by_guid g (Contains-push_cases guids r.guid g here);
  all = λ s here is. by_ref s is (Contains-push_cases refs r s here);
}
  where
    by_guid : (g : Guid) → Contains guids g ⊎ (r.guid ≡ g) → (s : RefTo) × Contains (refs ++ r ∷ []) s × P s × (s.guid ≡ g)
    by_guid g (inl old) = let from = are.within g old in (from.0, Contains-append_left refs (r ∷ []) from.0 from.1, from.2, from.3)
    by_guid g (inr same) = (r, Contains-push refs r, tells.0 refl, same)

    by_ref : (s : RefTo) → P s → Contains refs s ⊎ (r ≡ s) → Contains (guids ++ r.guid ∷ []) s.guid
    by_ref s is (inl old) = Contains-append_left guids (r.guid ∷ []) s.guid (are.all s old is)
    by_ref s is (inr same) = subst (λ (x : RefTo). Contains (guids ++ r.guid ∷ []) x.guid) same (Contains-push guids r.guid)
where-more P refs r guids false tells are = record {
  within = λ g here. (let from = are.within g here in (from.0, Contains-append_left refs (r ∷ []) from.0 from.1, from.2, from.3));
  all = λ s here is. by_ref s is (Contains-push_cases refs r s here);
}
  where
    by_ref : (s : RefTo) → P s → Contains refs s ⊎ (r ≡ s) → Contains guids s.guid
    by_ref s is (inl old) = are.all s old is
    by_ref s is (inr same) = absurd (false≢true (tells.1 (subst P (sym same) is)))

-- the GUIDs of gaps, and the place's own where its object isn't the asset
pub spoils-from : (p : Project) (h : Homes) (places : List PlaceRow) (q : PlaceRow) (x : Object) (gaps : List Guid) (built other : Bool) → other ≡ not built → IsTrue built ↔ IsBuiltBy p q.guid x.bytes x.refs
    → AreGuidsWhere (IsGapBy h places q.bundle) x.refs gaps → AreSpoils p h places q x (with_guid other q.guid gaps)
spoils-from p h places q x gaps built true is tells are = record {
  within = λ g here. by_guid g (Contains-push_cases gaps q.guid g here);
  all = by_case;
}
  where
    never : (b : Bool) → true ≡ not b → b ≡ true → ⊥
    never true turned same = absurd (false≢true (sym turned))
    never false turned same = false≢true same

    by_guid : (g : Guid) → Contains gaps g ⊎ (q.guid ≡ g) → IsSpoiltBy p h places q x g
    by_guid g (inl old) = let from = are.within g old in inr (from.0, from.1, from.2, from.3)
    by_guid g (inr same) = inl (same, λ built-so. never built is (tells.1 built-so))

    by_case : (g : Guid) → IsSpoiltBy p h places q x g → Contains (gaps ++ q.guid ∷ []) g
    by_case g (inl (same, other)) = subst (Contains (gaps ++ q.guid ∷ [])) same (Contains-push gaps q.guid)
    by_case g (inr (r, here, gap, same)) = Contains-append_left gaps (q.guid ∷ []) g (subst (Contains gaps) same (are.all r here gap))
spoils-from p h places q x gaps built false is tells are = record {
  within = λ g here. (let from = are.within g here in inr (from.0, from.1, from.2, from.3));
  all = by_case;
}
  where
    so : (b : Bool) → false ≡ not b → b ≡ true
    so true turned = refl
    so false turned = absurd (false≢true turned)

    by_case : (g : Guid) → IsSpoiltBy p h places q x g → Contains gaps g
    by_case g (inl (same, other)) = absurd (other (tells.0 (so built is)))
    by_case g (inr (r, here, gap, same)) = subst (Contains gaps) same (are.all r here gap)

-- the least stray
pub away-from : (h : Homes) (q : PlaceRow) (x : Object) (strays : List Guid) (away : Option Guid) → AreGuidsWhere (IsStrayBy h q.bundle) x.refs strays → IsLeastIn strays away → IsLeastWhere (IsAwayBy h q x) away
away-from h q x strays away are least = least-same (Contains strays) (IsAwayBy h q x) (λ d here. are.within d here) (λ d (r, here, stray, same). subst (Contains strays) same (are.all r here stray)) away least

abbrev pub no-ref : RefTo
no-ref = record { guid = record { 0 = [] }; home = Own }

-- an object is compared with the asset of its GUID
module _ (p : Project) (kept : IsKept p) (find : List ℕ → Option ℕ) (firsts : AreFirsts (map (λ (asset : Asset). asset.guid.0) p.assets) find) (guid : Guid) (bytes : List ℕ) (refs : List RefTo) (n : ℕ) (asset : Asset)
    (is : Some n ≡ find guid.0) (at : slice_get p.assets n ≡ Some asset) where
  own : asset.guid ≡ guid
  own = let number = found-number p kept find firsts guid n (sym is) in ap (λ (a : Asset). a.guid) (same-some asset number.0 (sym at ∙ number.1)) ∙ number.2

  one-asset-here : (other : Asset) → Contains p.assets other → other.guid ≡ guid → other ≡ asset
  one-asset-here other here same = (has-assets p kept).distinct other asset here (Contains-slice_get p.assets n asset at) (same ∙ sym own)

  pub built-iff : (t : Bool) → bytes ≡ asset.bytes → IsTrue t ↔ (map (λ (r : RefTo). r.guid) refs ≡ asset.refs) → IsTrue t ↔ IsBuiltBy p guid bytes refs
  built-iff t same tells = (
    λ holds. (asset, Contains-slice_get p.assets n asset at, own, same, tells.0 holds),
    λ (other, here, guids, content, references). tells.1 (references ∙ ap (λ (a : Asset). a.refs) (one-asset-here other here guids)),
  )

  pub other-bytes : (bytes ≡ asset.bytes → ⊥) → IsTrue false ↔ IsBuiltBy p guid bytes refs
  other-bytes differs = (λ never. absurd (false≢true never), λ (other, here, guids, content, references). absurd (differs (content ∙ ap (λ (a : Asset). a.bytes) (one-asset-here other here guids))))
