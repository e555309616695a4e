-- The project's references by number: one more GUID, and walks over numbers are walks over GUIDs.
use Rattle.std.proofs.Common.{◌≡◌, ◌<◌, ◌⊎◌, inl, inr, ℕ, List, [], ◌∷◌, ◌++◌, length, map, Option, Some, None, refl, sym, ap, subst, ◌∙◌, arith}
use Rattle.std.proofs.lemmas.List.Elements.{Contains-append_left, Contains-push, Contains-push_cases}
use Rattle.std.proofs.lemmas.Option.{slice_get_within}
use Rattle.std.specs.List.{AllZip, Contains, slice_get}
use Rattle.addr_base.specs.declared.ids.Guid.{Guid}
use Rattle.addr_layout.proofs.GuidLemmas.{same-guid}
use Rattle.addr_layout.proofs.RankLemmas.{same-some}
use Rattle.addr_layout.specs.Members.{IsNumbered}
use Rattle.addr_project.proofs.OnceLemmas.{from_map, to_map}
use Rattle.addr_project.specs.Kept.{IsKept}
use Rattle.addr_project.specs.declared.model.Asset.{Asset}
use Rattle.addr_project.specs.Model.{Project}
use Rattle.addr_project.specs.Reach.{Refers, Reaches}
use Rattle.addr_release.proofs.FaithfulLemmas.{HasAssets, has-assets}
use Rattle.addr_walks.proofs.Lists.{Contains-map, Contains-none, Contains-slice_get, slice_get-Contains}
use Rattle.addr_walks.proofs.Numbering.{AreSteps, walk-down, walk-up}
use Rattle.addr_walks.proofs.Zips.{zip-left, zip-right}
use Rattle.addr_walks.specs.Rows.{AreBelow, Edge}
use Rattle.addr_walks.specs.Walks.{Leads}
use Rattle.addr_moves.specs.Firsts.{AreFirsts, IsFirstAt}
use Rattle.addr_moves.specs.within.Assets.{AreFound, with_found}

pub found-none : (find : List ℕ → Option ℕ) → AreFound find [] []
found-none find = record { within = λ n here. absurd (Contains-none n here); all = λ g n here is. absurd (Contains-none g here) }

pub found-more : (find : List ℕ → Option ℕ) (guids : List Guid) (g : Guid) (row : List ℕ) (o : Option ℕ) → o ≡ find g.0 → AreFound find guids row → AreFound find (guids ++ g ∷ []) (with_found o row)
found-more find guids g row None is are = record {
  within = λ n here. (let from = are.within n here in (from.0, Contains-append_left guids (g ∷ []) from.0 from.1, from.2));
  all = λ h n here there. by_side h n there (Contains-push_cases guids g h here);
}
  where
    by_side : (h : Guid) (n : ℕ) → find h.0 ≡ Some n → Contains guids h ⊎ (g ≡ h) → Contains row n
    by_side h n there (inl old) = are.all h n old there
    by_side h n there (inr same) = absurd (cc (is ∙ (ap (λ (x : Guid). find x.0) same ∙ there)))
found-more find guids g row (Some m) is are = record {
  within = λ n here. by_row n (Contains-push_cases row m n here);
  all = λ h n here there. by_side h n there (Contains-push_cases guids g h here);
}
  where
    by_row : (n : ℕ) → Contains row n ⊎ (m ≡ n) → (h : Guid) × Contains (guids ++ g ∷ []) h × (find h.0 ≡ Some n)
    by_row n (inl old) = let from = are.within n old in (from.0, Contains-append_left guids (g ∷ []) from.0 from.1, from.2)
    by_row n (inr same) = (g, Contains-push guids g, sym is ∙ ap Some same)

    by_side : (h : Guid) (n : ℕ) → find h.0 ≡ Some n → Contains guids h ⊎ (g ≡ h) → Contains (row ++ m ∷ []) n
    by_side h n there (inl old) = Contains-append_left row (m ∷ []) n (are.all h n old there)
    by_side h n there (inr same) =
        let number : m ≡ n = same-some m n (is ∙ (ap (λ (x : Guid). find x.0) same ∙ there)) in
        subst (Contains (row ++ m ∷ [])) number (Contains-push row m)

module _ (p : Project) (kept : IsKept p) (find : List ℕ → Option ℕ) (firsts : AreFirsts (map (λ (asset : Asset). asset.guid.0) p.assets) find) where
  first-at : (text : List ℕ) (o : Option ℕ) → find text ≡ o → IsFirstAt (map (λ (asset : Asset). asset.guid.0) p.assets) text o
  first-at text o is = subst (IsFirstAt (map (λ (asset : Asset). asset.guid.0) p.assets) text) is (firsts text)

  -- a GUID is found at the number of its asset
  pub found-number : (g : Guid) (n : ℕ) → find g.0 ≡ Some n → IsNumbered p n g
  found-number g n is = let at = from_map (λ (asset : Asset). asset.guid.0) p.assets n g.0 (first-at g.0 (Some n) is).0 in (at.0, at.1, same-guid at.0.guid g at.2)

  pub number-found : (n : ℕ) (g : Guid) → IsNumbered p n g → find g.0 ≡ Some n
  number-found n g (asset, at, guid) = by_found (find g.0) refl
    where
      by_found : (o : Option ℕ) → find g.0 ≡ o → find g.0 ≡ Some n
      by_found None is = absurd (first-at g.0 None is (subst (Contains (map (λ (asset : Asset). asset.guid.0) p.assets)) (ap (λ (x : Guid). x.0) guid) (Contains-map (λ (asset : Asset). asset.guid.0) p.assets asset (Contains-slice_get p.assets n asset at))))
      by_found (Some m) is =
          let there = (first-at g.0 (Some m) is).0 in
          let number : m ≡ n = kept.assets_once m n g.0 there (to_map (λ (asset : Asset). asset.guid.0) p.assets n asset at ∙ ap (λ (x : Guid). Some x.0) guid) in
          is ∙ ap Some number

  pub asset-found : (asset : Asset) → Contains p.assets asset → (n : ℕ) × (find asset.guid.0 ≡ Some n) × (slice_get p.assets n ≡ Some asset)
  asset-found asset here = let at = slice_get-Contains p.assets asset here in (at.0, number-found at.0 asset.guid (asset, at.1, refl), at.1)

  module _ (rows : List (List ℕ)) (are : AllZip (λ (asset : Asset) (row : List ℕ). AreFound find asset.refs row) p.assets rows) where
    abbrev guids : List Guid
    guids = map (λ (asset : Asset). asset.guid) p.assets

    R : Asset → List ℕ → Type 0
    R asset row = AreFound find asset.refs row

    pub steps : AreSteps (map (λ (asset : Asset). asset.guid) p.assets) (Refers p) rows
    steps = record { up = up; down = down }
      where
        up : (r s : ℕ) (x : Guid) → slice_get (map (λ (asset : Asset). asset.guid) p.assets) r ≡ Some x → Edge rows r s → (y : Guid) × (slice_get (map (λ (asset : Asset). asset.guid) p.assets) s ≡ Some y) × Refers p x y
        up r s x named (row, at, here) =
            let asset = zip-right (λ (asset : Asset) (row : List ℕ). AreFound find asset.refs row) p.assets rows are r row at in
            let from = asset.2.within s here in
            let own : asset.0.guid ≡ x = same-some asset.0.guid x (sym (to_map (λ (asset : Asset). asset.guid) p.assets r asset.0 asset.1) ∙ named) in
            let number = found-number from.0 s from.2 in
            (from.0, to_map (λ (asset : Asset). asset.guid) p.assets s number.0 number.1 ∙ ap Some number.2, (asset.0, Contains-slice_get p.assets r asset.0 asset.1, own, from.1))

        down : (r : ℕ) (x y : Guid) → slice_get (map (λ (asset : Asset). asset.guid) p.assets) r ≡ Some x → Refers p x y → (s : ℕ) × (slice_get (map (λ (asset : Asset). asset.guid) p.assets) s ≡ Some y) × Edge rows r s
        down r x y named (asset, here, guid, refers) =
            let at = from_map (λ (asset : Asset). asset.guid) p.assets r x named in
            let own : at.0 ≡ asset = (has-assets p kept).distinct at.0 asset (Contains-slice_get p.assets r at.0 at.1) here (at.2 ∙ sym guid) in
            let row = zip-left (λ (asset : Asset) (row : List ℕ). AreFound find asset.refs row) p.assets rows are r at.0 at.1 in
            let to = kept.refs_named asset y here refers in
            let number = asset-found to.0 to.1 in (
              number.0,
              to_map (λ (asset : Asset). asset.guid) p.assets number.0 to.0 number.2 ∙ ap Some to.2,
              (row.0, row.1, row.2.all y number.0 (subst (λ (b : Asset). Contains b.refs y) (sym own) refers) (ap (λ (g : Guid). find g.0) (sym to.2) ∙ number.1)),
            )

    -- an asset is reached exactly where its number is
    pub reach-up : (m n : ℕ) (a : Guid) → IsNumbered p m a → Leads (Edge rows) m n → (d : Guid) × IsNumbered p n d × Reaches p a d
    reach-up m n a (asset, at, guid) walk =
        let up = walk-up (map (λ (asset : Asset). asset.guid) p.assets) (Refers p) rows steps m n a (to_map (λ (asset : Asset). asset.guid) p.assets m asset at ∙ ap Some guid) walk in
        (up.0, from_map (λ (asset : Asset). asset.guid) p.assets n up.0 up.1, up.2)

    pub reach-down : (m : ℕ) (a d : Guid) → IsNumbered p m a → Reaches p a d → (n : ℕ) × IsNumbered p n d × Leads (Edge rows) m n
    reach-down m a d (asset, at, guid) walk =
        let down = walk-down (map (λ (asset : Asset). asset.guid) p.assets) (Refers p) rows steps m a d (to_map (λ (asset : Asset). asset.guid) p.assets m asset at ∙ ap Some guid) walk in
        (down.0, from_map (λ (asset : Asset). asset.guid) p.assets down.0 d down.1, down.2)
