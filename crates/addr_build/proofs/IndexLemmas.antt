-- The release of made bundles, from the bytes of its state and of its catalogue.
use Rattle.std.proofs.Common.{◌≡◌, ℕ, List, length, map, Some, refl, sym, ap, ap₂, subst, ◌∙◌}
use Rattle.std.specs.List.{slice_get}
use Rattle.addr_base.specs.Ids.{digest_of}
use Rattle.addr_base.specs.Files.{Store}
use Rattle.addr_base.specs.declared.ids.Digest.{Digest}
use Rattle.addr_catalog.specs.ReadsAlike.{ReadsAlike}
use Rattle.addr_catalog.specs.Written.{catalogue_text}
use Rattle.addr_images.specs.Catalogues.{IsCatalogueOf, catalogue_for}
use Rattle.addr_images.specs.States.{AreBundleRows}
use Rattle.addr_locate.specs.declared.rows.BundleRow.{BundleRow}
use Rattle.addr_pack.specs.declared.bundles.Plan.{Plan}
use Rattle.addr_project.proofs.OnceLemmas.{from_map}
use Rattle.addr_project.specs.Model.{Project}
use Rattle.addr_release.specs.Built.{IsBundleOf, ReleaseBundle, catalogue_of}
use Rattle.addr_release.specs.Names.{digest_from}
use Rattle.addr_walks.specs.Places.{EachAt}
use Rattle.addr_build.specs.within.Building.{AreLaid}
use Rattle.addr_build.specs.within.Index.{IndexOf, IsStateText}

-- the rows of made bundles are those of the bundles of a full build
pub laid-rows : (p : Project) (plan : Plan) (folder : List ℕ) (old new : Store) (rows : List BundleRow) (put : ℕ) → AreLaid (IsBundleOf p plan) folder old new rows put → length rows ≡ length plan.bundles → AreBundleRows p plan rows
laid-rows p plan folder old new rows put laid many = record {
  as_many = many;
  each = λ k row at.
      let (made, here, same) = from_map (λ (m : ReleaseBundle). m.row) laid.bundles k row (subst (λ rs. slice_get rs k ≡ Some row) laid.told at) in
      (made, laid.each k made here, same);
}

pub index-is : (p : Project) (plan : Plan) (rows : List BundleRow) (state catalogue told : List ℕ) (named : Digest) (state-items catalogue-items : List ℕ)
    → IsStateText p plan rows state → told ≡ state → named.0 ≡ digest_of told → IsCatalogueOf p plan rows named catalogue → state-items ≡ state → catalogue-items ≡ catalogue
    → (bundles : List ReleaseBundle) → EachAt (IsBundleOf p plan) bundles → length bundles ≡ length plan.bundles → rows ≡ map (λ m. m.row) bundles → IndexOf p plan bundles state-items catalogue-items
index-is p plan rows state catalogue told named state-items catalogue-items (s, for, text, again) same digest listed one two bundles each many rows-are =
    let d : named ≡ digest_from state = ap (λ (b : List ℕ). let x : Digest = record { 0 = b } in x) (digest ∙ ap digest_of same) in
    let cat : catalogue_for rows listed.assets (Some named) ≡ catalogue_of bundles listed.assets (Some (digest_from state)) = ap₂ (λ rs x. catalogue_for rs listed.assets (Some x)) rows-are d in (
      record { bundles = bundles; assets = listed.assets; state = s; state_bytes = state; catalogue = catalogue },
      record {
        rows = record { as_many = many; each = each; entries = listed.entries };
        told = for bundles (sym rows-are) each;
        text = text;
        again = again;
        listed = listed.text ∙ ap catalogue_text cat;
        alike = subst (ReadsAlike catalogue) cat listed.alike;
      },
      refl,
      sym one,
      sym two,
    )
