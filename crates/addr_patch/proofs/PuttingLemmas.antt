-- The catalogue behind the bundles of an update, and how all of its puts end.
use Rattle.std.proofs.Common.{◌≡◌, ℕ, suc, ◌+◌, List, [], ◌∷◌, ◌++◌, length, map, Option, Some, None, Result, Ok, Err, refl, sym, ap, subst, ◌∙◌, ◌⊎◌, inl, inr, arith}
use Rattle.std.specs.List.{AllZip, Contains}
use Rattle.addr_base.specs.Files.{Store, file_at}
use Rattle.addr_base.specs.declared.depot.DepotErr.{DepotErr}
use Rattle.addr_base.specs.declared.files.MemFile.{MemFile}
use Rattle.addr_base.specs.declared.ids.Digest.{Digest}
use Rattle.addr_build.specs.Endings.{Ends}
use Rattle.addr_build.specs.Moments.{LaysAll, LaysSome}
use Rattle.addr_build.specs.Release.{count_owed}
use Rattle.addr_build.specs.declared.bundles.PutBundles.{PutBundles}
use Rattle.addr_build.specs.declared.error.PutErr.{PutErr}
use Rattle.addr_build.specs.declared.error.PutErr.TheVariants.{NoMemory}
use Rattle.addr_build.specs.declared.release.Summary.{Summary}
use Rattle.addr_build.specs.within.Building.{AreLaid, StopsIn}
use Rattle.addr_build.specs.within.FromDepot.{of_depot}
use Rattle.addr_build.proofs.EndLemmas.{ends-some}
use Rattle.addr_build.proofs.LaidLemmas.{ends-as, laid-memory}
use Rattle.addr_build.proofs.PutLemmas.{lays-all-then, lays-then}
use Rattle.addr_catalog.specs.ReadsAlike.{ReadsAlike}
use Rattle.addr_catalog.specs.Written.{catalogue_text}
use Rattle.addr_images.specs.Catalogues.{catalogue_for}
use Rattle.addr_locate.specs.declared.rows.BundleRow.{BundleRow}
use Rattle.addr_release.specs.Built.{IsEntryRowAs, catalogue_of}
use Rattle.addr_release.specs.Puts.{IsAfter, all_bundle_tests, bundle_put, catalogue_put, hash_put}
use Rattle.addr_release.proofs.PutLemmas.{after-either}
use Rattle.addr_release.proofs.TestLemmas.{bundles-free}
use Rattle.addr_update.specs.After.{IsReleaseAfter, NeedsAfter, UpdatedRelease, update_puts}
use Rattle.addr_update.specs.Moved.{Update}
use Rattle.addr_patch.specs.declared.preparing.Prepared.{Prepared}
use Rattle.addr_patch.specs.within.Preparing.{IsPrepared}
use Rattle.addr_patch.specs.within.Putting.{IsCatalogueAfter, IsPut, IsPutBundle, PutsUpdate}
use Rattle.addr_patch.proofs.BundleLemmas.{keys-apart, zip-lengths}

module _ (u : Update) (made : Prepared) (folder : List ℕ) (old mid : Store) (rows : List BundleRow) (put : ℕ) (laid : AreLaid (IsPutBundle u made.plan folder old) folder old mid rows put) where
  -- what was there before stays
  pub laid-stays : (files : List MemFile) → old.files ≡ Some files → (now : List MemFile) × (mid.files ≡ Some now) × ((name bytes : List ℕ) → file_at name files ≡ Some bytes → file_at name now ≡ Some bytes)
  laid-stays files told = let (now, at, passes) = laid.lays.some.told files told in (now, at, λ name bytes there. stays now name bytes (laid.lays.all files now told at) there)
    where
      by_free : (f : MemFile) (name bytes : List ℕ) → f.name ≡ name → file_at name files ≡ Some bytes → (file_at f.name files ≡ None) ⊎ (file_at f.name files ≡ Some f.bytes) → f.bytes ≡ bytes
      by_free f name bytes is there (inl none) = absurd (cc (sym none ∙ (ap (λ (n : List ℕ). file_at n files) is ∙ there)))
      by_free f name bytes is there (inr some) = let e : Some f.bytes ≡ Some bytes = sym some ∙ (ap (λ (n : List ℕ). file_at n files) is ∙ there) in cc e

      stays : (now : List MemFile) (name bytes : List ℕ) → IsAfter (map (bundle_put folder) laid.bundles) files now → file_at name files ≡ Some bytes → file_at name now ≡ Some bytes
      stays now name bytes after there = by_put (after-either (map (bundle_put folder) laid.bundles) files now after name)
        where
          by_put : (file_at name now ≡ file_at name files) ⊎ ((f : MemFile) × Contains (map (bundle_put folder) laid.bundles) f × (f.name ≡ name) × (file_at name now ≡ Some f.bytes)) → file_at name now ≡ Some bytes
          by_put (inl same) = same ∙ there
          by_put (inr (f, here, is, now-is)) = now-is ∙ ap Some (by_free f name bytes is there (bundles-free folder laid.bundles files (laid.free files told) f here))

module _ (u : Update) (made : Prepared) (folder : List ℕ) (named : Option Digest) (old : Store) where
  -- bundles that stopped
  pub update-stopped : (new : Store) (e : PutErr) → StopsIn (IsPutBundle u made.plan folder old) folder old new e → PutsUpdate u made folder named old new (Err e)
  update-stopped new e (bundles, each, ends) = (
    map (bundle_put folder) bundles,
    all_bundle_tests bundles,
    ends-as PutBundles Summary folder (map (bundle_put folder) bundles) 0 (all_bundle_tests bundles) old new e ends,
    λ files told. inl (bundles, λ k x at. (each k x at).after files told, refl, refl),
  )

  module _ (mid : Store) (rows : List BundleRow) (put : ℕ) (laid : AreLaid (IsPutBundle u made.plan folder old) folder old mid rows put) where
    -- memory was refused behind the bundles
    pub update-memory : IsPrepared u made → PutsUpdate u made folder named old mid (Err NoMemory)
    update-memory is = update-stopped mid NoMemory (laid-memory (IsPutBundle u made.plan folder old) folder (keys-apart u made is folder old) old mid mid rows put laid)

    module _ (many : length laid.bundles ≡ length made.plan.bundles) (bytes : List ℕ) (listed : IsCatalogueAfter u made.plan rows named bytes) (new : Store) where
      abbrev release : UpdatedRelease
      release = record { bundles = laid.bundles; assets = listed.assets; catalogue = bytes }

      is-release : (files : List MemFile) → old.files ≡ Some files → IsReleaseAfter u made.plan files folder named release
      is-release files told =
          let same : catalogue_for rows listed.assets named ≡ catalogue_of laid.bundles listed.assets named = ap (λ rs. catalogue_for rs listed.assets named) laid.told in
          record {
            rows = record { as_many = many; each = λ k x at. (laid.each k x at).after files told; entries = listed.entries };
            listed = listed.text ∙ ap catalogue_text same;
            alike = subst (ReadsAlike bytes) same listed.alike;
          }

      abbrev behind : List MemFile
      behind = catalogue_put folder bytes ∷ hash_put folder bytes ∷ []

      pub update-failed : (cause : DepotErr) → LaysSome behind mid new → PutsUpdate u made folder named old new (Err (of_depot cause))
      update-failed cause some = (
        update_puts folder release,
        all_bundle_tests laid.bundles,
        ends-some Summary folder (update_puts folder release) 0 (all_bundle_tests laid.bundles) old new cause (lays-then (map (bundle_put folder) laid.bundles) behind old mid new laid.lays some) laid.free,
        λ files told. inr (release, is-release files told, refl, refl),
      )

      pub update-done : (summary : Summary) → LaysAll behind mid new → summary.moved ≡ made.moved → summary.bundles ≡ length made.plan.bundles → summary.put ≡ put → summary.rows ≡ length u.project.entries
          → PutsUpdate u made folder named old new (Ok summary)
      update-done summary all moved bundles owed entries = (
        release,
        (lays-all-then (map (bundle_put folder) laid.bundles) behind old mid new laid.lays all, laid.free),
        moved,
        λ files told. record {
          is = is-release files told;
          bundles = bundles ∙ sym many;
          put = owed ∙ laid.count files told;
          rows = entries ∙ zip-lengths (IsEntryRowAs u.project made.plan (NeedsAfter u made.plan)) u.project.entries listed.assets listed.entries;
        },
      )
