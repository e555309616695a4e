-- On the way of an update: up to the catalogue's put each key that resolved resolves the same.
use Rattle.std.proofs.Common.{◌≡◌, ◌≤◌, ◌++◌, ℕ, ◌⊎◌, inl, inr, true, false, List, [], ◌∷◌, length, take, Option, None, Some, refl, sym, ap, ◌∙◌, arith}
use Rattle.std.proofs.lemmas.List.{length-map}
use Rattle.std.specs.List.{Contains}
use Rattle.std.specs.Option.{option_or}
use Rattle.addr_base.specs.Files.{file_at}
use Rattle.addr_base.specs.declared.files.MemFile.{MemFile}
use Rattle.addr_base.specs.declared.ids.Digest.{Digest}
use Rattle.addr_layout.proofs.RankLemmas.{same-some}
use Rattle.addr_release.specs.Built.{ReleaseBundle}
use Rattle.addr_release.specs.Names.{bundle_file, catalogue_path, side_path}
use Rattle.addr_release.specs.Puts.{IsAfter, bundle_put, catalogue_put, hash_put}
use Rattle.addr_release.specs.Resolve.{IsOpened}
use Rattle.addr_release.proofs.NameLemmas.{name_of, path-same, side-same}
use Rattle.addr_release.proofs.PutLemmas.{after-either, after-same, take-front}
use Rattle.addr_release.proofs.TestLemmas.{bundle-side-free, bundles-free}
use Rattle.addr_state.specs.Files.{side_folder}
use Rattle.addr_walks.proofs.Lists.{map-Contains, slice_get-Contains}
use Rattle.addr_update.specs.After.{UpdatedRelease, update_puts}
use Rattle.addr_update.specs.Laws.{IsUpdateOf, ResolvesAsBefore}
use Rattle.addr_update.specs.Moved.{Update}
use Rattle.addr_update.proofs.PutLemmas.{apart, content, zip-in}

module _ (u : Update) (old now : List MemFile) (folder : List ℕ) (named : Option Digest) (r : UpdatedRelease) (of : IsUpdateOf u old folder named r)
    (k : ℕ) (near : k ≤ length r.bundles) (after : IsAfter (take k (update_puts folder r)) old now) where
  -- what is put so far are bundles
  put-in : (f : MemFile) → Contains (take k (update_puts folder r)) f → Contains (content u old folder named r of) f
  put-in f here = take-front k (content u old folder named r of) (catalogue_put folder r.catalogue ∷ hash_put folder r.catalogue ∷ []) f (let long = length-map r.bundles (bundle_put folder) in omega (arith, near, long)) here

  same-catalogue : file_at (catalogue_path folder) now ≡ file_at (catalogue_path folder) old
  same-catalogue = after-same (take k (update_puts folder r)) old now after (catalogue_path folder) (λ f here. (apart u old folder named r of f (put-in f here)).0)

  -- each file that is there stays
  stays : (name bytes : List ℕ) → file_at name old ≡ Some bytes → file_at name now ≡ Some bytes
  stays name bytes there = by_put (after-either (take k (update_puts folder r)) old now after name)
    where
      by_free : (f : MemFile) → f.name ≡ name → (file_at f.name old ≡ None) ⊎ (file_at f.name old ≡ Some f.bytes) → f.bytes ≡ bytes
      by_free f is (inl none) = absurd (cc (sym none ∙ (ap (λ (n : List ℕ). file_at n old) is ∙ there)))
      by_free f is (inr some) = same-some f.bytes bytes (sym some ∙ (ap (λ (n : List ℕ). file_at n old) is ∙ there))

      by_put : (file_at name now ≡ file_at name old) ⊎ ((f : MemFile) × Contains (take k (update_puts folder r)) f × (f.name ≡ name) × (file_at name now ≡ Some f.bytes)) → file_at name now ≡ Some bytes
      by_put (inl same) = same ∙ there
      by_put (inr (f, here, is, put)) = put ∙ ap Some (by_free f is (bundles-free folder r.bundles old of.free f (put-in f here)))

  same-file : (key file : List ℕ) → bundle_file old folder key ≡ Some file → bundle_file now folder key ≡ Some file
  same-file key file found = by_local (file_at (side_path folder false key) old) refl found
    where
      -- a bundle that was put on the local side has the file that the remote side had
      by_made : (f : MemFile) → f.name ≡ side_path folder false key → Contains (content u old folder named r of) f → file_at (side_path folder true key) old ≡ Some file → f.bytes ≡ file
      by_made f is here remote =
          let made = map-Contains (bundle_put folder) r.bundles f here in
          let at = slice_get-Contains r.bundles made.0 made.1 in
          let own : made.0.row.key ≡ key = (side-same made.0.remote false made.0.row.key key (path-same folder (side_folder made.0.remote ++ made.0.row.key) (side_folder false ++ key) (ap name_of made.2 ∙ is))).1 in
          by_side made.0 own made.2 (bundle-side-free folder r.bundles old of.free at.0 made.0 true at.1)
        where
          by_side : (made : ReleaseBundle) → made.row.key ≡ key → bundle_put folder made ≡ f → (file_at (side_path folder true made.row.key) old ≡ None) ⊎ (file_at (side_path folder true made.row.key) old ≡ Some made.file) → f.bytes ≡ file
          by_side made own put (inl none) = absurd (cc (sym none ∙ (ap (λ (t : List ℕ). file_at (side_path folder true t) old) own ∙ remote)))
          by_side made own put (inr some) =
              ap (λ (g : MemFile). g.bytes) (sym put) ∙ same-some made.file file (sym some ∙ (ap (λ (t : List ℕ). file_at (side_path folder true t) old) own ∙ remote))

      by_put : file_at (side_path folder false key) old ≡ None → file_at (side_path folder true key) old ≡ Some file
          → (file_at (side_path folder false key) now ≡ file_at (side_path folder false key) old) ⊎ ((f : MemFile) × Contains (take k (update_puts folder r)) f × (f.name ≡ side_path folder false key) × (file_at (side_path folder false key) now ≡ Some f.bytes))
          → bundle_file now folder key ≡ Some file
      by_put none remote (inl same) = ap (λ o. option_or o (file_at (side_path folder true key) now)) (same ∙ none) ∙ stays (side_path folder true key) file remote
      by_put none remote (inr (f, here, is, put)) = ap (λ o. option_or o (file_at (side_path folder true key) now)) put ∙ ap Some (by_made f is (put-in f here) remote)

      by_local : (o : Option (List ℕ)) → file_at (side_path folder false key) old ≡ o → option_or (file_at (side_path folder false key) old) (file_at (side_path folder true key) old) ≡ Some file → bundle_file now folder key ≡ Some file
      by_local (Some g) local is =
          let same : g ≡ file = same-some g file (sym (ap (λ o. option_or o (file_at (side_path folder true key) old)) local) ∙ is) in
          ap (λ o. option_or o (file_at (side_path folder true key) now)) (stays (side_path folder false key) g local) ∙ ap Some same
      by_local None none is = by_put none (sym (ap (λ o. option_or o (file_at (side_path folder true key) old)) none) ∙ is) (after-either (take k (update_puts folder r)) old now after (side_path folder false key))

  pub as-before : ResolvesAsBefore folder old now
  as-before = record {
    catalogue = same-catalogue;
    same = λ key shown (c, opened, release, resolves). (
      c,
      opened,
      record {
        bytes = release.bytes;
        there = same-catalogue ∙ release.there;
        read = release.read;
        bundles = zip-in (IsOpened old folder) (IsOpened now folder) c.locator.bundles opened (λ row o here (file, at, holds, name). (file, same-file row.key file at, holds, name)) release.bundles;
      },
      resolves,
    );
  }
