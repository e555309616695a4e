-- The catalogue on the way of a build: the old one or the new one.
use Rattle.std.proofs.Common.{◌≡◌, ◌+◌, ℕ, Bool, true, false, nat_le, List, length, take, Some, refl, ap, subst, ◌∙◌, inl, inr, arith, if◌then◌else◌}
use Rattle.std.specs.List.{Contains}
use Rattle.addr_base.specs.Files.{file_at}
use Rattle.addr_base.specs.declared.files.MemFile.{MemFile}
use Rattle.addr_pack.proofs.DigestLemmas.{digests-fit}
use Rattle.addr_project.specs.Model.{Project}
use Rattle.addr_walks.proofs.Lists.{map-Contains, slice_get-Contains}
use Rattle.addr_release.specs.Built.{IsReleaseOf}
use Rattle.addr_release.specs.Names.{catalogue_path, digest_from}
use Rattle.addr_release.specs.Puts.{IsAfter, Test, bundle_put, content_puts}
use Rattle.addr_release.proofs.ContentLemmas.{catalogue-along}
use Rattle.addr_release.proofs.NameLemmas.{bundle-apart, key-long, release-content}
use Rattle.addr_release.proofs.OwnLemmas.{are-named}
use Rattle.addr_release.proofs.PutLemmas.{after-same, take-within}
use Rattle.addr_build.specs.Laws.{IsOldOrNew}
use Rattle.addr_build.specs.Outcomes.{IsBegun}

pub begun-catalogue : (p : Project) (folder : List ℕ) (puts : List MemFile) (tests : List Test) (k : ℕ) (old new : List MemFile) → IsBegun p folder puts tests → IsAfter (take k puts) old new → IsOldOrNew p folder old new
begun-catalogue p folder puts tests k old new (plan, within, inl (bundles, each, same, told)) after =
    inl (after-same (take k puts) old new after (catalogue_path folder) (λ f here named. beside f (take-within k puts f here) named))
  where
    beside : (f : MemFile) → Contains puts f → f.name ≡ catalogue_path folder → ⊥
    beside f here named =
        let put = map-Contains (bundle_put folder) bundles f (subst (λ ps. Contains ps f) same here) in
        let made = put.0 in
        let at = slice_get-Contains bundles made put.1 in
        let is = each at.0 made at.1 in
        let long : length made.row.key ≡ length is.bundle.name + 40 = ap length is.told.key ∙ key-long is.bundle.name (digest_from made.file) (digests-fit made.file) in
        (bundle-apart folder made.remote made.row.key (omega (arith, long))).0 (ap (λ (g : MemFile). g.name) put.2 ∙ named)
begun-catalogue p folder puts tests k old new (plan, within, inr (r, is, same, told)) after = by_test (nat_le k (length (content_puts folder r))) refl
  where
    whole : IsReleaseOf p r
    whole = (plan, within.placed.placed, is)

    along : file_at (catalogue_path folder) new ≡ (if nat_le k (length (content_puts folder r)) then file_at (catalogue_path folder) old else Some r.catalogue)
    along = catalogue-along folder (content_puts folder r) r.catalogue (release-content folder r (are-named p r whole)) k old new (subst (λ ps. IsAfter (take k ps) old new) same after)

    by_test : (t : Bool) → nat_le k (length (content_puts folder r)) ≡ t → IsOldOrNew p folder old new
    by_test true few = inl (along ∙ ap (λ t. if t then file_at (catalogue_path folder) old else Some r.catalogue) few)
    by_test false more = inr (r, whole, along ∙ ap (λ t. if t then file_at (catalogue_path folder) old else Some r.catalogue) more)
