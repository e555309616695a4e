-- The puts of a release, one after the other: when the catalogue changes, and what stays.
use Rattle.std.proofs.Common.{◌≡◌, ℕ, Bool, true, false, nat_le, List, [], ◌∷◌, length, take, Some, None, refl, sym, ap, ◌∙◌, ◌⊎◌, inl, inr, if◌then◌else◌}
use borrow.Author.Tests.{leb-true, leb-false}
use Rattle.std.proofs.lemmas.List.Elements.{Contains-append_cases}
use Rattle.std.specs.List.{Contains}
use Rattle.addr_base.specs.Files.{file_at}
use Rattle.addr_base.specs.declared.files.MemFile.{MemFile}
use Rattle.addr_layout.proofs.RankLemmas.{same-some}
use Rattle.addr_walks.proofs.Lists.{Contains-cases, Contains-none}
use Rattle.addr_release.specs.Laws.{AreFree, IsContent, IsFree, Keeps, CatalogueAlong, with_catalogue}
use Rattle.addr_release.specs.Names.{catalogue_path}
use Rattle.addr_release.specs.Puts.{IsAfter, catalogue_put, hash_put}
use Rattle.addr_release.proofs.NameLemmas.{hash-beside, name_of}
use Rattle.addr_release.proofs.PutLemmas.{after-either, after-same, after-there-one, take-front, take-past, take-within}

-- ---- the change of the catalogue

-- a put is content, or it is the catalogue's or the hash's
pub behind-cases : (folder : List ℕ) (content : List MemFile) (bytes : List ℕ) (put : MemFile) → Contains (with_catalogue folder content bytes) put
    → Contains content put ⊎ ((catalogue_put folder bytes ≡ put) ⊎ (hash_put folder bytes ≡ put))
behind-cases folder content bytes put here = by_case (Contains-append_cases content (catalogue_put folder bytes ∷ hash_put folder bytes ∷ []) put here)
  where
    by_last : (hash_put folder bytes ≡ put) ⊎ Contains [] put → Contains content put ⊎ ((catalogue_put folder bytes ≡ put) ⊎ (hash_put folder bytes ≡ put))
    by_last (inl same) = inr (inr same)
    by_last (inr none) = absurd (Contains-none put none)

    by_case : Contains content put ⊎ Contains (catalogue_put folder bytes ∷ hash_put folder bytes ∷ []) put → Contains content put ⊎ ((catalogue_put folder bytes ≡ put) ⊎ (hash_put folder bytes ≡ put))
    by_case (inl within) = inl within
    by_case (inr behind) = by_two (Contains-cases (catalogue_put folder bytes) (hash_put folder bytes ∷ []) put behind)
      where
        by_two : (catalogue_put folder bytes ≡ put) ⊎ Contains (hash_put folder bytes ∷ []) put → Contains content put ⊎ ((catalogue_put folder bytes ≡ put) ⊎ (hash_put folder bytes ≡ put))
        by_two (inl same) = inr (inl same)
        by_two (inr last) = by_last (Contains-cases (hash_put folder bytes) [] put last)

pub catalogue-along : (folder : List ℕ) (content : List MemFile) (bytes : List ℕ) → IsContent folder content → CatalogueAlong folder content bytes
catalogue-along folder content bytes is k old new after = by_test (nat_le k (length content)) refl
  where
    all : List MemFile
    all = with_catalogue folder content bytes

    -- of all these puts only one has the name of the catalogue
    alone : (f : MemFile) → Contains all f → f.name ≡ catalogue_path folder → f.bytes ≡ bytes
    alone f here named = by_case (behind-cases folder content bytes f here)
      where
        by_case : Contains content f ⊎ ((catalogue_put folder bytes ≡ f) ⊎ (hash_put folder bytes ≡ f)) → f.bytes ≡ bytes
        by_case (inl within) = absurd ((is f within).0 named)
        by_case (inr (inl same)) = sym (ap (λ (g : MemFile). g.bytes) same)
        by_case (inr (inr same)) = absurd (hash-beside folder (sym (ap name_of same ∙ named)))

    by_test : (t : Bool) → nat_le k (length content) ≡ t → file_at (catalogue_path folder) new ≡ (if t then file_at (catalogue_path folder) old else Some bytes)
    by_test true few = after-same (take k all) old new after (catalogue_path folder) (λ f here. (is f (take-front k content (catalogue_put folder bytes ∷ hash_put folder bytes ∷ []) f (leb-true k (length content) few) here)).0)
    by_test false more = after-there-one (take k all) old new after (catalogue_put folder bytes) (λ g here same. alone g (take-within k all g here) same) (take-past k content (hash_put folder bytes ∷ []) (catalogue_put folder bytes) (leb-false k (length content) more))

-- files that are free are put, and no other file but catalogue and hash changes
pub keeps-free : (folder : List ℕ) (content : List MemFile) (bytes : List ℕ) (k : ℕ) (old new : List MemFile) → AreFree content old → IsAfter (take k (with_catalogue folder content bytes)) old new → Keeps folder old new
keeps-free folder content bytes k old new free after name found apart beside there = by_put (after-either (take k (with_catalogue folder content bytes)) old new after name)
  where
    by_free : (f : MemFile) → f.name ≡ name → IsFree old f → f.bytes ≡ found
    by_free f named (inl none) = absurd (let at : file_at name old ≡ None = ap (λ n. file_at n old) (sym named) ∙ none in cc (sym there ∙ at))
    by_free f named (inr some) = same-some f.bytes found (sym some ∙ (ap (λ n. file_at n old) named ∙ there))

    by_case : (f : MemFile) → f.name ≡ name → Contains content f ⊎ ((catalogue_put folder bytes ≡ f) ⊎ (hash_put folder bytes ≡ f)) → f.bytes ≡ found
    by_case f named (inl within) = by_free f named (free f within)
    by_case f named (inr (inl same)) = absurd (apart (sym (ap name_of same ∙ named)))
    by_case f named (inr (inr same)) = absurd (beside (sym (ap name_of same ∙ named)))

    by_put : (file_at name new ≡ file_at name old) ⊎ ((f : MemFile) × Contains (take k (with_catalogue folder content bytes)) f × (f.name ≡ name) × (file_at name new ≡ Some f.bytes)) → file_at name new ≡ Some found
    by_put (inl same) = same ∙ there
    by_put (inr (f, here, named, at)) = at ∙ ap Some (by_case f named (behind-cases folder content bytes f (take-within k (with_catalogue folder content bytes) f here)))
