-- Testing the name of a kept bundle, whose own file is there: only the other side can refuse it.
use Rattle.std.proofs.Common.{◌≡◌, ℕ, ◌<◌, Bool, true, false, not, cond, List, [], ◌∷◌, ◌++◌, length, Option, Some, None, Result, Ok, Err, refl, sym, ap, ap₂, subst, ◌∙◌, ◌⊎◌, inl, inr, arith}
use Rattle.std.proofs.lemmas.Slice.Eq.{bytes_eq-Decides}
use Rattle.std.specs.Prelude.{IfSome}
use Rattle.std.specs.Bool.{MatchBool}
use Rattle.std.specs.List.{slice_get}
use Rattle.addr_base.specs.Files.{SameStore, Store, file_at}
use Rattle.addr_base.specs.declared.files.MemFile.{MemFile}
use Rattle.addr_base.specs.declared.ids.Digest.{Digest}
use Rattle.addr_build.specs.Endings.{IsTakenFirst, key_tests}
use Rattle.addr_build.specs.Making.{PutsOne}
use Rattle.addr_build.specs.declared.bundles.PutBundle.{PutBundle}
use Rattle.addr_build.specs.declared.error.PutErr.{PutErr}
use Rattle.addr_build.specs.declared.error.PutErr.TheVariants.{Taken, Fault, NoMemory}
use Rattle.addr_build.specs.within.Testing.{Tells}
use Rattle.addr_build.proofs.EndLemmas.{ends-refused}
use Rattle.addr_build.proofs.PutLemmas.{if-told, there-all, told-at}
use Rattle.addr_locate.specs.declared.rows.BundleRow.{BundleRow}
use Rattle.addr_project.specs.Reading.{path}
use Rattle.addr_release.specs.Built.{ReleaseBundle}
use Rattle.addr_release.specs.Names.{side_path}
use Rattle.addr_release.specs.Puts.{Test, are_other, bundle_put, first_taken}
use Rattle.addr_state.specs.Files.{file_name, side_file, side_folder}
use Rattle.addr_state.specs.Sound.{IsWellFormed}
use Rattle.addr_state.specs.declared.model.StateBundle.{StateBundle}
use Rattle.addr_patch.specs.within.Putting.{Refuses, Stands, TellsKept}

-- ---- sides

side-byte : Bool → ℕ
side-byte true = 114
side-byte false = 108

side-first : (side : Bool) (rest : List ℕ) → slice_get (side_folder side ++ rest) 0 ≡ Some (side-byte side)
unfolding side-byte
side-first true rest = refl
side-first false rest = refl

-- the first byte of a file's name tells its side
pub side-told : (side told : Bool) (rest : List ℕ) (first : ℕ) → slice_get (side_folder side ++ rest) 0 ≡ Some first → (told ≡ true → first ≡ 114) → (told ≡ false → first ≡ 114 → ⊥) → told ≡ side
unfolding side-byte
side-told true true rest first at so not-so = refl
side-told false false rest first at so not-so = refl
side-told true false rest first at so not-so = absurd (not-so refl (let e : Some first ≡ Some 114 = sym at ∙ side-first true rest in cc e))
side-told false true rest first at so not-so = absurd (let e : Some first ≡ Some 108 = sym at ∙ side-first false rest in let f : first ≡ 108 = cc e in let g = so refl in omega (arith, f, g))

-- ---- tests

own-free : (bytes : List ℕ) (found : Option (List ℕ)) → found ≡ Some bytes → are_other bytes found ≡ false
own-free bytes found is = ap (are_other bytes) is ∙ ap not ((bytes_eq-Decides bytes bytes).1 refl)

not-true : (b : Bool) → true ≡ not b → b ≡ false
not-true true e = absurd (cc e)
not-true false e = refl

not-false : (b : Bool) → false ≡ not b → b ≡ true
not-false true e = refl
not-false false e = absurd (cc e)

-- the first of two tests that is taken
abbrev two : Bool → Bool → Test → Test → Option Test
two a b x y = cond a (Some x) (cond b (Some y) None)

abbrev near : List ℕ → List ℕ → Test
near key bytes = record { number = 0; name = side_folder false ++ key; bytes = bytes }

abbrev far : List ℕ → List ℕ → Test
far key bytes = record { number = 0; name = side_folder true ++ key; bytes = bytes }

pub kept-tells : (files : List MemFile) (folder : List ℕ) (remote : Bool) (key bytes : List ℕ) (free : Bool) (r : Result (Unit {0}) PutErr) → file_at (side_path folder remote key) files ≡ Some bytes
    → free ≡ not (are_other bytes (file_at (side_path folder (not remote) key) files)) → Refuses (not remote) key free r → TellsKept files folder (key_tests 0 key bytes) r
kept-tells files folder false key bytes free (Ok done) own other is =
    ap₂ (λ a b. two a b (near key bytes) (far key bytes)) (own-free bytes (file_at (side_path folder false key) files) own) (not-true (are_other bytes (file_at (side_path folder true key) files)) (sym is ∙ other))
kept-tells files folder true key bytes free (Ok done) own other is =
    ap₂ (λ a b. two a b (near key bytes) (far key bytes)) (not-true (are_other bytes (file_at (side_path folder false key) files)) (sym is ∙ other)) (own-free bytes (file_at (side_path folder true key) files) own)
kept-tells files folder false key bytes free (Err (Taken name)) own other (is, named) = (
  far key bytes,
  ap₂ (λ a b. two a b (near key bytes) (far key bytes)) (own-free bytes (file_at (side_path folder false key) files) own) (not-false (are_other bytes (file_at (side_path folder true key) files)) (sym is ∙ other)),
  refl,
  sym named,
)
kept-tells files folder true key bytes free (Err (Taken name)) own other (is, named) = (
  near key bytes,
  ap₂ (λ a b. two a b (near key bytes) (far key bytes)) (not-false (are_other bytes (file_at (side_path folder false key) files)) (sym is ∙ other)) (own-free bytes (file_at (side_path folder true key) files) own),
  refl,
  sym named,
)
kept-tells files folder remote key bytes free (Err Fault) own other is = tt
kept-tells files folder remote key bytes free (Err NoMemory) own other is = tt

-- ---- a bundle that stays

-- the file that is there, where files are told
file-there : (o : Option (List MemFile)) (name : List ℕ) → IfSome o (λ files. (file : List ℕ) × (file_at name files ≡ Some file)) → (file : List ℕ) × ((files : List MemFile) → o ≡ Some files → file_at name files ≡ Some file)
file-there None name there = ([], λ files is. absurd (cc is))
file-there (Some x) name (file, at) = (file, λ files is. (let same : x ≡ files = cc is in subst (λ f. file_at name f ≡ Some file) same at))

told-err : (files : List MemFile) (folder : List ℕ) (tests : List Test) (own bytes : List ℕ) (e : PutErr) → TellsKept files folder tests (Err e) → Tells files folder tests own bytes (Err e)
told-err files folder tests own bytes (Taken name) tells = tells
told-err files folder tests own bytes Fault tells = tt
told-err files folder tests own bytes NoMemory tells = tt

module _ (old : StateBundle) (row : BundleRow) (folder : List ℕ) (side : Bool) (is_side : old.file ≡ side_file side old.name old.digest) (key : row.key ≡ file_name old.name old.digest)
    (a c : Store) (same : SameStore a c) (there : IfSome a.files (λ files. (file : List ℕ) × (file_at (path folder old.file) files ≡ Some file))) (b : ℕ) where
  found : (file : List ℕ) × ((files : List MemFile) → a.files ≡ Some files → file_at (path folder old.file) files ≡ Some file)
  found = file-there a.files (path folder old.file) there

  abbrev made : ReleaseBundle
  made = record { remote = side; row = row; file = found.0 }

  own-path : path folder old.file ≡ side_path folder side row.key
  own-path = ap (path folder) (is_side ∙ ap (λ k. side_folder side ++ k) (sym key))

  own-there : (files : List MemFile) → a.files ≡ Some files → file_at (side_path folder side row.key) files ≡ Some found.0
  own-there files is = subst (λ name. file_at name files ≡ Some found.0) own-path (found.1 files is)

  stands : Stands old row a folder b made
  stands = record { row = refl; side = is_side; file = found.1 }

  pub kept-done : (one : PutBundle) → one.row ≡ row → one.put ≡ false
      → IfSome a.files (λ files. (bytes : List ℕ) → file_at (side_path folder side row.key) files ≡ Some bytes → TellsKept files folder (key_tests 0 row.key bytes) (Ok tt))
      → PutsOne (Stands old row a folder) folder b a c (Ok one)
  kept-done one row_is put tests = (
    made,
    stands,
    row_is,
    (there-all (side_path folder side row.key) found.0 a c same own-there, λ files is. told-at a.files _ files is tests found.0 (own-there files is)),
    λ files is. subst (λ p. MatchBool p (file_at (side_path folder side row.key) files ≡ None) (file_at (side_path folder side row.key) files ≡ Some found.0)) (sym put) (own-there files is),
    λ none. same,
  )

  pub kept-refused : (e : PutErr) → IfSome a.files (λ files. (bytes : List ℕ) → file_at (side_path folder side row.key) files ≡ Some bytes → TellsKept files folder (key_tests 0 row.key bytes) (Err e))
      → PutsOne (Stands old row a folder) folder b a c (Err e)
  kept-refused e tests = inl (
    made,
    stands,
    ends-refused PutBundle folder (bundle_put folder made ∷ []) (key_tests 0 row.key found.0) (side_path folder side row.key) found.0 a c e (omega arith) same
        (if-told a.files _ (λ files is. told-err files folder (key_tests 0 row.key found.0) (side_path folder side row.key) found.0 e (told-at a.files _ files is tests found.0 (own-there files is)))),
  )

-- the side of a file is the one that its name tells
pub side-is : (old : StateBundle) (file : List ℕ) (remote : Bool) → IsWellFormed old → file ≡ old.file → ((side : Bool) (name : List ℕ) (digest : Digest) → file ≡ side_file side name digest → remote ≡ side)
    → old.file ≡ side_file remote old.name old.digest
side-is old file remote formed same tells = by_side formed.file
  where
    by_side : (old.file ≡ side_file false old.name old.digest) ⊎ (old.file ≡ side_file true old.name old.digest) → old.file ≡ side_file remote old.name old.digest
    by_side (inl is) = is ∙ ap (λ side. side_file side old.name old.digest) (sym (tells false old.name old.digest (same ∙ is)))
    by_side (inr is) = is ∙ ap (λ side. side_file side old.name old.digest) (sym (tells true old.name old.digest (same ∙ is)))
