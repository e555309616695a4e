-- Bundles that are put one after the other.
use Rattle.std.proofs.Common.{◌≡◌, ℕ, ◌+◌, ◌≤◌, not, Bool, true, false, cond, List, [], ◌∷◌, ◌++◌, length, map, Some, None, Result, Ok, Err, refl, sym, ap, ap₂, subst, ◌∙◌, inl, inr, arith, append-nil}
use Rattle.std.proofs.lemmas.Grind.{flat_map-append}
use Rattle.std.proofs.lemmas.List.{length-map, map-append}
use Rattle.std.proofs.lemmas.List.Sums.{sum_by-append}
use Rattle.std.proofs.lemmas.Slice.Eq.{bytes_eq-Decides}
use Rattle.std.specs.Bool.{MatchBool}
use Rattle.std.specs.List.{AllByRecursion, Contains, enumerate_from, flat_map, slice_get}
use Rattle.addr_base.specs.Files.{SameStore, Store, file_at}
use Rattle.addr_base.specs.declared.files.MemFile.{MemFile}
use Rattle.addr_images.specs.Sides.{group_side, side_at}
use Rattle.addr_locate.specs.declared.rows.BundleRow.{BundleRow}
use Rattle.addr_pack.specs.Placement.{IsPlaced}
use Rattle.addr_pack.specs.declared.bundles.Plan.{Plan}
use Rattle.addr_pack.specs.declared.bundles.PlanBundle.{PlanBundle}
use Rattle.addr_project.specs.declared.model.Group.{Group}
use Rattle.addr_project.specs.Model.{Project}
use Rattle.addr_project.specs.Reading.{path}
use Rattle.addr_release.specs.Built.{IsBundleOf, IsFileOf, IsRowOf, ReleaseBundle}
use Rattle.addr_release.specs.Names.{side_path}
use Rattle.addr_release.specs.Puts.{Test, all_bundle_tests, bundle_put, bundle_tests}
use Rattle.addr_walks.proofs.Lists.{Contains-here, Contains-later, EachAt-none, EachAt-push}
use Rattle.addr_build.specs.Release.{count_owed, has_bytes}
use Rattle.addr_build.specs.Making.{IsMade, PutsOne}
use Rattle.addr_build.specs.within.Building.{AreLaid, StopsIn}
use Rattle.addr_build.specs.Endings.{Ends}
use Rattle.addr_build.specs.declared.error.PutErr.{PutErr}
use Rattle.addr_build.specs.declared.error.PutErr.TheVariants.{Taken, Fault, NoMemory}
use Rattle.addr_build.specs.declared.bundles.PutBundle.{PutBundle}
use Rattle.addr_build.specs.declared.bundles.PutBundles.{PutBundles}
use Rattle.addr_build.proofs.EndLemmas.{after-other, ends-then, lays-untaken, renumber-key}
use Rattle.addr_build.proofs.KeyLemmas.{KeysApart, bundle-apart}
use Rattle.addr_build.proofs.PutLemmas.{lays-none, lays-then, same-then}
use Rattle.addr_build.specs.Moments.{LaysSome}

-- ---- lists

-- what Ends says of a refusal doesn't depend on what would have been answered
pub ends-as : (A B : Type 0) (folder : List ℕ) (puts : List MemFile) (n : ℕ) (tests : List Test) (a b : Store) (e : PutErr) → Ends {T = A} folder puts n tests a b (Err e) → Ends {T = B} folder puts n tests a b (Err e)
ends-as A B folder puts n tests a b (Taken name) ends = ends
ends-as A B folder puts n tests a b Fault ends = ends
ends-as A B folder puts n tests a b NoMemory ends = ends

enumerate-push : {X : Type 0} (n : ℕ) (xs : List X) (y : X) → enumerate_from n (xs ++ y ∷ []) ≡ enumerate_from n xs ++ ((n + length xs, y) ∷ [])
enumerate-push n [] y = let e : n ≡ n + 0 = omega arith in ap (λ k. (k, y) ∷ []) e
enumerate-push n (x ∷ xs) y =
    let e : n + 1 + length xs ≡ n + length (x ∷ xs) = omega arith in
    ap (λ zs. (n, x) ∷ zs) (enumerate-push (n + 1) xs y ∙ ap (λ k. enumerate_from (n + 1) xs ++ ((k, y) ∷ [])) e)

abbrev tests_at : ℕ × ReleaseBundle → List Test
tests_at numbered = bundle_tests numbered.0 numbered.1

-- the tests of one more bundle come last
pub tests-push : (bundles : List ReleaseBundle) (made : ReleaseBundle) → all_bundle_tests (bundles ++ made ∷ []) ≡ all_bundle_tests bundles ++ bundle_tests (length bundles) made
tests-push bundles made =
    ap (flat_map tests_at) (enumerate-push 0 bundles made)
    ∙ flat_map-append tests_at (enumerate_from 0 bundles) ((0 + length bundles, made) ∷ [])
    ∙ ap (λ ts. all_bundle_tests bundles ++ ts) (append-nil (bundle_tests (0 + length bundles) made) ∙ (let e : 0 + length bundles ≡ length bundles = omega arith in ap (λ n. bundle_tests n made) e))

abbrev owed-at : List MemFile → MemFile → Bool
owed-at files put = not (has_bytes put.bytes (file_at put.name files))

-- one more put is counted where its file isn't there
count-push : (files puts : List MemFile) (f : MemFile) (owed : Bool) → owed-at files f ≡ owed → count_owed files (puts ++ f ∷ []) ≡ count_owed files puts + cond owed 1 0
count-push files puts f owed is =
    sum_by-append (λ put. cond (owed-at files put) 1 0) puts (f ∷ [])
    ∙ ap (λ n. count_owed files puts + n) (let e : 0 + cond (owed-at files f) 1 0 ≡ cond (owed-at files f) 1 0 = omega arith in e ∙ ap (λ b. cond b 1 0) is)

owed-there : (files : List MemFile) (f : MemFile) (put : Bool) → MatchBool put (file_at f.name files ≡ None) (file_at f.name files ≡ Some f.bytes) → owed-at files f ≡ put
owed-there files f true none = ap (λ o. not (has_bytes f.bytes o)) none
owed-there files f false some = ap (λ o. not (has_bytes f.bytes o)) some ∙ ap not ((bytes_eq-Decides f.bytes f.bytes).1 refl)

-- where all is there nothing is owed
pub none-owed : (files puts : List MemFile) → ((f : MemFile) → Contains puts f → file_at f.name files ≡ Some f.bytes) → count_owed files puts ≡ 0
none-owed files [] there = refl
none-owed files (x ∷ xs) there =
    let all = sum_by-append (λ put. cond (owed-at files put) 1 0) (x ∷ []) xs in
    let one : count_owed files (x ∷ []) ≡ 0 = ap (λ b. 0 + cond b 1 0) (owed-there files x false (there x (Contains-here x xs))) in
    let rest = none-owed files xs (λ f here. there f (Contains-later x xs f here)) in
    all ∙ ap₂ (λ a b. a + b) one rest

-- where no file was put, nothing changed
pub still-next : (old cur new : Store) (put n : ℕ) (owed : Bool) → n ≡ cond owed 1 0 → (put ≡ 0 → SameStore old cur) → (owed ≡ false → SameStore cur new) → put + n ≡ 0 → SameStore old new
still-next old cur new put n true is before one none = absurd (omega (arith, is, none))
still-next old cur new put n false is before one none = same-then old cur new (before (omega (arith, none))) (one refl)

module _ (is_bundle : ℕ → ReleaseBundle → Type 0) (folder : List ℕ) where
  pub laid-none : (old : Store) → AreLaid is_bundle folder old old [] 0
  laid-none old = record {
    bundles = [];
    each = EachAt-none is_bundle;
    told = refl;
    lays = lays-none old old (record { files = refl; past = refl });
    free = λ files is. refl;
    count = λ files is. refl;
  }

  module _ (keys : KeysApart is_bundle) (old cur new : Store) (rows : List BundleRow) (put : ℕ) (laid : AreLaid is_bundle folder old cur rows put) where
    pub many : length rows ≡ length laid.bundles
    many = ap length laid.told ∙ length-map laid.bundles (λ made. made.row)

    module _ (made : ReleaseBundle) (is : is_bundle (length laid.bundles) made) where
      abbrev xs : List MemFile
      xs = map (bundle_put folder) laid.bundles

      grown : (made' : ReleaseBundle) → map (bundle_put folder) (laid.bundles ++ made' ∷ []) ≡ map (bundle_put folder) laid.bundles ++ (bundle_put folder made' ∷ [])
      grown made' = map-append (bundle_put folder) laid.bundles (made' ∷ [])

      xs-many : 0 + length xs ≡ length laid.bundles
      xs-many = let e : 0 + length xs ≡ length xs = omega arith in e ∙ length-map laid.bundles (bundle_put folder)

      -- the tests and the put of one more bundle after those before it
      pub joined : {T : Type 0} (result : Result T PutErr) → Ends folder (bundle_put folder made ∷ []) 0 (bundle_tests 0 made) cur new result
          → Ends folder (map (bundle_put folder) (laid.bundles ++ made ∷ [])) 0 (all_bundle_tests (laid.bundles ++ made ∷ [])) old new result
      joined result ends =
          subst (λ ps. Ends folder ps 0 (all_bundle_tests (laid.bundles ++ made ∷ [])) old new result) (sym (grown made))
          (subst (λ ts. Ends folder (xs ++ (bundle_put folder made ∷ [])) 0 ts old new result) (sym (tests-push laid.bundles made))
          (ends-then folder xs (bundle_put folder made ∷ []) 0 (length laid.bundles) (all_bundle_tests laid.bundles) (bundle_tests (length laid.bundles) made) old cur new
          xs-many (bundle-apart is_bundle keys folder laid.bundles laid.each made is (length laid.bundles)) laid.lays laid.free result
          (renumber-key folder (bundle_put folder made ∷ []) 0 (length laid.bundles) made.row.key made.file cur new result ends)))

      -- what stands under the name of its put stood there before
      own-before : (files mid : List MemFile) → old.files ≡ Some files → cur.files ≡ Some mid → file_at (bundle_put folder made).name mid ≡ file_at (bundle_put folder made).name files
      own-before files mid at now =
          let apart = bundle-apart is_bundle keys folder laid.bundles laid.each made is 0 in
          laid.lays.all files mid at now (bundle_put folder made).name ∙ after-other (bundle_put folder made).name xs files (on made.remote apart)
        where
          on : (side : Bool) → AllByRecursion (λ test. AllByRecursion (λ f. f.name ≡ path folder test.name → ⊥) xs) (bundle_tests 0 made)
              → AllByRecursion (λ f. f.name ≡ side_path folder side made.row.key → ⊥) xs
          on false (near, (far, end)) = near
          on true (near, (far, end)) = far

      pub laid-more : (one : PutBundle) → one.row ≡ made.row → Ends folder (bundle_put folder made ∷ []) 0 (bundle_tests 0 made) cur new (Ok one)
          → ((files : List MemFile) → cur.files ≡ Some files → MatchBool one.put (file_at (bundle_put folder made).name files ≡ None) (file_at (bundle_put folder made).name files ≡ Some made.file))
          → AreLaid is_bundle folder old new (rows ++ one.row ∷ []) (put + cond one.put 1 0)
      laid-more one row ends owed = record {
        bundles = laid.bundles ++ made ∷ [];
        each = EachAt-push is_bundle laid.bundles made laid.each is;
        told = ap₂ (λ rs r. rs ++ r ∷ []) laid.told row ∙ sym (map-append (λ (m : ReleaseBundle). m.row) laid.bundles (made ∷ []));
        lays = (joined (Ok one) ends).0;
        free = (joined (Ok one) ends).1;
        count = λ files at. (
            let (mid, now, passes) = laid.lays.some.told files at in
            let here = subst (λ o. MatchBool one.put (o ≡ None) (o ≡ Some made.file)) (own-before files mid at now) (owed mid now) in
            ap (λ n. n + cond one.put 1 0) (laid.count files at)
            ∙ sym (count-push files xs (bundle_put folder made) one.put (owed-there files (bundle_put folder made) one.put here))
            ∙ ap (count_owed files) (sym (grown made)));
      }

    pub laid-next : (b : ℕ) (one : PutBundle) → b ≡ length laid.bundles → PutsOne is_bundle folder b cur new (Ok one) → AreLaid is_bundle folder old new (rows ++ one.row ∷ []) (put + cond one.put 1 0)
    laid-next b one number (made, is, row, ends, owed, still) = laid-more made (subst (λ k. is_bundle k made) number is) one row ends owed

    -- memory was refused behind these
    pub laid-memory : StopsIn is_bundle folder old cur NoMemory
    laid-memory = (laid.bundles, laid.each, lays-untaken folder (map (bundle_put folder) laid.bundles) 0 (all_bundle_tests laid.bundles) old cur laid.lays.some laid.free)

    pub laid-stops : (b : ℕ) (e : PutErr) → b ≡ length laid.bundles → PutsOne is_bundle folder b cur new (Err e) → StopsIn is_bundle folder old new e
    laid-stops b e number (inl (made, is, ends)) =
        let here = subst (λ k. is_bundle k made) number is in (
          laid.bundles ++ made ∷ [],
          EachAt-push is_bundle laid.bundles made laid.each here,
          ends-as PutBundle PutBundles folder (map (bundle_put folder) (laid.bundles ++ made ∷ [])) 0 (all_bundle_tests (laid.bundles ++ made ∷ [])) old new e (joined made here {T = PutBundle} (Err e) ends),
        )
    laid-stops b e number (inr (same, memory)) =
        subst (StopsIn is_bundle folder old new) (sym memory) (laid.bundles, laid.each, lays-untaken folder (map (bundle_put folder) laid.bundles) 0 (all_bundle_tests laid.bundles) old new stays laid.free)
      where
        stays : LaysSome (map (bundle_put folder) laid.bundles) old new
        stays = subst (λ ps. LaysSome ps old new) (append-nil (map (bundle_put folder) laid.bundles)) (lays-then (map (bundle_put folder) laid.bundles) [] old cur new laid.lays (lays-none cur new same).some)

-- a bundle's group is one of the project's
pub grouped : (p : Project) (plan : Plan) → IsPlaced p plan → (b : ℕ) (bundle : PlanBundle) → slice_get plan.bundles b ≡ Some bundle → (group : Group) × (slice_get p.groups bundle.group ≡ Some group)
grouped p plan placed b bundle at =
    let class = placed.classes b bundle at in
    let named = class.named class.filled.0 class.filled.1 in
    (named.3.1, ap (slice_get p.groups) named.2 ∙ named.3.3)

pub made-bundle : (p : Project) (plan : Plan) (b : ℕ) (bundle : PlanBundle) (remote : Bool) (row : BundleRow) (text slice file : List ℕ) → slice_get plan.bundles b ≡ Some bundle
    → remote ≡ side_at p bundle.group → IsFileOf p plan b text → slice ≡ text → IsRowOf p remote bundle slice row → file ≡ text
    → IsMade p plan b (record { remote = remote; row = row; file = file })
made-bundle p plan b bundle remote row text slice file at side is same told taken = record {
  bundle = bundle;
  at = at;
  side = side;
  is = subst (IsFileOf p plan b) (sym taken) is;
  told = subst (λ f. IsRowOf p remote bundle f row) (same ∙ sym taken) told;
}

-- a made bundle is one of a full build
pub built-bundle : (p : Project) (plan : Plan) → IsPlaced p plan → (b : ℕ) (made : ReleaseBundle) → IsMade p plan b made → IsBundleOf p plan b made
built-bundle p plan placed b made is =
    let found = grouped p plan placed b is.bundle is.at in
    let side : made.remote ≡ found.0.remote = is.side ∙ ap group_side found.1 in
    record {
      bundle = is.bundle;
      at = is.at;
      group = found.0;
      group_at = found.1;
      side = side;
      is = is.is;
      told = subst (λ r. IsRowOf p r is.bundle made.file made.row) side is.told;
    }

-- what is put is as well what follows of it
pub puts-as : (R S : ℕ → ReleaseBundle → Type 0) (folder : List ℕ) (b : ℕ) (old new : Store) (r : Result PutBundle PutErr) → ((made : ReleaseBundle) → R b made → S b made)
    → PutsOne R folder b old new r → PutsOne S folder b old new r
puts-as R S folder b old new (Ok one) gives (made, is, row, ends, owed, still) = (made, gives made is, row, ends, owed, still)
puts-as R S folder b old new (Err e) gives (inl (made, is, ends)) = inl (made, gives made is, ends)
puts-as R S folder b old new (Err e) gives (inr memory) = inr memory

pub count-few : (put n b : ℕ) (owed : Bool) → put ≤ b → n ≡ cond owed 1 0 → put + n ≤ b + 1
count-few put n b true few is = omega (arith, few, is)
count-few put n b false few is = omega (arith, few, is)
