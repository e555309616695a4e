-- One bundle of an update put after others. Where files aren't told nothing is known of them, but each row has its bundle's key.
use Rattle.std.proofs.Common.{◌≡◌, ℕ, ◌+◌, ◌<◌, Bool, true, false, cond, List, [], ◌∷◌, ◌++◌, length, map, take, Option, Some, None, Result, Ok, Err, refl, sym, ap, ap₂, subst, ◌∙◌, ◌⊎◌, inl, inr, arith, append_assoc, append-nil, length-append}
use Rattle.std.proofs.lemmas.List.{length-map, map-append}
use Rattle.std.specs.Prelude.{IfSome}
use Rattle.std.specs.List.{slice_get}
use Rattle.addr_base.specs.Files.{SameStore, Store, file_at}
use Rattle.addr_base.specs.declared.files.MemFile.{MemFile}
use Rattle.addr_build.specs.Endings.{Ends}
use Rattle.addr_build.specs.Making.{IsKeyed, PutsOne}
use Rattle.addr_build.specs.Moments.{LaysAll}
use Rattle.addr_build.specs.declared.bundles.PutBundle.{PutBundle}
use Rattle.addr_build.specs.declared.bundles.PutBundles.{PutBundles}
use Rattle.addr_build.specs.declared.error.PutErr.{PutErr}
use Rattle.addr_build.specs.declared.error.PutErr.TheVariants.{Taken, Fault, NoMemory}
use Rattle.addr_build.specs.within.Building.{AreLaid, StopsIn}
use Rattle.addr_build.proofs.BuildLemmas.{ends-untaken}
use Rattle.addr_build.proofs.LaidLemmas.{laid-next, laid-stops, puts-as}
use Rattle.addr_build.proofs.PutLemmas.{if-told, told-at}
use Rattle.addr_catalog.proofs.ReadKeyLemmas.{there_is}
use Rattle.addr_locate.specs.declared.rows.BundleRow.{BundleRow}
use Rattle.addr_pack.proofs.DigestLemmas.{digests-fit}
use Rattle.addr_pack.specs.declared.bundles.PlanBundle.{PlanBundle}
use Rattle.addr_project.specs.Reading.{path}
use Rattle.addr_release.specs.Built.{ReleaseBundle}
use Rattle.addr_release.specs.Names.{digest_from}
use Rattle.addr_release.specs.Puts.{Test, all_bundle_tests, bundle_put, bundle_tests}
use Rattle.addr_state.specs.Files.{file_name}
use Rattle.addr_update.specs.Moved.{Update}
use Rattle.addr_walks.proofs.Lists.{EachAt-push}
use Rattle.addr_patch.specs.declared.preparing.Prepared.{Prepared}
use Rattle.addr_patch.specs.within.Preparing.{IsPrepared}
use Rattle.addr_patch.specs.within.Putting.{AreThere, Grows, IsPutBundle}
use Rattle.addr_patch.proofs.BundleLemmas.{keys-apart, put-before}
use Rattle.addr_patch.proofs.PuttingLemmas.{laid-stays}

pub grows-same : (a b : Store) → SameStore a b → Grows a b
grows-same a b same = ([], same.past ∙ sym (append-nil a.past))

grows-then : (a b c : Store) → Grows a b → Grows b c → Grows a c
grows-then a b c (p, one) (q, two) = (p ++ q, two ∙ ap (λ past. past ++ q) one ∙ append_assoc a.past p q)

pub puts-grow : (R : ℕ → ReleaseBundle → Type 0) (folder : List ℕ) (b : ℕ) (old new : Store) (r : Result PutBundle PutErr) → PutsOne R folder b old new r → Grows old new
puts-grow R folder b old new (Ok one) (made, is, row, ends, owed, still) = (ends.0.some.passed, ends.0.some.past)
puts-grow R folder b old new (Err e) (inl (made, is, ends)) =
    let (k, few, some, untaken) = ends-untaken PutBundle folder (bundle_put folder made ∷ []) 0 (bundle_tests 0 made) old new (Err e) ends in (some.passed, some.past)
puts-grow R folder b old new (Err e) (inr (same, memory)) = grows-same old new same

-- ---- files that aren't told

lays-untold : (puts : List MemFile) (old new : Store) → old.files ≡ None → Grows old new → LaysAll puts old new
lays-untold puts old new none (passed, past) = record {
  some = record { passed = passed; past = past; told = λ before is. absurd (cc (sym none ∙ is)) };
  all = λ before after is now. absurd (cc (sym none ∙ is));
}

ends-untold : (T : Type 0) (folder : List ℕ) (puts : List MemFile) (tests : List Test) (old new : Store) (e : PutErr) → old.files ≡ None → 0 < length puts → Grows old new → Ends {T = T} folder puts 0 tests old new (Err e)
ends-untold T folder puts tests old new (Taken name) none some grows = (0, some, lays-untold (take 0 puts) old new none grows, λ files is. absurd (cc (sym none ∙ is)), λ files is. absurd (cc (sym none ∙ is)))
ends-untold T folder puts tests old new Fault none some grows = (0, omega arith, (lays-untold (take 0 puts) old new none grows).some, λ files is. absurd (cc (sym none ∙ is)))
ends-untold T folder puts tests old new NoMemory none some grows = (0, omega arith, (lays-untold (take 0 puts) old new none grows).some, λ files is. absurd (cc (sym none ∙ is)))

-- ---- one more bundle

module _ (u : Update) (made : Prepared) (is : IsPrepared u made) (folder : List ℕ) (first cur new : Store) (rows : List BundleRow) (put : ℕ)
    (laid : AreLaid (IsPutBundle u made.plan folder first) folder first cur rows put) (there : IfSome first.files (AreThere u.state folder)) (b : ℕ) (number : b ≡ length laid.bundles) where
  abbrev Put : ℕ → ReleaseBundle → Type 0
  Put = IsPutBundle u made.plan folder first

  stay : (files : List MemFile) → first.files ≡ Some files → AreThere u.state folder files
      × ((mid : List MemFile) × (cur.files ≡ Some mid) × ((name bytes : List ℕ) → file_at name files ≡ Some bytes → file_at name mid ≡ Some bytes))
  stay files told = (told-at first.files (AreThere u.state folder) files told there, laid-stays u made folder first cur rows put laid files told)

  there-now : (files : List MemFile) → first.files ≡ Some files → IfSome cur.files (AreThere u.state folder)
  there-now files told =
      let (here, (mid, at, stays)) = stay files told in
      if-told cur.files (AreThere u.state folder) (λ now is_now.
      (let same : mid ≡ now = (let e : Some mid ≡ Some now = sym at ∙ is_now in cc e) in
      λ m old place. (let (file, found) = here m old place in (file, subst (λ f. file_at (path folder old.file) f ≡ Some file) same (stays (path folder old.file) file found)))))

  told-puts : (files : List MemFile) → first.files ≡ Some files → (r : Result PutBundle PutErr)
      → (IfSome cur.files (AreThere u.state folder) → PutsOne (IsPutBundle u made.plan folder cur) folder b cur new r) → PutsOne Put folder b cur new r
  told-puts files told r puts = puts-as (IsPutBundle u made.plan folder cur) Put folder b cur new r (put-before u made is folder first cur b stay) (puts (there-now files told))

  abbrev Untold : Type 0
  Untold = first.files ≡ None

  abbrev row-made : BundleRow → ReleaseBundle
  row-made row = record { remote = false; row = row; file = [] }

  put-untold : Untold → (row : BundleRow) → IsKeyed made.plan b row.key → Put (length laid.bundles) (row-made row)
  put-untold none row keyed = subst (λ k. Put k (row-made row)) number (record { keyed = keyed; after = λ files told. absurd (cc (sym none ∙ told)) })

  grown : Grows cur new → Grows first new
  grown grows = grows-then first cur new (laid.lays.some.passed, laid.lays.some.past) grows

  pub next : (one : PutBundle) → (IfSome cur.files (AreThere u.state folder) → PutsOne (IsPutBundle u made.plan folder cur) folder b cur new (Ok one))
      → IsKeyed made.plan b one.row.key → Grows cur new → AreLaid Put folder first new (rows ++ one.row ∷ []) (put + cond one.put 1 0)
  next one puts keyed grows = by_told first.files refl
    where
      by_told : (o : Option (List MemFile)) → first.files ≡ o → AreLaid Put folder first new (rows ++ one.row ∷ []) (put + cond one.put 1 0)
      by_told (Some files) told = laid-next Put folder (keys-apart u made is folder first) first cur new rows put laid b one number (told-puts files told (Ok one) puts)
      by_told None none = untold none
        where
          untold : Untold → AreLaid Put folder first new (rows ++ one.row ∷ []) (put + cond one.put 1 0)
          untold none = record {
            bundles = laid.bundles ++ row-made one.row ∷ [];
            each = EachAt-push Put laid.bundles (row-made one.row) laid.each (put-untold none one.row keyed);
            told = ap (λ rs. rs ++ one.row ∷ []) laid.told ∙ sym (map-append (λ (m : ReleaseBundle). m.row) laid.bundles (row-made one.row ∷ []));
            lays = lays-untold (map (bundle_put folder) (laid.bundles ++ row-made one.row ∷ [])) first new none (grown grows);
            free = λ files told. absurd (cc (sym none ∙ told));
            count = λ files told. absurd (cc (sym none ∙ told));
          }

  pub stops : (e : PutErr) → (IfSome cur.files (AreThere u.state folder) → PutsOne (IsPutBundle u made.plan folder cur) folder b cur new (Err e))
      → b < length made.plan.bundles → Grows cur new → StopsIn Put folder first new e
  stops e puts within grows = by_told first.files refl
    where
      by_told : (o : Option (List MemFile)) → first.files ≡ o → StopsIn Put folder first new e
      by_told (Some files) told = laid-stops Put folder (keys-apart u made is folder first) first cur new rows put laid b e number (told-puts files told (Err e) puts)
      by_told None none = untold none
        where
          untold : Untold → StopsIn Put folder first new e
          untold none =
              let (bundle, at) = there_is made.plan.bundles b within in
              let digest = digest_from [] in
              let key = file_name bundle.name digest in
              let row : BundleRow = record { key = key; size = 0; digest = digest; name = []; id = [] } in
              let last = row-made row in
              let keyed : IsKeyed made.plan b key = record { bundle = bundle; at = at; digest = digest; fits = digests-fit []; is = refl } in (
                laid.bundles ++ last ∷ [],
                EachAt-push Put laid.bundles last laid.each (put-untold none row keyed),
                ends-untold PutBundles folder (map (bundle_put folder) (laid.bundles ++ last ∷ [])) (all_bundle_tests (laid.bundles ++ last ∷ [])) first new e none
                    (let long = length-map (laid.bundles ++ last ∷ []) (bundle_put folder) in let parts = length-append laid.bundles (last ∷ []) in omega (arith, long, parts)) (grown grows),
              )
