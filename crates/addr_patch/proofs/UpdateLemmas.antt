-- A whole update: what it answers and leaves, from what comparing, preparing and putting did.
use Rattle.std.proofs.Common.{◌≡◌, ℕ, ◌+◌, List, take, Some, Result, Ok, Err, refl, sym, subst, ◌∙◌, inl, inr, arith}
use Rattle.std.specs.Prelude.{IfSome, IsSomeAnd}
use Rattle.addr_base.specs.Files.{SameStore, Store}
use Rattle.addr_base.specs.declared.files.MemFile.{MemFile}
use Rattle.addr_pack.specs.LongNames.{NamesFit}
use Rattle.addr_pack.specs.Placement.{IsPlaced}
use Rattle.addr_pack.specs.declared.bundles.Plan.{Plan}
use Rattle.addr_project.specs.Kept.{IsKept}
use Rattle.addr_project.specs.declared.limit.Limit.{Limit}
use Rattle.addr_project.specs.declared.limit.Limit.TheVariants as limit
use Rattle.addr_release.specs.Laws.{Keeps}
use Rattle.addr_release.specs.Puts.{AreUntaken, Test}
use Rattle.addr_state.specs.Sound.{IsSound}
use Rattle.addr_update.specs.Placement.{IsUpdated}
use Rattle.addr_build.proofs.AfterLemmas.{same-project, some-map}
use Rattle.addr_build.proofs.BuildLemmas.{ends-untaken, some-and}
use Rattle.addr_build.proofs.PutLemmas.{if-told, lays-same, told-at}
use Rattle.addr_build.proofs.ServeLemmas.{AfterSome, moments-some}
use Rattle.addr_build.specs.After.{Leaves}
use Rattle.addr_build.specs.Endings.{IsTakenFirst, LaysUntaken, PutRose}
use Rattle.addr_build.specs.Moments.{AtEachMoment, LaysSome}
use Rattle.addr_build.specs.declared.error.PutErr.{PutErr}
use Rattle.addr_build.specs.declared.error.PutErr.TheVariants as put
use Rattle.addr_build.specs.declared.release.Summary.{Summary}
use Rattle.addr_check.specs.Checking.{IsCompared}
use Rattle.addr_check.specs.Comparing.{Compares, update_of}
use Rattle.addr_check.specs.declared.checking.Compared.{Compared}
use Rattle.addr_check.specs.declared.error.CheckErr.{CheckErr}
use Rattle.addr_check.specs.declared.error.CheckErr.TheVariants as check
use Rattle.addr_patch.specs.After.{CountsMoves, HoldsStill, IsSoundFor, IsStep, Serves, Shows}
use Rattle.addr_patch.specs.FromCauses.{of_check, of_put}
use Rattle.addr_patch.specs.Limits.{IsTooLarge, ReleasePasses}
use Rattle.addr_patch.specs.Outcomes.{Answers, IsBegun, IsBegunIn, IsEarly, IsPatched, UpdateRose, Updates}
use Rattle.addr_patch.specs.declared.error.UpdateErr.{UpdateErr}
use Rattle.addr_patch.specs.declared.error.UpdateErr.TheVariants.{Project, NoRelease, BadCatalogue, BadRelease, TooLarge, NameTaken, DepotFault, NoMemory}
use Rattle.addr_patch.specs.declared.preparing.Prepared.{Prepared}
use Rattle.addr_patch.specs.within.Preparing.{IsPrepared, RefusesPreparing}
use Rattle.addr_patch.specs.within.Putting.{PutsUpdate}
use Rattle.addr_patch.proofs.ComparedLemmas.{compared-as}
use Rattle.addr_patch.proofs.PatchedLemmas.{patched-held, patched-moves, patched-shows, patched-sound, patched-step}
use Rattle.addr_patch.proofs.ServeLemmas.{begun-holds, update-to}

-- a folder serves what it has
pub serves-same : (folder : List ℕ) (files : List MemFile) → Serves folder files files
serves-same folder files = inl (record { catalogue = refl; resolves = λ key shown is. is })

-- ---- what isn't compared

check-answers : (folder : List ℕ) (old new : List MemFile) (e : CheckErr) → Compares old folder (Err e) → Answers folder old new (Err (of_check e))
check-answers folder old new (check.Project fault) is = is
check-answers folder old new (check.NoRelease name) is = is
check-answers folder old new (check.BadCatalogue fault) is = is
check-answers folder old new (check.BadRelease name why) is = is
check-answers folder old new (check.TooLarge which size) (is, long) = subst (λ (w : Limit). IsTooLarge old folder w size) (sym is) long
check-answers folder old new check.DepotFault is = tt
check-answers folder old new check.NoMemory is = tt

pub answers-check : (folder : List ℕ) (old mid : Store) (e : CheckErr) → SameStore old mid → IfSome old.files (λ files. Compares files folder (Err e)) → IfSome old.files (λ o. IsSomeAnd mid.files (λ n. Answers folder o n (Err (of_check e))))
answers-check folder old mid e same told =
    if-told old.files _ (λ o is. some-and mid.files (λ n. Answers folder o n (Err (of_check e))) o (same.files ∙ is) (check-answers folder o o e (told-at old.files (λ files. Compares files folder (Err e)) o is told)))

-- ---- counts of faults, and which refusals come late

pub rose-prepare : (before now : ℕ) (c : Compared) (e : UpdateErr) → now ≡ before → RefusesPreparing (update_of c) e → UpdateRose {T = Summary} before now (Err e)
rose-prepare before now c (Project fault) same refused = absurd refused
rose-prepare before now c (NoRelease name) same refused = absurd refused
rose-prepare before now c (BadCatalogue fault) same refused = absurd refused
rose-prepare before now c (BadRelease name why) same refused = absurd refused
rose-prepare before now c (TooLarge which n) same refused = same
rose-prepare before now c (NameTaken name) same refused = absurd refused
rose-prepare before now c DepotFault same refused = absurd refused
rose-prepare before now c NoMemory same refused = same

pub rose-put : (before mid now : ℕ) (e : PutErr) → mid ≡ before → PutRose {T = Summary} mid now (Err e) → UpdateRose {T = Summary} before now (Err (of_put e))
rose-put before mid now (put.Taken name) same rose = rose ∙ same
rose-put before mid now put.Fault same rose = subst (λ n. PutRose {T = Summary} n now (Err put.Fault)) same rose
rose-put before mid now put.NoMemory same rose = rose ∙ same

pub put-late : (e : PutErr) → IsEarly (Err (of_put e)) → ⊥
put-late (put.Taken name) early = early
put-late put.Fault early = early
put-late put.NoMemory early = early

-- ---- what was compared

module _ (folder : List ℕ) (c : Compared) (placed : IsPlaced c.project c.now) (names : NamesFit c.project) (old mid : Store) (same : SameStore old mid) (read : IfSome old.files (λ files. Compares files folder (Ok c))) where
  abbrev compared-at : (files : List MemFile) → old.files ≡ Some files → IsCompared files folder (update_of c)
  compared-at files is = compared-as files folder c placed names (told-at old.files (λ f. Compares f folder (Ok c)) files is read)

  -- a limit that its update passes
  too-large : (files : List MemFile) → IsCompared files folder (update_of c) → (which : Limit) (n : ℕ) (plan : Plan) → IsUpdated (update_of c) plan → ReleasePasses (update_of c) plan which n → IsTooLarge files folder which n
  too-large files compared limit.Variables n plan updated passes = absurd passes
  too-large files compared limit.Groups n plan updated passes = absurd passes
  too-large files compared limit.Assets n plan updated passes = absurd passes
  too-large files compared limit.Entries n plan updated passes = absurd passes
  too-large files compared limit.Labels n plan updated passes = absurd passes
  too-large files compared limit.Refs n plan updated passes = absurd passes
  too-large files compared limit.AllRefs n plan updated passes = absurd passes
  too-large files compared limit.Expanded n plan updated passes = absurd passes
  too-large files compared limit.AssetBytes n plan updated passes = absurd passes
  too-large files compared limit.AllBytes n plan updated passes = absurd passes
  too-large files compared limit.BundleName n plan updated passes = absurd passes
  too-large files compared limit.Members n plan updated passes = (update_of c, compared, names, plan, updated, passes)
  too-large files compared limit.Deps n plan updated passes = (update_of c, compared, names, plan, updated, passes)
  too-large files compared limit.BundleBytes n plan updated passes = (update_of c, compared, names, plan, updated, passes)

  prepare-answers : (o n : List MemFile) (e : UpdateErr) → IsCompared o folder (update_of c) → RefusesPreparing (update_of c) e → Answers folder o n (Err e)
  prepare-answers o n (Project fault) compared refused = absurd refused
  prepare-answers o n (NoRelease name) compared refused = absurd refused
  prepare-answers o n (BadCatalogue fault) compared refused = absurd refused
  prepare-answers o n (BadRelease name why) compared refused = absurd refused
  prepare-answers o n (TooLarge which m) compared (plan, updated, passes) = too-large o compared which m plan updated passes
  prepare-answers o n (NameTaken name) compared refused = absurd refused
  prepare-answers o n DepotFault compared refused = absurd refused
  prepare-answers o n NoMemory compared refused = tt

  pub answers-prepare : (e : UpdateErr) → RefusesPreparing (update_of c) e → IfSome old.files (λ o. IsSomeAnd mid.files (λ n. Answers folder o n (Err e)))
  answers-prepare e refused = if-told old.files _ (λ o is. some-and mid.files (λ n. Answers folder o n (Err e)) o (same.files ∙ is) (prepare-answers o o e (compared-at o is) refused))

  -- ---- what was put

  module _ (made : Prepared) (prepared : IsPrepared (update_of c) made) (new : Store) where
    -- how far the update has come, for files that are told
    abbrev Begun : List MemFile → List Test → Type 0
    Begun puts tests = (files : List MemFile) → mid.files ≡ Some files → IsBegunIn (update_of c) made.plan files folder c.release.catalogue.state puts tests

    begun-at : (files : List MemFile) (is : old.files ≡ Some files) (puts : List MemFile) (tests : List Test) → Begun puts tests → IsBegun files folder puts tests
    begun-at files is puts tests begun = (update_of c, compared-at files is, made.plan, prepared.within, begun files (same.files ∙ is))

    updates-from : (puts : List MemFile) (tests : List Test) → Begun puts tests → LaysUntaken folder puts 0 tests mid new → Updates folder old new
    updates-from puts tests begun (k, few, some, untaken) = passed (lays-same (take k puts) old mid new same some)
      where
        passed : LaysSome (take k puts) old new → Updates folder old new
        passed some = record {
          passed = some.passed;
          past = some.past;
          told = λ files is. (
              let (after, now, passes) = some.told files is in
              let m : 0 + k ≡ k = omega arith in (
                after,
                now,
                inr (puts, tests, begun-at files is puts tests begun, k, subst (λ n. AreUntaken files folder n tests) m (untaken files (same.files ∙ is)), passes),
              ));
        }

    whole : (summary : Summary) (done : PutsUpdate (update_of c) made folder c.release.catalogue.state mid new (Ok summary)) → (puts : List MemFile) × (tests : List Test) × Begun puts tests × LaysUntaken folder puts 0 tests mid new
    whole summary (r, ends, moved, is) = (_, _, λ files at. inr (r, (is files at).is, refl, refl), ends-untaken Summary folder _ 0 _ mid new (Ok summary) ends)

    pub updates-done : (summary : Summary) → PutsUpdate (update_of c) made folder c.release.catalogue.state mid new (Ok summary) → Updates folder old new
    updates-done summary done = let (puts, tests, begun, lays) = whole summary done in updates-from puts tests begun lays

    pub updates-stopped : (e : PutErr) → PutsUpdate (update_of c) made folder c.release.catalogue.state mid new (Err e) → Updates folder old new
    updates-stopped e (puts, tests, ends, begun) = updates-from puts tests begun (ends-untaken Summary folder puts 0 tests mid new (Err e) ends)

    pub answers-stopped : (e : PutErr) → PutsUpdate (update_of c) made folder c.release.catalogue.state mid new (Err e) → IfSome old.files (λ o. IsSomeAnd new.files (λ n. Answers folder o n (Err (of_put e))))
    answers-stopped (put.Taken name) (puts, tests, (k, few, lays, taken, untaken), begun) = if-told old.files _ (λ o is. (
        let at : mid.files ≡ Some o = same.files ∙ is in
        let (after, now, passes) = lays.some.told o at in
        let e : 0 + k ≡ k = omega arith in
        some-and new.files (λ n. Answers folder o n (Err (of_put (put.Taken name)))) after now
        (puts, tests, begun-at o is puts tests begun, k, few, lays.all o after at now, subst (λ n. IsTakenFirst o folder tests n name) e (taken o at))))
    answers-stopped put.Fault (puts, tests, (k, few, some, untaken), begun) = if-told old.files _ (λ o is. (
        let (after, now, passes) = some.told o (same.files ∙ is) in
        some-and new.files (λ n. Answers folder o n (Err (of_put put.Fault))) after now tt))
    answers-stopped put.NoMemory (puts, tests, (k, few, some, untaken), begun) = if-told old.files _ (λ o is. (
        let (after, now, passes) = some.told o (same.files ∙ is) in
        some-and new.files (λ n. Answers folder o n (Err (of_put put.NoMemory))) after now tt))

    module _ (sound : IsSound c.release.state) where
      pub answers-done : (summary : Summary) → PutsUpdate (update_of c) made folder c.release.catalogue.state mid new (Ok summary) → IfSome old.files (λ o. IsSomeAnd new.files (λ n. Answers folder o n (Ok summary)))
      answers-done summary (r, (lays, free), moved, is) = if-told old.files _ (λ o here. (
          let at : mid.files ≡ Some o = same.files ∙ here in
          let (after, now, passes) = lays.some.told o at in
          let put = is o at in
          some-and new.files (λ n. Answers folder o n (Ok summary)) after now (record {
            u = update_of c;
            compared = compared-at o here;
            release = r;
            of = update-to folder o (update_of c) (compared-at o here) sound made.plan prepared.kept prepared.moved prepared.split prepared.updated r put.is (free o at);
            within = prepared.within;
            after = lays.all o after at now;
            sums = record { moved = moved ∙ prepared.counted; bundles = put.bundles; put = put.put; rows = put.rows };
          })))

      module _ (kept : IsKept c.project) where
        -- what holds after each update holds after this one
        leaves : (summary : Summary) (holds : Summary → List MemFile → List MemFile → Type 0) → ((o n : List MemFile) (done : IsPatched folder o n summary) → IsKept done.u.project → holds summary o n)
            → PutsUpdate (update_of c) made folder c.release.catalogue.state mid new (Ok summary) → Leaves {E = UpdateErr} holds old new (Ok summary)
        leaves summary holds gives puts = some-map old.files new.files (λ o n. IsPatched folder o n summary) (holds summary)
            (λ o n here done. gives o n done (subst IsKept (same-project o folder c.project done.u.project (compared-at o here).project done.compared.project) kept)) (answers-done summary puts)

        pub leaves-shown : (summary : Summary) → PutsUpdate (update_of c) made folder c.release.catalogue.state mid new (Ok summary) → Leaves {E = UpdateErr} (λ done. Shows folder) old new (Ok summary)
        leaves-shown summary = leaves summary (λ done. Shows folder) (λ o n. patched-shows folder o n summary)

        pub leaves-sound : (summary : Summary) → PutsUpdate (update_of c) made folder c.release.catalogue.state mid new (Ok summary) → Leaves {E = UpdateErr} (λ done. IsSoundFor folder) old new (Ok summary)
        leaves-sound summary = leaves summary (λ done. IsSoundFor folder) (λ o n. patched-sound folder o n summary)

        pub leaves-held : (summary : Summary) → PutsUpdate (update_of c) made folder c.release.catalogue.state mid new (Ok summary) → Leaves {E = UpdateErr} (λ done. HoldsStill folder) old new (Ok summary)
        leaves-held summary = leaves summary (λ done. HoldsStill folder) (λ o n done is. patched-held folder o n summary done)

        pub leaves-step : (summary : Summary) → PutsUpdate (update_of c) made folder c.release.catalogue.state mid new (Ok summary) → Leaves {E = UpdateErr} (λ done. IsStep folder) old new (Ok summary)
        leaves-step summary = leaves summary (λ done. IsStep folder) (λ o n. patched-step folder o n summary)

        pub leaves-counted : (summary : Summary) → PutsUpdate (update_of c) made folder c.release.catalogue.state mid new (Ok summary) → Leaves {E = UpdateErr} (λ done o n. CountsMoves folder done o) old new (Ok summary)
        leaves-counted summary = leaves summary (λ done o n. CountsMoves folder done o) (λ o n done is. patched-moves folder o n summary done)

        -- what readers find at each moment, and what stays
        holds-after : (puts : List MemFile) (tests : List Test) → Begun puts tests → LaysUntaken folder puts 0 tests mid new → AtEachMoment (Serves folder) old new × AtEachMoment (Keeps folder) old new
        holds-after puts tests begun (k, few, some, untaken) = (
          moments-some (Serves folder) puts k old new few all (λ before files is at. (both before files is at).0),
          moments-some (Keeps folder) puts k old new few all (λ before files is at. (both before files is at).1),
        )
          where
            all : LaysSome (take k puts) old new
            all = lays-same (take k puts) old mid new same some

            both : (before files : List MemFile) → old.files ≡ Some before → AfterSome puts k before files → Serves folder before files × Keeps folder before files
            both before files is at =
                let m : 0 + k ≡ k = omega arith in
                begun-holds folder before (update_of c) (compared-at before is) kept sound made.plan prepared.kept prepared.moved prepared.split prepared.updated files puts tests k (begun before (same.files ∙ is))
                (subst (λ n. AreUntaken before folder n tests) m (untaken before (same.files ∙ is))) at

        pub holds-done : (summary : Summary) → PutsUpdate (update_of c) made folder c.release.catalogue.state mid new (Ok summary) → AtEachMoment (Serves folder) old new × AtEachMoment (Keeps folder) old new
        holds-done summary done = let (puts, tests, begun, lays) = whole summary done in holds-after puts tests begun lays

        pub holds-stopped : (e : PutErr) → PutsUpdate (update_of c) made folder c.release.catalogue.state mid new (Err e) → AtEachMoment (Serves folder) old new × AtEachMoment (Keeps folder) old new
        holds-stopped e (puts, tests, ends, begun) = holds-after puts tests begun (ends-untaken Summary folder puts 0 tests mid new (Err e) ends)
