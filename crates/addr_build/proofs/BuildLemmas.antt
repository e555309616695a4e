-- A whole build: what it answers and leaves, from what putting the release did.
use Rattle.std.proofs.Common.{◌≡◌, ℕ, ◌+◌, List, take, Option, Some, None, Result, Ok, Err, refl, subst, ◌∙◌, inr, arith}
use Rattle.std.specs.Prelude.{IfSome, IsSomeAnd}
use Rattle.addr_base.specs.Files.{SameStore, Store}
use Rattle.addr_base.specs.declared.files.MemFile.{MemFile}
use Rattle.addr_pack.specs.declared.bundles.Plan.{Plan}
use Rattle.addr_project.specs.Model.{Project}
use Rattle.addr_project.specs.Reading.{ProjectOf}
use Rattle.addr_release.specs.Puts.{AreUntaken, Test}
use Rattle.addr_build.specs.Endings.{Ends, IsTakenFirst, LaysUntaken}
use Rattle.addr_build.proofs.EndLemmas.{lays-untaken}
use Rattle.addr_build.specs.within.FromCauses.{of_put}
use Rattle.addr_build.specs.Moments.{AtEachMoment, LaysSome}
use Rattle.addr_build.specs.Outcomes.{Answers, Builds, IsWithin}
use Rattle.addr_build.specs.Release.{IsBegunIn}
use Rattle.addr_build.specs.within.Building.{PutsRelease}
use Rattle.addr_build.specs.declared.error.BuildErr.{BuildErr}
use Rattle.addr_build.specs.declared.error.PutErr.{PutErr}
use Rattle.addr_build.specs.declared.error.PutErr.TheVariants.{Taken, Fault, NoMemory}
use Rattle.addr_build.specs.declared.release.Summary.{Summary}
use Rattle.addr_project.specs.Kept.{IsKept}
use Rattle.addr_release.specs.Built.{IsReleaseOf}
use Rattle.addr_release.specs.Held.{IsHeld}
use Rattle.addr_release.specs.Laws.{Keeps}
use Rattle.addr_build.specs.After.{IsAgain, IsSoundFor, Leaves, Serves, Shows}
use Rattle.addr_build.specs.Outcomes.{IsBuilt}
use Rattle.addr_build.proofs.AfterLemmas.{built-held, built-shows, built-sound, owes-none, same-project, some-map, there-again}
use Rattle.addr_build.proofs.PutLemmas.{if-told, lays-same, same-then, told-at}
use Rattle.addr_build.proofs.ServeLemmas.{AfterSome, begun-holds, moments-some}

-- what holds of the files that are told
pub some-and : (o : Option (List MemFile)) (P : List MemFile → Type 0) (x : List MemFile) → o ≡ Some x → P x → IsSomeAnd o P
some-and None P x is holds = absurd (cc is)
some-and (Some y) P x is holds = let same : x ≡ y = cc is in subst P same holds

-- however puts end, some were made whose names aren't taken
pub ends-untaken : (T : Type 0) (folder : List ℕ) (puts : List MemFile) (n : ℕ) (tests : List Test) (a b : Store) (r : Result T PutErr) → Ends folder puts n tests a b r → LaysUntaken folder puts n tests a b
ends-untaken T folder puts n tests a b (Ok done) (lays, free) = lays-untaken folder puts n tests a b lays.some free
ends-untaken T folder puts n tests a b (Err (Taken name)) (k, few, lays, taken, untaken) = (k, omega (arith, few), lays.some, untaken)
ends-untaken T folder puts n tests a b (Err Fault) stopped = stopped
ends-untaken T folder puts n tests a b (Err NoMemory) stopped = stopped

module _ (folder : List ℕ) (p : Project) (plan : Plan) (within : IsWithin p plan) (old mid new : Store) (same : SameStore old mid)
    (read : IfSome old.files (λ files. ProjectOf files folder p)) where
  builds-from : (puts : List MemFile) (tests : List Test) → IsBegunIn p plan folder puts tests → LaysUntaken folder puts 0 tests mid new → Builds folder old new
  builds-from puts tests begun (k, few, some, untaken) = build (lays-same (take k puts) old mid new same some)
    where
      build : LaysSome (take k puts) old new → Builds folder old new
      build some = record {
        passed = some.passed;
        past = some.past;
        told = λ files is. (
            let (after, now, passes) = some.told files is in
            let m : 0 + k ≡ k = omega arith in (
              after,
              now,
              inr (
                p,
                told-at old.files (λ f. ProjectOf f folder p) files is read,
                puts,
                tests,
                (plan, within, begun),
                k,
                subst (λ n. AreUntaken files folder n tests) m (untaken files (same.files ∙ is)),
                passes,
              ),
            ));
      }

  pub build-done : (summary : Summary) → PutsRelease p plan folder mid new (Ok summary) → Builds folder old new
  build-done summary (r, is, ends, sums, still) = builds-from _ _ (inr (r, is, refl, refl)) (ends-untaken Summary folder _ 0 _ mid new (Ok summary) ends)

  pub build-stopped : (e : PutErr) → PutsRelease p plan folder mid new (Err e) → Builds folder old new
  build-stopped e (puts, tests, begun, ends) = builds-from puts tests begun (ends-untaken Summary folder puts 0 tests mid new (Err e) ends)

  pub answers-stopped : (e : PutErr) → PutsRelease p plan folder mid new (Err e) → IfSome old.files (λ o. IsSomeAnd new.files (λ n. Answers folder o n (Err (of_put e))))
  answers-stopped (Taken name) (puts, tests, begun, (k, few, lays, taken, untaken)) = if-told old.files _ (λ o is. (
      let at : mid.files ≡ Some o = same.files ∙ is in
      let (after, now, passes) = lays.some.told o at in
      let e : 0 + k ≡ k = omega arith in
      some-and new.files (λ n. Answers folder o n (Err (of_put (Taken name)))) after now
      (p, told-at old.files (λ f. ProjectOf f folder p) o is read, puts, tests, (plan, within, begun), (k, few, lays.all o after at now, subst (λ n. IsTakenFirst o folder tests n name) e (taken o at)))))
  answers-stopped Fault (puts, tests, begun, (k, few, some, untaken)) = if-told old.files _ (λ o is. (
      let (after, now, passes) = some.told o (same.files ∙ is) in
      some-and new.files (λ n. Answers folder o n (Err (of_put Fault))) after now tt))
  answers-stopped NoMemory (puts, tests, begun, (k, few, some, untaken)) = if-told old.files _ (λ o is. (
      let (after, now, passes) = some.told o (same.files ∙ is) in
      some-and new.files (λ n. Answers folder o n (Err (of_put NoMemory))) after now tt))

  pub answers-done : (summary : Summary) → PutsRelease p plan folder mid new (Ok summary) → IfSome old.files (λ o. IsSomeAnd new.files (λ n. Answers folder o n (Ok summary)))
  answers-done summary (r, is, (lays, free), sums, still) = if-told old.files _ (λ o here. (
      let at : mid.files ≡ Some o = same.files ∙ here in
      let (after, now, passes) = lays.some.told o at in
      some-and new.files (λ n. Answers folder o n (Ok summary)) after now (record {
        project = p;
        read = told-at old.files (λ f. ProjectOf f folder p) o here read;
        plan = plan;
        within = within;
        release = r;
        is = (plan, within.placed.placed, is);
        free = free o at;
        after = lays.all o after at now;
        sums = sums o at;
      })))

  module _ (kept : IsKept p) where
    -- what holds after each build holds after this one
    leaves : (summary : Summary) (holds : Summary → List MemFile → List MemFile → Type 0)
        → ((o n : List MemFile) (built : IsBuilt folder o n summary) → IsKept built.project → holds summary o n)
        → PutsRelease p plan folder mid new (Ok summary) → Leaves {E = BuildErr} holds old new (Ok summary)
    leaves summary holds gives puts = some-map old.files new.files (λ o n. IsBuilt folder o n summary) (holds summary)
        (λ o n here built. gives o n built (subst IsKept (same-project o folder p built.project (told-at old.files (λ f. ProjectOf f folder p) o here read) built.read) kept)) (answers-done summary puts)

    pub leaves-shown : (summary : Summary) → PutsRelease p plan folder mid new (Ok summary) → Leaves {E = BuildErr} (λ done. Shows folder) old new (Ok summary)
    leaves-shown summary = leaves summary (λ done. Shows folder) (λ o n. built-shows folder o n summary)

    pub leaves-sound : (summary : Summary) → PutsRelease p plan folder mid new (Ok summary) → Leaves {E = BuildErr} (λ done. IsSoundFor folder) old new (Ok summary)
    leaves-sound summary = leaves summary (λ done. IsSoundFor folder) (λ o n. built-sound folder o n summary)

    pub leaves-held : (summary : Summary) → PutsRelease p plan folder mid new (Ok summary) → Leaves {E = BuildErr} (λ done o n. IsHeld n folder) old new (Ok summary)
    leaves-held summary = leaves summary (λ done o n. IsHeld n folder) (λ o n. built-held folder o n summary)

    pub leaves-again : (summary : Summary) → PutsRelease p plan folder mid new (Ok summary) → IsAgain {E = BuildErr} folder old new (Ok summary)
    leaves-again summary (r, is, ends, sums, still) first files earlier at one =
        let own : IsReleaseOf p r = (plan, within.placed.placed, is) in
        let was = told-at old.files (λ f. ProjectOf f folder p) files at read in
        let here : mid.files ≡ Some files = same.files ∙ at in (
          owes-none folder first files earlier one p kept was r own summary (sums files here),
          same-then old mid new same (still files here (there-again folder first files earlier one p kept was r own)),
        )

    -- what readers find at each moment, and what stays
    holds-after : (puts : List MemFile) (tests : List Test) → IsBegunIn p plan folder puts tests → LaysUntaken folder puts 0 tests mid new → AtEachMoment (Serves folder) old new × AtEachMoment (Keeps folder) old new
    holds-after puts tests begun (k, few, some, untaken) = (
      moments-some (Serves folder) puts k old new few all (λ before files is at. (both before files is at).0),
      moments-some (Keeps folder) puts k old new few all (λ before files is at. (both before files is at).1),
    )
      where
        all : LaysSome (take k puts) old new
        all = lays-same (take k puts) old mid new same some

        both : (before files : List MemFile) → old.files ≡ Some before → AfterSome puts k before files → Serves folder before files × Keeps folder before files
        both before files is at =
            let m : 0 + k ≡ k = omega arith in
            begun-holds folder before files p kept (told-at old.files (λ f. ProjectOf f folder p) before is read) plan within puts tests k begun
            (subst (λ n. AreUntaken before folder n tests) m (untaken before (same.files ∙ is))) at

    done : (summary : Summary) → PutsRelease p plan folder mid new (Ok summary) → AtEachMoment (Serves folder) old new × AtEachMoment (Keeps folder) old new
    done summary (r, is, ends, sums, still) = holds-after _ _ (inr (r, is, refl, refl)) (ends-untaken Summary folder _ 0 _ mid new (Ok summary) ends)

    stopped : (e : PutErr) → PutsRelease p plan folder mid new (Err e) → AtEachMoment (Serves folder) old new × AtEachMoment (Keeps folder) old new
    stopped e (puts, tests, begun, ends) = holds-after puts tests begun (ends-untaken Summary folder puts 0 tests mid new (Err e) ends)

    pub serves-done : (summary : Summary) → PutsRelease p plan folder mid new (Ok summary) → AtEachMoment (Serves folder) old new
    serves-done summary puts = (done summary puts).0

    pub keeps-done : (summary : Summary) → PutsRelease p plan folder mid new (Ok summary) → AtEachMoment (Keeps folder) old new
    keeps-done summary puts = (done summary puts).1

    pub serves-stopped : (e : PutErr) → PutsRelease p plan folder mid new (Err e) → AtEachMoment (Serves folder) old new
    serves-stopped e puts = (stopped e puts).0

    pub keeps-stopped : (e : PutErr) → PutsRelease p plan folder mid new (Err e) → AtEachMoment (Keeps folder) old new
    keeps-stopped e puts = (stopped e puts).1
