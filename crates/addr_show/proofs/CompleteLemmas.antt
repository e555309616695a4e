-- A folder whose project's placement passes no limit leaves `analyze` its text, or want of memory.
use Rattle.std.proofs.Common.{◌≡◌, ◌⊎◌, inl, inr, ℕ, List, Option, Some, None, Result, Ok, Err, IfSome, refl, sym, subst, ◌∙◌, arith}
use Rattle.addr_base.specs.Faults.{Rose}
use Rattle.addr_base.specs.Files.{Store}
use Rattle.addr_base.specs.Streams.{Stream}
use Rattle.addr_base.specs.declared.files.MemFile.{MemFile}
use Rattle.addr_images.specs.Limits.{Fits, IsPlanWithin, Passes, PlanPasses}
use Rattle.addr_layout.specs.Counts.{IsDepsCount, IsMembersCount}
use Rattle.addr_layout.specs.Laws.{AtMostOne}
use Rattle.addr_layout.specs.Needs.{Needs}
use Rattle.addr_layout.proofs.UniqueLemmas.{one-deps_count, one-members_count}
use Rattle.addr_pack.specs.declared.bundles.Plan.{Plan}
use Rattle.addr_pack.proofs.UniqueLemmas.{one_placement}
use Rattle.addr_project.specs.Model.{Project as Contents}
use Rattle.addr_project.specs.Reading.{ProjectOf}
use Rattle.addr_project.specs.declared.limit.Limit.{Limit}
use Rattle.addr_project.specs.declared.limit.Limit.TheVariants as limit
use Rattle.addr_show.specs.Analyzing.{AnalyzeRose, Analyzes, AnalyzesTo, IsComplete, IsPlannable, PrintsEnd}
use Rattle.addr_show.specs.Printing.{PrintsText}
use Rattle.addr_show.specs.declared.error.AnalyzeErr.{AnalyzeErr}
use Rattle.addr_show.specs.declared.error.AnalyzeErr.TheVariants.{Project, TooLarge, DepotFault, NoMemory}

-- a count that is within a limit doesn't pass it
not-both : (counts : ℕ → Type 0) → AtMostOne counts → (which : Limit) (n : ℕ) → Fits counts which → Passes counts which n → ⊥
not-both counts one which n (m, is, within) (also, past) = let same = one m n is also in omega (arith, same, within, past)

none-passed : (p : Contents) (plan : Plan) → IsPlanWithin p plan → (which : Limit) (n : ℕ) → PlanPasses p which n → ⊥
none-passed p plan within limit.BundleName n (x, first) = within.names x n first.0
none-passed p plan within limit.Members n (names, other, placed, passes) =
    let same = one_placement p other plan placed within.placed in
    not-both (IsMembersCount p plan) (one-members_count p plan) limit.Members n within.members (subst (λ (q : Plan). Passes (IsMembersCount p q) limit.Members n) same passes)
none-passed p plan within limit.Deps n (names, other, placed, members, passes) =
    let same = one_placement p other plan placed within.placed in
    not-both (IsDepsCount p plan) (one-deps_count (Needs p plan) plan) limit.Deps n within.deps (subst (λ (q : Plan). Passes (IsDepsCount p q) limit.Deps n) same passes)
none-passed p plan within limit.Variables n passes = passes
none-passed p plan within limit.Groups n passes = passes
none-passed p plan within limit.Assets n passes = passes
none-passed p plan within limit.Entries n passes = passes
none-passed p plan within limit.Labels n passes = passes
none-passed p plan within limit.Refs n passes = passes
none-passed p plan within limit.AllRefs n passes = passes
none-passed p plan within limit.Expanded n passes = passes
none-passed p plan within limit.AssetBytes n passes = passes
none-passed p plan within limit.AllBytes n passes = passes
none-passed p plan within limit.BundleBytes n passes = passes

one-project : (files : List MemFile) (folder : List ℕ) (p q : Contents) → ProjectOf files folder p → ProjectOf files folder q → p ≡ q
one-project files folder p q here there = let same = sym here ∙ there in cc same

-- ---- the status of an end

module _ (depot depot' : Store) (out out' : Stream) (status : ℕ) (steady : Rose depot.faults depot'.faults → ⊥) (still : Rose out.faults out'.faults → ⊥) where
  printed : (code : ℕ) (text : List ℕ) → PrintsText code text status out out' → status ≡ code
  printed code text (inl whole) = whole.status_is
  printed code text (inr part) = absurd (still part.rose)

  ended : (files : List MemFile) (folder : List ℕ) (p : Contents) (plan : Plan) → ProjectOf files folder p → IsPlanWithin p plan → (end : Result (List ℕ) AnalyzeErr) → Analyzes files folder end
      → AnalyzeRose depot.faults depot'.faults end → PrintsEnd end status out out' → (status ≡ 0) ⊎ (status ≡ 1)
  ended files folder p plan read within (Ok text) told cause (inl prints) = inl (printed 0 text prints)
  ended files folder p plan read within (Ok text) told cause (inr (takes, prints)) = absurd takes
  ended files folder p plan read within (Err NoMemory) told cause (inl prints) = inr (printed 1 _ prints)
  ended files folder p plan read within (Err NoMemory) told cause (inr (takes, prints)) = absurd takes
  ended files folder p plan read within (Err DepotFault) told cause prints = absurd (steady cause.1)
  ended files folder p plan read within (Err (Project fault)) told cause prints = let same = sym read ∙ told in absurd (cc same)
  ended files folder p plan read within (Err (TooLarge which n)) (other, also, passes) cause prints =
      absurd (none-passed p plan within which n (subst (λ (q : Contents). PlanPasses q which n) (one-project files folder other p also read) passes))

pub complete : (words : List (List ℕ)) (depot depot' : Store) (out out' : Stream) (status : ℕ) → AnalyzesTo words depot depot' out out' status → IsComplete words depot depot' out out' status
complete words depot depot' out out' status ends = by_files depot.files refl
  where
    by_end : (files : List MemFile) → depot.files ≡ Some files → IsPlannable files words → (Rose depot.faults depot'.faults → ⊥) → (Rose out.faults out'.faults → ⊥) → AnalyzesTo words depot depot' out out' status → (status ≡ 0) ⊎ (status ≡ 1)
    by_end files told sound steady still (inr unasked) = absurd (unasked.other (sound.folder, sound.asks))
    by_end files told sound steady still (inl asked) =
        let lines = sym sound.asks ∙ asked.asks in
        let same : sound.folder ≡ asked.folder = cc lines in
        let known : IfSome (Some files) (λ these. Analyzes these asked.folder asked.ended) = subst (λ (o : Option (List MemFile)). IfSome o (λ these. Analyzes these asked.folder asked.ended)) told asked.told in
        ended depot depot' out out' status steady still files asked.folder sound.project sound.plan (subst (λ (f : List ℕ). ProjectOf files f sound.project) same sound.read) sound.within asked.ended known asked.cause asked.prints

    by_files : (told : Option (List MemFile)) → depot.files ≡ told → IfSome told (λ files. IsPlannable files words → (Rose depot.faults depot'.faults → ⊥) → (Rose out.faults out'.faults → ⊥) → (status ≡ 0) ⊎ (status ≡ 1))
    by_files None is = tt
    by_files (Some files) is = λ sound steady still. by_end files is sound steady still ends
