-- From what the steps of checking answer to what is told.
use Rattle.std.proofs.Common.{◌≡◌, ℕ, List, [], ◌∷◌, length, refl, sym, subst, arith, inl, inr, Option, None, Some}
use Rattle.std.specs.Prelude.{IfErr, IfSome, Result, Ok, Err}
use Rattle.std.specs.Result.{IsErrAnd}
use Rattle.std.specs.List.{AllZip}
use Rattle.addr_held.specs.Opening.{HoldsRelease, OpensRelease, was_of}
use Rattle.addr_held.specs.declared.error.HeldErr.{HeldErr}
use Rattle.addr_held.specs.declared.error.HeldErr.TheVariants.{NoRelease, BadCatalogue, BadRelease, DepotFault, NoMemory}
use Rattle.addr_held.specs.declared.release.Release.{Release}
use Rattle.addr_held.proofs.OpenedLemmas.{named-rows, shows-from}
use Rattle.addr_base.specs.declared.files.MemFile.{MemFile}
use Rattle.addr_locate.specs.declared.rows.BundleRow.{BundleRow}
use Rattle.addr_moves.specs.Fates.{AreFates, AreMoves, comparing}
use Rattle.addr_moves.specs.declared.fate.Fate.{Fate}
use Rattle.addr_pack.specs.LongNames.{NamesFit, Refuses}
use Rattle.addr_pack.specs.Placement.{IsPlaced}
use Rattle.addr_pack.specs.declared.bundles.Plan.{Plan}
use Rattle.addr_pack.specs.declared.error.PlanErr.{PlanErr}
use Rattle.addr_pack.specs.declared.error.PlanErr.TheVariants as plan
use Rattle.addr_project.specs.Model.{Project}
use Rattle.addr_project.specs.Reading.{ProjectOf, Reads}
use Rattle.addr_release.specs.Opened.{Opened}
use Rattle.addr_resolve.specs.Items.{AreNamed, ShowsCabs}
use Rattle.addr_state.specs.declared.model.StateBundle.{StateBundle}
use Rattle.addr_update.specs.After.{IsRowOfOld}
use Rattle.addr_update.specs.declared.model.Move.{Move}
use Rattle.addr_check.specs.Checking.{Checks, IsCompared}
use Rattle.addr_check.specs.Comparing.{Compares, IsComparedAs, refusal, update_of}
use Rattle.addr_check.specs.FromCauses.{of_held, of_plan}
use Rattle.addr_check.specs.declared.checking.Compared.{Compared}
use Rattle.addr_check.specs.declared.error.CheckErr.{CheckErr}
use Rattle.addr_check.specs.declared.error.CheckErr.TheVariants as checks
use Rattle.addr_check.specs.within.Steps.{IsOf, ReadsBoth, RefusesComparing}

-- a row for each bundle
pub rows-many : (olds : List StateBundle) (rows : List BundleRow) → AllZip IsRowOfOld olds rows → length rows ≡ length olds
rows-many [] [] are = refl
rows-many [] (r ∷ rows) are = absurd are
rows-many (o ∷ olds) [] are = absurd are
rows-many (o ∷ olds) (r ∷ rows) are = omega (arith, rows-many olds rows are.1)

-- what becomes of the entries, over the bundles as they were opened
pub fates-seen : (r : Release) (rows : List BundleRow) (p : Project) (now : Plan) (fates : List Fate) → length r.cabs ≡ length r.state.bundles → AllZip IsRowOfOld r.state.bundles rows
    → ((was : List Opened) → AreNamed was rows → ShowsCabs was r.cabs → AreFates (comparing r.state was r.catalogue.locator p now) fates)
    → AreFates (comparing r.state (was_of r) r.catalogue.locator p now) fates
fates-seen r rows p now fates many are tells = tells (was_of r) (named-rows r.state.bundles r.cabs rows many are) (shows-from r.state.bundles r.cabs many)

-- what was read is what an update of the folder compares
pub compared-told : (files : List MemFile) (folder : List ℕ) (c : Compared) → IsComparedAs files folder c → NamesFit c.project → IsPlaced c.project c.now → IsCompared files folder (update_of c)
compared-told files folder c seen fits placed = record {
  project = seen.project;
  fits = fits;
  placed = placed;
  catalogue = c.release.catalogue;
  rows = refl;
  held = seen.held.held;
  intact = seen.held.intact;
}

pub compared-as : (folder : List ℕ) (old : Option (List MemFile)) (p : Project) (r : Release) (c : Compared) → IfSome old (λ files. ProjectOf files folder p × HoldsRelease files folder r) → IsOf p r c → IfSome old (λ files. IsComparedAs files folder c)
compared-as folder None p r c reads of = tt
compared-as folder (Some files) p r c (read, holds) (project, release) = record {
  project = subst (ProjectOf files folder) (sym project) read;
  held = subst (HoldsRelease files folder) (sym release) holds;
}

-- the moves of what was compared
pub moves-told : (folder : List ℕ) (old : Option (List MemFile)) (c : Compared) (moves : List Move) → IfSome old (λ files. IsComparedAs files folder c) → NamesFit c.project → IsPlaced c.project c.now → AreMoves (update_of c) moves → IfSome old (λ files. Checks files folder (Ok moves))
moves-told folder None c moves seen fits placed are = tt
moves-told folder (Some files) c moves seen fits placed are = (update_of c, compared-told files folder c seen fits placed, are)

-- a project that was read is the folder's
project-of : (files : List MemFile) (folder : List ℕ) (p : Project) → Reads files folder (Ok p) → ProjectOf files folder p
project-of files folder p (inl e) = absurd (cc e)
project-of files folder p (inr (inl e)) = absurd (cc e)
project-of files folder p (inr (inr is)) = is

module _ {T : Type 0} (P : T → Project) (R : T → Release) (folder : List ℕ) where
  held-err : (files : List MemFile) (p : Project) (e : HeldErr) → ProjectOf files folder p → OpensRelease files folder (Err e) → ReadsBoth P R files folder (Err (of_held e))
  held-err files p (NoRelease name) read opens = (p, read, opens)
  held-err files p (BadCatalogue fault) read opens = (p, read, opens)
  held-err files p (BadRelease name why) read opens = (p, read, opens.0, opens.1, opens.2)
  held-err files p DepotFault read opens = tt
  held-err files p NoMemory read opens = tt

  held-as : (files : List MemFile) (p : Project) (e : HeldErr) (result : Result T CheckErr) → ProjectOf files folder p → OpensRelease files folder (Err e) → IsErrAnd result (λ f. f ≡ of_held e) → ReadsBoth P R files folder result
  held-as files p e (Ok t) read opens is = absurd is
  held-as files p e (Err f) read opens is = subst (λ (x : CheckErr). ReadsBoth P R files folder (Err x)) (sym is) (held-err files p e read opens)

  -- the project was read, and the release isn't opened
  pub held-told : (old mid : Option (List MemFile)) (p : Project) (e : HeldErr) (result : Result T CheckErr) → IfSome old (λ files. Reads files folder (Ok p)) → mid ≡ old → IfSome mid (λ files. OpensRelease files folder (Err e)) → IsErrAnd result (λ f. f ≡ of_held e)
      → IfSome old (λ files. ReadsBoth P R files folder result)
  held-told None mid p e result read same opens is = tt
  held-told (Some files) mid p e result read same opens is = held-as files p e result (project-of files folder p read) (subst (λ (o : Option (List MemFile)). IfSome o (λ fs. OpensRelease fs folder (Err e))) same opens) is

-- what was read isn't compared
refused-err : (files : List MemFile) (folder : List ℕ) (p : Project) (r : Release) (e : CheckErr) → ProjectOf files folder p → HoldsRelease files folder r → RefusesComparing p e → Checks files folder (refusal e)
refused-err files folder p r (checks.Project fault) read holds refused = absurd refused
refused-err files folder p r (checks.NoRelease name) read holds refused = absurd refused
refused-err files folder p r (checks.BadCatalogue fault) read holds refused = absurd refused
refused-err files folder p r (checks.BadRelease name why) read holds refused = absurd refused
refused-err files folder p r (checks.TooLarge which size) read holds refused = (refused.0, (p, read, refused.1, refused.2, r.catalogue, r.state, was_of r, holds.held, holds.intact))
refused-err files folder p r checks.DepotFault read holds refused = absurd refused
refused-err files folder p r checks.NoMemory read holds refused = tt

refused-as : (files : List MemFile) (folder : List ℕ) (p : Project) (r : Release) (e : CheckErr) (result : Result Compared CheckErr) → ProjectOf files folder p → HoldsRelease files folder r → RefusesComparing p e → IsErrAnd result (λ f. f ≡ e) → Compares files folder result
refused-as files folder p r e (Ok c) read holds refused is = absurd is
refused-as files folder p r e (Err f) read holds refused is = subst (λ (x : CheckErr). Checks files folder (refusal x)) (sym is) (refused-err files folder p r e read holds refused)

pub refused-told : (folder : List ℕ) (old : Option (List MemFile)) (p : Project) (r : Release) (e : CheckErr) (result : Result Compared CheckErr) → IfSome old (λ files. ProjectOf files folder p × HoldsRelease files folder r) → RefusesComparing p e → IsErrAnd result (λ f. f ≡ e)
    → IfSome old (λ files. Compares files folder result)
refused-told folder None p r e result reads refused is = tt
refused-told folder (Some files) p r e result reads refused is = refused-as files folder p r e result reads.0 reads.1 refused is

-- what isn't read isn't compared
unread-err : (files : List MemFile) (folder : List ℕ) (e : CheckErr) → ReadsBoth {T = Compared} (λ c. c.project) (λ c. c.release) files folder (Err e) → Checks files folder (refusal e)
unread-err files folder (checks.Project fault) reads = reads
unread-err files folder (checks.NoRelease name) reads = reads
unread-err files folder (checks.BadCatalogue fault) reads = reads
unread-err files folder (checks.BadRelease name why) reads = reads
unread-err files folder (checks.TooLarge which size) reads = absurd reads
unread-err files folder checks.DepotFault reads = tt
unread-err files folder checks.NoMemory reads = tt

-- a refusal is told as it is
same-refusal : (files : List MemFile) (folder : List ℕ) (e : CheckErr) (result : Result Compared CheckErr) → Checks files folder (refusal e) → IsErrAnd result (λ f. f ≡ e) → Compares files folder result
same-refusal files folder e (Ok c) told is = absurd is
same-refusal files folder e (Err f) told is = subst (λ (x : CheckErr). Checks files folder (refusal x)) (sym is) told

pub unread-told : (folder : List ℕ) (old : Option (List MemFile)) (e : CheckErr) (result : Result Compared CheckErr) → IfSome old (λ files. ReadsBoth {T = Compared} (λ c. c.project) (λ c. c.release) files folder (Err e)) → IsErrAnd result (λ f. f ≡ e)
    → IfSome old (λ files. Compares files folder result)
unread-told folder None e result reads is = tt
unread-told folder (Some files) e result reads is = same-refusal files folder e result (unread-err files folder e reads) is

moves-refusal : (files : List MemFile) (folder : List ℕ) (e : CheckErr) (result : Result (List Move) CheckErr) → Checks files folder (refusal e) → IsErrAnd result (λ f. f ≡ e) → Checks files folder result
moves-refusal files folder e (Ok moves) told is = absurd is
moves-refusal files folder e (Err f) told is = subst (λ (x : CheckErr). Checks files folder (refusal x)) (sym is) told

pub refusal-told : (folder : List ℕ) (old : Option (List MemFile)) (e : CheckErr) (result : Result (List Move) CheckErr) → IfSome old (λ files. Checks files folder (refusal e)) → IsErrAnd result (λ f. f ≡ e) → IfSome old (λ files. Checks files folder result)
refusal-told folder None e result told is = tt
refusal-told folder (Some files) e result told is = moves-refusal files folder e result told is

-- why a project isn't placed
plan-refused : (p : Project) (e : PlanErr) → Refuses p e → RefusesComparing p (of_plan e)
plan-refused p (plan.NameTooLong row length) long = (refl, row, long)
plan-refused p plan.NoMemory long = tt

pub plan-told : {T : Type 0} (p : Project) (e : PlanErr) (result : Result T CheckErr) → Refuses p e → IsErrAnd result (λ f. f ≡ of_plan e) → IfErr result (RefusesComparing p)
plan-told p e (Ok t) refused is = tt
plan-told p e (Err f) refused is = subst (RefusesComparing p) (sym is) (plan-refused p e refused)
