-- From the bundles one by one to those of a release; and what stops on the way.
use Rattle.std.proofs.Common.{◌≡◌, ◌<◌, ◌≤◌, ◌+◌, ◌++◌, ◌^◌, ℕ, List, [], ◌∷◌, length, get_or, take, Some, inl, inr, ap, subst, sym, refl, ◌∙◌, arith}
use Rattle.std.proofs.lemmas.Option.{slice_get-get_or}
use Rattle.std.specs.List.{AllZip}
use Rattle.std.specs.Prelude.{IfErr, IsErrAnd, Result, Ok, Err}
use Rattle.addr_base.specs.declared.files.MemFile.{MemFile}
use Rattle.addr_cab.specs.Lookup.{Held}
use Rattle.addr_catalog.specs.declared.catalogue.Catalogue.{Catalogue}
use Rattle.addr_held.specs.Opening.{HoldsRelease, IsIntactAs, OpensRelease, opened_all}
use Rattle.addr_held.specs.declared.error.HeldErr.{HeldErr}
use Rattle.addr_held.specs.declared.error.HeldErr.TheVariants.{NoRelease, BadCatalogue, BadRelease, DepotFault, NoMemory}
use Rattle.addr_held.specs.declared.release.Release.{Release}
use Rattle.addr_held.specs.within.Steps.{IsBundleRefused, IsRefused, Names, ReadsCatalogue, ReadsState}
use Rattle.addr_locate.specs.declared.rows.BundleRow.{BundleRow}
use Rattle.addr_resolve.specs.Items.{AreNamed, ShowsCabs}
use Rattle.addr_resolve.specs.Resolving.{HasCatalogue}
use Rattle.addr_state.specs.declared.model.State.{State}
use Rattle.addr_state.specs.declared.model.StateBundle.{StateBundle}
use Rattle.addr_update.specs.After.{IsRowOfOld}
use Rattle.addr_update.specs.Intact.{IsFileFault, IsIntact}
use Rattle.addr_update.specs.declared.model.NotIntact.{NotIntact}

-- ---- the bundles of a release

pub opened-from : (files : List MemFile) (folder : List ℕ) (olds : List StateBundle) (helds : List Held) → AllZip (IsIntactAs files folder) olds helds → AllZip (IsIntact files folder) olds (opened_all olds helds)
opened-from files folder [] [] zipped = tt
opened-from files folder [] (h ∷ hs) zipped = absurd zipped
opened-from files folder (o ∷ os) [] zipped = absurd zipped
opened-from files folder (o ∷ os) (h ∷ hs) zipped = (zipped.0, opened-from files folder os hs zipped.1)

-- what a graph of a release's bundles asks for
pub shows-from : (olds : List StateBundle) (helds : List Held) → length helds ≡ length olds → ShowsCabs (opened_all olds helds) helds
shows-from [] [] many = tt
shows-from [] (h ∷ hs) many = absurd (omega (arith, many))
shows-from (o ∷ os) [] many = absurd (omega (arith, many))
shows-from (o ∷ os) (h ∷ hs) many = (refl, shows-from os hs (omega (arith, many)))

pub named-rows : (olds : List StateBundle) (helds : List Held) (rows : List BundleRow) → length helds ≡ length olds → AllZip IsRowOfOld olds rows → AreNamed (opened_all olds helds) rows
named-rows [] [] [] many are = tt
named-rows [] [] (r ∷ rs) many are = absurd are
named-rows [] (h ∷ hs) rows many are = absurd (omega (arith, many))
named-rows (o ∷ os) [] rows many are = absurd (omega (arith, many))
named-rows (o ∷ os) (h ∷ hs) [] many are = absurd are
named-rows (o ∷ os) (h ∷ hs) (r ∷ rs) many are = (sym are.0.name, named-rows os hs rs (omega (arith, many)) are.1)

-- ---- what stops

pub refused-as : {T E : Type 0} (P : E → Type 0) (r : Result T E) (e : E) → IsErrAnd r (λ x. x ≡ e) → P e → IfErr r P
refused-as P (Ok done) e is holds = absurd is
refused-as P (Err x) e is holds = subst P (sym is) holds

pub bundle-refused : (files : List MemFile) (folder : List ℕ) (old : StateBundle) (why : NotIntact) (e : HeldErr) → Names old.file why e → IsFileFault files folder old why → IsBundleRefused files folder old e
bundle-refused files folder old why (NoRelease name) names fault = absurd names
bundle-refused files folder old why (BadCatalogue other) names fault = absurd names
bundle-refused files folder old why (BadRelease name other) names fault = (names.0, subst (IsFileFault files folder old) (sym names.1) fault)
bundle-refused files folder old why DepotFault names fault = absurd names
bundle-refused files folder old why NoMemory names fault = tt

-- a bundle that isn't opened, behind those that were
pub first-refused : (files : List MemFile) (folder : List ℕ) (s : State) (helds : List Held) (k : ℕ) (old : StateBundle) (e : HeldErr)
    → k < length s.bundles → old ≡ get_or s.bundles k old → AllZip (IsIntactAs files folder) (take k s.bundles) helds → IsBundleRefused files folder old e → IsRefused files folder s e
first-refused files folder s helds k old (NoRelease name) within read sofar bad = absurd bad
first-refused files folder s helds k old (BadCatalogue fault) within read sofar bad = absurd bad
first-refused files folder s helds k old (BadRelease name why) within read sofar bad = record {
  number = k;
  old = old;
  at = slice_get-get_or s.bundles k old within ∙ ap Some (sym read);
  before = opened_all (take k s.bundles) helds;
  intact = opened-from files folder (take k s.bundles) helds sofar;
  named = bad.0;
  fault = bad.1;
}
first-refused files folder s helds k old DepotFault within read sofar bad = tt
first-refused files folder s helds k old NoMemory within read sofar bad = tt

pub length-snoc : {X : Type 0} (xs : List X) (x : X) → length (xs ++ x ∷ []) ≡ length xs + 1
length-snoc [] x = refl
length-snoc (y ∷ ys) x = let rest = length-snoc ys x in omega (arith, rest)

-- ---- the steps together

pub catalogue-stops : (files : List MemFile) (folder : List ℕ) (e : HeldErr) → ReadsCatalogue files folder (Err e) → OpensRelease files folder (Err e)
catalogue-stops files folder (NoRelease name) is = inl is
catalogue-stops files folder (BadCatalogue fault) is = is
catalogue-stops files folder (BadRelease name why) is = absurd is
catalogue-stops files folder DepotFault is = tt
catalogue-stops files folder NoMemory is = tt

pub state-stops : (files : List MemFile) (folder : List ℕ) (c : Catalogue) (e : HeldErr) → HasCatalogue files folder c → ReadsState files folder c.state (Err e) → OpensRelease files folder (Err e)
state-stops files folder c (NoRelease name) has is = inr (c, has, is.0, is.1)
state-stops files folder c (BadCatalogue fault) has is = absurd is
state-stops files folder c (BadRelease name why) has (named, bytes, there, fault) = (c, has, (bytes, there, inl (named, fault)))
state-stops files folder c DepotFault has is = tt
state-stops files folder c NoMemory has is = tt

pub bundles-stop : (files : List MemFile) (folder : List ℕ) (c : Catalogue) (s : State) (e : HeldErr) → HasCatalogue files folder c → ReadsState files folder c.state (Ok s) → IsRefused files folder s e → OpensRelease files folder (Err e)
bundles-stop files folder c s (NoRelease name) has reads is = absurd is
bundles-stop files folder c s (BadCatalogue fault) has reads is = absurd is
bundles-stop files folder c s (BadRelease name why) has (bytes, there, read, digest) is = (c, has, (bytes, there, inr (s, read, digest, is)))
bundles-stop files folder c s DepotFault has reads is = tt
bundles-stop files folder c s NoMemory has reads is = tt

pub release-opens : (files : List MemFile) (folder : List ℕ) (r : Release) → HasCatalogue files folder r.catalogue → ReadsState files folder r.catalogue.state (Ok r.state) → AllZip (IsIntactAs files folder) r.state.bundles r.cabs
    → HoldsRelease files folder r
release-opens files folder r (bytes, there, read) (kept, kept_there, kept_read, digest) opened = record {
  held = record { bytes = bytes; there = there; read = read; kept = kept; kept_there = kept_there; kept_read = kept_read; digest = digest };
  intact = opened-from files folder r.state.bundles r.cabs opened;
}

pub few-from : (n m : ℕ) → n ≡ m → m ≤ 65536 → n < 2 ^ 32
few-from n m same small = omega (arith, same, small)
