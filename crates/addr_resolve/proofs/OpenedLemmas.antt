-- The first bundle that isn't opened, behind those that were.
use Rattle.std.proofs.Common.{◌≡◌, ◌<◌, ◌+◌, ◌++◌, ℕ, List, [], ◌∷◌, length, get_or, take, Some, ap, subst, sym, refl, ◌∙◌, arith}
use Rattle.std.proofs.lemmas.Option.{slice_get-get_or}
use Rattle.std.specs.List.{AllZip}
use Rattle.std.specs.Prelude.{IfErr, IsErrAnd, Result, Ok, Err}
use Rattle.addr_base.specs.declared.files.MemFile.{MemFile}
use Rattle.addr_cab.specs.Lookup.{Held}
use Rattle.addr_locate.specs.declared.rows.BundleRow.{BundleRow}
use Rattle.addr_resolve.specs.Opening.{IsOpenedAs, IsRefused, IsRowRefused, opened_all}
use Rattle.addr_resolve.specs.declared.error.OpenErr.{OpenErr}
use Rattle.addr_resolve.specs.declared.error.OpenErr.TheVariants.{Bad, DepotFault, NoMemory}
use Rattle.addr_resolve.proofs.GraphLemmas.{opened-from}

pub refused-as : {T E : Type 0} (P : E → Type 0) (r : Result T E) (e : E) → IsErrAnd r (λ x. x ≡ e) → P e → IfErr r P
refused-as P (Ok done) e is holds = absurd is
refused-as P (Err x) e is holds = subst P (sym is) holds

pub first-refused : (files : List MemFile) (folder : List ℕ) (rows : List BundleRow) (helds : List Held) (k : ℕ) (row : BundleRow) (e : OpenErr)
    → k < length rows → row ≡ get_or rows k row → AllZip (IsOpenedAs files folder) (take k rows) helds → IsRowRefused files folder row e → IsRefused files folder rows e
first-refused files folder rows helds k row (Bad key why) within read sofar bad = record {
  number = k;
  row = row;
  at = slice_get-get_or rows k row within ∙ ap Some (sym read);
  before = opened_all (take k rows) helds;
  opened = opened-from files folder (take k rows) helds sofar;
  named = bad.0;
  bad = bad.1;
}
first-refused files folder rows helds k row DepotFault within read sofar bad = tt
first-refused files folder rows helds k row NoMemory within read sofar bad = tt

pub length-snoc : {X : Type 0} (xs : List X) (x : X) → length (xs ++ x ∷ []) ≡ length xs + 1
length-snoc [] x = refl
length-snoc (y ∷ ys) x = let rest = length-snoc ys x in omega (arith, rest)
