-- Rows that keep the members of some names, row by row, and arrays of rows.
use Rattle.std.proofs.Common.{◌≡◌, ℕ, ◌+◌, ◌<◌, List, [], ◌∷◌, ◌++◌, length, get_or, map, take, Some, None, IfSome, Vec, Global, refl, sym, ap, subst, ◌∙◌, arith}
use Rattle.std.proofs.lemmas.List.{take_more}
use Rattle.std.specs.List.{AllByRecursion, AllZip}
use Rattle.std.specs.Option.{option_and_then}
use Rattle.toml.specs.Data.{Data, string, array, table, Members, as_table, get_member, has_valid_dates, items_have_valid_dates}
use Rattle.toml.specs.View.{items_of, items_view, view}
use Rattle.toml.specs.declared.value.Value.{Value, Array}
use Rattle.toml.proofs.Views.{view-Array}
use Rattle.addr_project.specs.Rows.{rows}
use Rattle.addr_isolate.specs.Document.{Keeps, KeepsRow, rows_member}
use Rattle.addr_isolate.specs.Shallow.{AreShallow, AreShallowAt, IsSet, IsSetIf, IsShallow, IsShallowRow, SetsRows, SetsTable}
use Rattle.addr_isolate.proofs.SetLemmas.{both}

pub row-shallow : (names : List (List ℕ)) (d : Data) (old new : Members) → as_table d ≡ Some old → ((n : ℕ) → AreShallowAt n names old → AreShallow n new) → (n : ℕ) → IsShallowRow n names d → IsShallow (n + 1) (table new)
row-shallow names (table ms) old new is shallow n all =
    let same : ms ≡ old = cc in
    let parts = shallow n (subst (AreShallowAt n names) same all) in
    let deep = parts.deep in
    record { deep = omega (arith, deep); dates = parts.dates }
row-shallow names (string s) old new is shallow n all = absurd (cc)
row-shallow names d old new is shallow n all = absurd (cc)

pub all-parts : {X : Type 0} (P : X → Type 0) (xs : List X) (x : X) → AllByRecursion P (xs ++ x ∷ []) → AllByRecursion P xs × P x
all-parts P [] x all = (tt, all.0)
all-parts P (y ∷ ys) x all = let rest = all-parts P ys x all.1 in ((all.0, rest.0), rest.1)

pub all-join : {X : Type 0} (P : X → Type 0) (xs ys : List X) → AllByRecursion P xs → AllByRecursion P ys → AllByRecursion P (xs ++ ys)
all-join P [] ys first rest = rest
all-join P (x ∷ xs) ys first rest = (first.0, all-join P xs ys first.1 rest)

-- one row more is kept
pub shallow-rows : (names : List (List ℕ)) (ds : List Data) (i : ℕ) (d : Data) (kept : List Data) (e : Data) → i < length ds → get_or ds i d ≡ d
    → ((n : ℕ) → AllByRecursion (IsShallowRow n names) (take i ds) → AllByRecursion (IsShallow (n + 1)) kept)
    → ((n : ℕ) → IsShallowRow n names d → IsShallow (n + 1) e)
    → (n : ℕ) → AllByRecursion (IsShallowRow n names) (take (i + 1) ds) → AllByRecursion (IsShallow (n + 1)) (kept ++ e ∷ [])
shallow-rows names ds i d kept e small at before last n all =
    let more : take (i + 1) ds ≡ take i ds ++ d ∷ [] = take_more ds i d small ∙ ap (λ x. take i ds ++ x ∷ []) at in
    let parts = all-parts (IsShallowRow n names) (take i ds) d (subst (AllByRecursion (IsShallowRow n names)) more all) in
    all-join (IsShallow (n + 1)) kept (e ∷ []) (before n parts.0) (last n parts.1, tt)

-- an array is one level deeper than its rows
pub rows-shallow : (n : ℕ) (rows : List Data) → AllByRecursion (IsShallow n) rows → IsShallow (n + 1) (array (items_of rows))
rows-shallow n [] all = record { deep = omega arith; dates = refl }
rows-shallow n (d ∷ ds) all =
    let rest = rows-shallow n ds all.1 in
    let first = all.0.deep in
    let deep = rest.deep in
    record { deep = omega (arith, first, deep); dates = both (has_valid_dates d) (items_have_valid_dates (items_of ds)) all.0.dates rest.dates }

pub member-shallow : (n : ℕ) (rows : List Data) → AllByRecursion (IsShallow n) rows → IfSome (rows_member rows) (IsShallow (n + 1))
member-shallow n [] all = tt
member-shallow n (d ∷ ds) all = rows-shallow n (d ∷ ds) all

-- what an array of rows is put as
pub member-view : (v : Vec Value Global) → 0 < length v.items → rows_member (map view v.items) ≡ Some (view (Array v))
member-view v some = by_items v.items refl some
  where
    by_items : (vs : List Value) → v.items ≡ vs → 0 < length vs → rows_member (map view vs) ≡ Some (view (Array v))
    by_items [] is long = absurd (omega arith)
    by_items (x ∷ xs) is long = sym (ap Some (view-Array v ∙ ap (λ vs. array (items_view vs)) is))

pub table-none : (names : List (List ℕ)) (key : List ℕ) (old before : Members) → option_and_then as_table (get_member key old) ≡ None → SetsTable names key old before before
table-none names key old before none = record { value = None; keeps = rw none refl; set = refl; shallow = λ n all. tt }

pub table-some : (names : List (List ℕ)) (key : List ℕ) (old before after ms kept : Members) (d : Data) → option_and_then as_table (get_member key old) ≡ Some ms → d ≡ table kept → Keeps names ms kept
    → ((n : ℕ) → AreShallowAt n names ms → AreShallow n kept) → IsSet key d before after → SetsTable names key old before after
table-some names key old before after ms kept d some is keeps shallow set = record {
  value = Some d;
  keeps = rw some (kept, ap Some is, keeps);
  set = set;
  shallow = λ n all. (
      let parts = shallow n (subst (λ o. IfSome o (AreShallowAt n names)) some all) in
      let deep = parts.deep in
      subst (IsShallow (n + 1)) (sym is) (record { deep = omega (arith, deep); dates = parts.dates }));
}

pub rows-set : (names : List (List ℕ)) (key : List ℕ) (old before after : Members) (kept added : List Data) → AllZip (KeepsRow names) (rows key old) kept
    → ((n : ℕ) → AllByRecursion (IsShallowRow n names) (rows key old) → AllByRecursion (IsShallow (n + 1)) kept) → IsSetIf key (rows_member (kept ++ added)) before after → SetsRows names key old added before after
rows-set names key old before after kept added keeps shallow set = record {
  kept = kept;
  keeps = keeps;
  set = set;
  shallow = λ n all more. (
      let deep = member-shallow (n + 1) (kept ++ added) (all-join (IsShallow (n + 1)) kept added (shallow n all) more) in
      let same : n + 1 + 1 ≡ n + 2 = omega arith in
      subst (λ m. IfSome (rows_member (kept ++ added)) (IsShallow m)) same deep);
}
