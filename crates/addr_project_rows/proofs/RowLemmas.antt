-- Rows in a loop: what the rows stand for up to a place, as long as none is bad.
use Rattle.std.proofs.Common.{◌≡◌, ℕ, ◌+◌, ◌<◌, List, [], ◌∷◌, ◌++◌, length, get_or, take, map, Option, Some, None, cond, sym, ap, ◌∙◌, arith}
use Rattle.std.proofs.lemmas.List.{take_more, take_all, get_or-map, length-map}
use Rattle.std.proofs.lemmas.List.Elements.{filter_map-append}
use Rattle.std.specs.List.{filter_map, cons_option}
use Rattle.std.specs.Option.{is_none, unwrap_or}
use Rattle.toml.specs.Data.{Data}
use Rattle.toml.specs.View.{view}
use Rattle.toml.specs.declared.value.Value.{Value}
use Rattle.addr_project_rows.specs.Fields.{first_bad, is_bad, all_of}
use Rattle.addr_project_rows.specs.Readings.{RowsRead}
use Rattle.addr_project_rows.proofs.FirstLemmas.{first_where-pass, first_where-found, first_where-is}

module _ {A : Type 0} (read : Data → Option A) (ds : List Data) (i : ℕ) (d : Data) (small : i < length ds) (is : get_or ds i d ≡ d) where
  pub rows-more : (a : A) → read d ≡ Some a → filter_map read (take (i + 1) ds) ≡ filter_map read (take i ds) ++ a ∷ []
  rows-more a good =
      ap (filter_map read) (take_more ds i d small ∙ ap (λ x. take i ds ++ x ∷ []) is)
      ∙ filter_map-append read (take i ds) (d ∷ [])
      ∙ ap (λ o. filter_map read (take i ds) ++ cons_option o []) good

  pub rows-pass : (a : A) → read d ≡ Some a → first_bad read (take i ds) ≡ None → first_bad read (take (i + 1) ds) ≡ None
  rows-pass a good none = first_where-pass (λ before x. is_bad read x) ds i d small none (ap (is_bad read) is ∙ ap is_none good)

  pub rows-bad : read d ≡ None → first_bad read (take i ds) ≡ None → first_bad read ds ≡ Some i
  rows-bad bad none = first_where-found (λ before x. is_bad read x) ds i d small none (ap (is_bad read) is ∙ ap is_none bad)

-- the data of a value at its place
pub view-at : (vs : List Value) (i : ℕ) (v : Value) → i < length vs → v ≡ get_or vs i v → get_or (map view vs) i (view v) ≡ view v
view-at vs i v small is = get_or-map view vs i v (view v) small ∙ ap view (sym is)

pub views-small : (vs : List Value) (i : ℕ) → i < length vs → i < length (map view vs)
views-small vs i small = rw (length-map vs view) small

-- no row before the first bad one is bad
pub front-good : {A : Type 0} (read : Data → Option A) (ds : List Data) (bad : Option ℕ) → first_bad read ds ≡ bad → first_bad read (take (unwrap_or bad (length ds)) ds) ≡ None
front-good read ds None is = ap (first_bad read) (take_all (length ds) ds (omega arith)) ∙ is
front-good read ds (Some n) is = (first_where-is (λ before d. is_bad read d) ds n is).none

-- what a reader's answer says of all rows
module _ {A : Type 0} (read : Data → Option A) (ds : List Data) (found : List A) (bad : Option ℕ) (answer : RowsRead read ds found bad) where
  pub all-found : bad ≡ None → found ≡ filter_map read ds
  all-found none =
      answer.found_is
      ∙ ap (λ n. filter_map read (take (unwrap_or n (length ds)) ds)) (sym answer.bad_is ∙ none)
      ∙ ap (filter_map read) (take_all (length ds) ds (omega arith))

  pub all-read : bad ≡ None → all_of read ds ≡ Some found
  unfolding all_of
  all-read none = ap (λ o. cond (is_none o) (Some (filter_map read ds)) None) (sym answer.bad_is ∙ none) ∙ ap Some (sym (all-found none))

  pub none-read : (n : ℕ) → bad ≡ Some n → all_of read ds ≡ None
  unfolding all_of
  none-read n some = ap (λ o. cond (is_none o) (Some (filter_map read ds)) None) (sym answer.bad_is ∙ some)
