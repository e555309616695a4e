-- Variables: the first that is bad or repeats a name, from the first bad one and the first repeated name before it.
use Rattle.std.proofs.Common.{◌≡◌, ℕ, ◌+◌, true, cond, List, [], ◌∷◌, ◌++◌, length, get_or, take, map, Option, Some, None, refl, sym, ap, ◌∙◌, arith, length-append}
use Rattle.std.proofs.lemmas.Bool.{false≢true}
use Rattle.std.proofs.lemmas.List.{take_all, map-append}
use Rattle.std.proofs.lemmas.List.Elements.{filter_map-append}
use Rattle.std.specs.List.{filter_map, cons_option}
use Rattle.std.specs.Option.{option_or, is_none, unwrap_or}
use Rattle.toml.specs.Data.{Data, string}
use Rattle.addr_base.specs.declared.var.Var.{Var}
use Rattle.addr_project_rows.specs.Fields.{is_bad, first_bad}
use Rattle.addr_project_rows.specs.Firsts.{first_from, first_where, first_repeat, number_if, is_among}
use Rattle.addr_project_rows.specs.Readings.{RowsRead, VariablesRead}
use Rattle.addr_project_rows.specs.Variables.{variable_of, is_bad_variable, is_bad_among}
use Rattle.addr_project_rows.proofs.FirstLemmas.{IsFirst, first_from-front, first_where-found, first_where-is}
use Rattle.addr_project_rows.proofs.RowLemmas.{front-good}

abbrev pub named : List Data → List (List ℕ)
named ds = map (λ v. v.name) (filter_map variable_of ds)

named-more : (before : List Data) (d : Data) (v : Var) → variable_of d ≡ Some v → named (before ++ d ∷ []) ≡ named before ++ v.name ∷ []
named-more before d v is =
    ap (map (λ (w : Var). w.name)) (filter_map-append variable_of before (d ∷ []) ∙ ap (λ o. filter_map variable_of before ++ cons_option o []) is)
    ∙ map-append (λ (w : Var). w.name) (filter_map variable_of before) (v ∷ [])

abbrev pub bads : List Data → List Data → Option ℕ
bads before ds = first_from (number_if (λ b d. is_bad variable_of d)) before ds

abbrev pub firsts : List Data → List Data → Option ℕ
firsts before ds = first_from (number_if is_bad_variable) before ds

abbrev repeats : List (List ℕ) → List (List ℕ) → Option ℕ
repeats before names = first_from (number_if is_among) before names

step : (before : List Data) (d : Data) (ds : List Data) → length (named before) ≡ length before
    → (length (named (before ++ d ∷ [])) ≡ length (before ++ d ∷ []) → bads (before ++ d ∷ []) ds ≡ None → firsts (before ++ d ∷ []) ds ≡ repeats (named (before ++ d ∷ [])) (named ds))
    → (o : Option Var) → variable_of d ≡ o → bads before (d ∷ ds) ≡ None → firsts before (d ∷ ds) ≡ repeats (named before) (named (d ∷ ds))
unfolding first_from is_bad_variable
step before d ds long rest None is good =
    let e : Some (length before) ≡ None = sym (ap (λ o. option_or (cond (is_none o) (Some (length before)) None) (bads (before ++ d ∷ []) ds)) is) ∙ good in
    absurd (cc)
step before d ds long rest (Some v) is good =
    let good_after : bads (before ++ d ∷ []) ds ≡ None = sym (ap (λ o. option_or (cond (is_none o) (Some (length before)) None) (bads (before ++ d ∷ []) ds)) is) ∙ good in
    let more : named (before ++ d ∷ []) ≡ named before ++ v.name ∷ [] = named-more before d v is in
    let long_after : length (named (before ++ d ∷ [])) ≡ length (before ++ d ∷ []) = ap length more ∙ length-append (named before) (v.name ∷ []) ∙ ap (λ n. n + 1) long ∙ sym (length-append before (d ∷ [])) in
    ap (λ o. option_or (cond (is_bad_among (filter_map variable_of before) o) (Some (length before)) None) (firsts (before ++ d ∷ []) ds)) is
    ∙ ap (λ n. option_or (cond (is_among (named before) v.name) (Some n) None) (firsts (before ++ d ∷ []) ds)) (sym long)
    ∙ ap (λ r. option_or (cond (is_among (named before) v.name) (Some (length (named before))) None) r) (rest long_after good_after)
    ∙ ap (λ b. option_or (cond (is_among (named before) v.name) (Some (length (named before))) None) (repeats b (named ds))) more
    ∙ ap (λ o. repeats (named before) (map (λ (w : Var). w.name) (cons_option o (filter_map variable_of ds)))) (sym is)

-- where no row is bad, the first repeated name is the first bad variable
pub same_firsts : (before ds : List Data) → length (named before) ≡ length before → bads before ds ≡ None → firsts before ds ≡ repeats (named before) (named ds)
unfolding first_from
same_firsts before [] long good = refl
same_firsts before (d ∷ ds) long good = step before d ds long (same_firsts (before ++ d ∷ []) ds) (variable_of d) refl good

none_stands : {A : Type 0} (o : Option A) → is_none o ≡ true → o ≡ None
none_stands None is = refl
none_stands (Some x) is = absurd (false≢true is)

bad-alone : (before : List Data) (d : Data) → variable_of d ≡ None → is_bad_variable before d ≡ true
unfolding is_bad_variable
bad-alone before d is = ap (is_bad_among (filter_map variable_of before)) is

-- the first row that stands for nothing is a bad variable
module _ (ds : List Data) (n : ℕ) (is : first_bad variable_of ds ≡ Some n) where
  first : IsFirst (λ before d. is_bad variable_of d) [] ds n
  first = first_where-is (λ before d. is_bad variable_of d) ds n is

  first-bad : first_where is_bad_variable (take n ds) ≡ None → first_where is_bad_variable ds ≡ Some n
  first-bad none = first_where-found is_bad_variable ds n (string []) first.small none (bad-alone (take n ds) (get_or ds n (string [])) (none_stands (variable_of (get_or ds n (string []))) (first.passes (string []))))

  some-bad : (front : Option ℕ) → first_where is_bad_variable (take n ds) ≡ front → first_where is_bad_variable ds ≡ None → ⊥
  some-bad None before none = let found = first-bad before in cc
  some-bad (Some m) before none = let found = first_from-front (number_if is_bad_variable) ds n m before in cc

pub each-stands : (ds : List Data) → first_where is_bad_variable ds ≡ None → (bad : Option ℕ) → first_bad variable_of ds ≡ bad → first_bad variable_of ds ≡ None
each-stands ds none None is = is
each-stands ds none (Some n) is = absurd (some-bad ds n is (first_where is_bad_variable (take n ds)) refl none)

-- what is read is all variables, where none is bad
pub all-variables : (ds : List Data) (found : List Var) (bad : Option ℕ) → VariablesRead ds found bad → bad ≡ None → found ≡ filter_map variable_of ds
all-variables ds found bad answer none =
    answer.found_is
    ∙ ap (λ o. filter_map variable_of (take (unwrap_or o (length ds)) ds)) (each-stands ds (sym answer.bad_is ∙ none) (first_bad variable_of ds) refl)
    ∙ ap (filter_map variable_of) (take_all (length ds) ds (omega arith))

module _ (ds : List Data) (found : List Var) (bad : Option ℕ) (answer : RowsRead variable_of ds found bad) where
  abbrev front : List Data
  front = take (unwrap_or (first_bad variable_of ds) (length ds)) ds

  front_first : first_where is_bad_variable front ≡ first_repeat (map (λ v. v.name) found)
  front_first = same_firsts [] front refl (front-good variable_of ds (first_bad variable_of ds) refl) ∙ ap (λ f. first_repeat (map (λ (v : Var). v.name) f)) (sym answer.found_is)

  pub repeated : (r : ℕ) → first_repeat (map (λ v. v.name) found) ≡ Some r → VariablesRead ds found (Some r)
  repeated r is = record {
    bad_is = sym (first_from-front (number_if is_bad_variable) ds (unwrap_or (first_bad variable_of ds) (length ds)) r (front_first ∙ is));
    found_is = answer.found_is;
  }

  by_bad : first_repeat (map (λ v. v.name) found) ≡ None → (b : Option ℕ) → first_bad variable_of ds ≡ b → first_bad variable_of ds ≡ first_where is_bad_variable ds
  by_bad none None is =
      let whole : front ≡ ds = ap (λ o. take (unwrap_or o (length ds)) ds) is ∙ take_all (length ds) ds (omega arith) in
      is ∙ sym (ap (first_where is_bad_variable) (sym whole) ∙ front_first ∙ none)
  by_bad none (Some n) is =
      let before : first_where is_bad_variable (take n ds) ≡ None = ap (λ o. first_where is_bad_variable (take (unwrap_or o (length ds)) ds)) (sym is) ∙ front_first ∙ none in
      is ∙ sym (first-bad ds n is before)

  pub unrepeated : first_repeat (map (λ v. v.name) found) ≡ None → VariablesRead ds found bad
  unrepeated none = record { bad_is = answer.bad_is ∙ by_bad none (first_bad variable_of ds) refl; found_is = answer.found_is }
