-- Each home of a reference is among the outside bundles of the references, under the number that the table has for it.
use Rattle.std.proofs.Common.{◌≡◌, ℕ, ◌+◌, ◌-◌, ◌^◌, ◌<◌, bytes_eq, true, false, eqb, List, [], ◌∷◌, length, get_or, All, Some, refl, ap, ◌∙◌, arith}
use Rattle.std.specs.List.{AllByRecursion, flat_map, list_any, position_or_len}
use Rattle.std.proofs.lemmas.Bool.{ne_eqb, or_left, or_right}
use Rattle.std.proofs.lemmas.List.Elements.{All-from_recursion, All-weaker}
use Rattle.std.proofs.lemmas.List.Folds.{list_any-append}
use Rattle.std.proofs.lemmas.List.Sums.{passes_at_first}
use Rattle.std.proofs.lemmas.Option.{slice_get-get_or}
use Rattle.std.proofs.lemmas.Slice.Eq.{bytes_eq-Decides}
use Rattle.addr_base.specs.declared.ids.Digest.{Digest}
use Rattle.addr_base.specs.declared.images.Home.{Home}
use Rattle.addr_base.specs.declared.images.Home.TheVariants.{Own, Other}
use Rattle.addr_base.specs.declared.images.RefTo.{RefTo}
use Rattle.addr_cab.specs.Faults.{home_of}
use Rattle.addr_cab.specs.Outside.{outside_of}
use Rattle.addr_cab.specs.Spelling.{is_home, leads_to, home_number}
use Rattle.addr_cab.proofs.OutsideLaws.{has_name, are_outside}
use Rattle.addr_cab.proofs.Places.{first_inside}

-- a home that is the own bundle or one of the outside bundles
abbrev pub HomeIn : List Digest → Home → Type 0
HomeIn outside Own = Unit {0}
HomeIn outside (Other name) = list_any (has_name name.0) outside ≡ true

abbrev pub HomesIn : List Digest → List RefTo → Type 0
HomesIn outside refs = AllByRecursion (λ r. HomeIn outside r.home) refs

pub number_fits : (outside : List Digest) (h : Home) → HomeIn outside h → length outside < 2 ^ 32 → home_number outside h < 2 ^ 32
number_fits outside Own among few = omega arith
number_fits outside (Other name) among few = let lt = first_inside (has_name name.0) outside among in omega (arith, lt, few)

pub same_name : (a b : Digest) → bytes_eq a.0 b.0 ≡ true → a ≡ b
same_name a b e = ap (λ (bytes : List ℕ). let d : Digest = record { 0 = bytes } in d) ((bytes_eq-Decides a.0 b.0).0 e)

pub number_home : (outside : List Digest) (h : Home) → HomeIn outside h → home_of outside (home_number outside h) ≡ Some h
number_home outside Own among = refl
number_home outside (Other name) among =
    let p = position_or_len (has_name name.0) outside in
    let lt : p < length outside = first_inside (has_name name.0) outside among in
    let here : get_or outside p name ≡ name = same_name (get_or outside p name) name (passes_at_first (has_name name.0) outside name lt) in
    let more : eqb (p + 1) 0 ≡ false = ne_eqb (p + 1) 0 (λ e. absurd (omega (arith, e))) in
    let back : p + 1 - 1 ≡ p = omega arith in
    rw (more, back, slice_get-get_or outside p name lt, here) refl

-- ---- of all references

homes_in : (outside : List Digest) (refs : List RefTo) → ((name : Digest) → leads_to name refs ≡ true → list_any (has_name name.0) outside ≡ true) → HomesIn outside refs
unfolding leads_to
homes_in outside [] among = tt
homes_in outside (r ∷ rs) among = (by r.home (λ name e. among name (or_left _ _ e)), homes_in outside rs (λ name e. among name (or_right _ _ e)))
  where
    by : (h : Home) → ((name : Digest) → is_home name h ≡ true → list_any (has_name name.0) outside ≡ true) → HomeIn outside h
    by Own one = tt
    by (Other name) one = one name ((bytes_eq-Decides name.0 name.0).1 refl)

pub all_in : {O : Type 0} (refs : O → List RefTo) (outside : List Digest) (os : List O) → ((name : Digest) → leads_to name (flat_map refs os) ≡ true → list_any (has_name name.0) outside ≡ true) → AllByRecursion (λ o. HomesIn outside (refs o)) os
unfolding leads_to
all_in refs outside [] among = tt
all_in refs outside (o ∷ os) among = (
  homes_in outside (refs o) (λ name e. among name (list_any-append (λ r. is_home name r.home) (refs o) (flat_map refs os) ∙ or_left _ _ e)),
  all_in refs outside os (λ name e. among name (list_any-append (λ r. is_home name r.home) (refs o) (flat_map refs os) ∙ or_right _ _ e)),
)

pub own_homes : {O : Type 0} (refs : O → List RefTo) (os : List O) → AllByRecursion (λ o. HomesIn (outside_of (flat_map refs os)) (refs o)) os
own_homes refs os = all_in refs (outside_of (flat_map refs os)) os (λ name e. (are_outside (flat_map refs os)).named name ∙ e)

pub numbers : {O : Type 0} (refs : O → List RefTo) (outside : List Digest) (os : List O) → length outside < 2 ^ 32 → AllByRecursion (λ o. HomesIn outside (refs o)) os → All (λ o. All (λ r. home_number outside r.home < 2 ^ 32) (refs o)) os
numbers refs outside os few among =
    All-weaker (λ o. HomesIn outside (refs o)) (λ o. All (λ r. home_number outside r.home < 2 ^ 32) (refs o))
    (λ o homes. All-weaker (λ r. HomeIn outside r.home) (λ r. home_number outside r.home < 2 ^ 32) (λ r one. number_fits outside r.home one few) (refs o) (All-from_recursion (λ r. HomeIn outside r.home) (refs o) homes))
    os (All-from_recursion (λ o. HomesIn outside (refs o)) os among)
