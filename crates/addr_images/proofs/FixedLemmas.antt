-- The names of fixed groups are put in order one after another, and are then an ascending list of them.
use Rattle.std.proofs.Common.{◌≡◌, ◌<◌, ◌+◌, ℕ, ◌⊎◌, inl, inr, Bool, true, false, cond, if◌then◌else◌, List, [], ◌∷◌, length, get_or, map, take, refl, sym, ap, subst, ◌∙◌}
use Rattle.std.proofs.lemmas.Bool.{false≢true}
use Rattle.std.proofs.lemmas.Cmp.{nat_list_cmp_total}
use Rattle.std.proofs.lemmas.List.Sums.{fold_more}
use Rattle.std.proofs.lemmas.Map.Lookups.{exact_bytes}
use Rattle.std.specs.BTreeSet.{insert_key}
use Rattle.std.specs.Cmp.Lexicographic.{slice_cmp}
use Rattle.std.specs.List.{Contains, filter, fold}
use Rattle.std.specs.Ordering.{match_ordering, nat_cmp}
use Rattle.addr_project.specs.declared.model.Group.{Group}
use Rattle.addr_project.specs.Model.{Project}
use Rattle.addr_project.proofs.WalkLemmas.{put-keeps, put-only, put-there}
use Rattle.addr_project_rows.specs.Fields.{ascending, with_text}
use Rattle.addr_project_rows.proofs.LabelLemmas.{ascending-sorted}
use Rattle.addr_release.specs.Built.{IsFixedName}
use Rattle.addr_walks.specs.Walks.{IsListOf}
use Rattle.addr_walks.proofs.Lists.{Contains-here, Contains-later, Contains-none, Contains-cases, Contains-map, map-Contains, Contains-filter, filter-Contains}
use Rattle.addr_images.specs.within.Fixed.{fixed_names, with_group}

pub fixed-none : [] ≡ fixed_names []
unfolding fixed_names
fixed-none = refl

pub fixed-more : (groups : List Group) (i : ℕ) (d : Group) (old : List (List ℕ)) → i < length groups → old ≡ fixed_names (take i groups) → with_group old (get_or groups i d) ≡ fixed_names (take (i + 1) groups)
unfolding fixed_names
fixed-more groups i d old within is = ap (λ names. with_group names (get_or groups i d)) is ∙ sym (fold_more with_group [] groups i d within)

pub fixed-puts : (names : List (List ℕ)) (g : Group) → g.fixed ≡ true → with_text g.name names ≡ with_group names g
fixed-puts names g passes = by_test g.fixed passes
  where
    by_test : (t : Bool) → t ≡ true → with_text g.name names ≡ (if t then with_text g.name names else names)
    by_test true is = refl
    by_test false is = absurd (false≢true is)

abbrev is_fixed : Group → Bool
is_fixed g = g.fixed

abbrev name : Group → List ℕ
name g = g.name

fixed-is : (groups : List Group) → fixed_names groups ≡ ascending (map name (filter is_fixed groups))
unfolding fixed_names
fixed-is groups = along groups []
  where
    along : (gs : List Group) (names : List (List ℕ)) → fold with_group names gs ≡ fold (λ sorted text. with_text text sorted) names (map name (filter is_fixed gs))
    along [] names = refl
    along (g ∷ gs) names = by_test g.fixed (along gs (with_text g.name names)) (along gs names)
      where
        by_test : (t : Bool) → fold with_group (with_text g.name names) gs ≡ fold (λ sorted text. with_text text sorted) (with_text g.name names) (map name (filter is_fixed gs))
            → fold with_group names gs ≡ fold (λ sorted text. with_text text sorted) names (map name (filter is_fixed gs))
            → fold with_group (if t then with_text g.name names else names) gs ≡ fold (λ sorted text. with_text text sorted) names (map name (cond t (g ∷ filter is_fixed gs) (filter is_fixed gs)))
        by_test true first second = first
        by_test false first second = second

-- ---- what stands among texts in order

text-put : (t : List ℕ) (ts : List (List ℕ)) → with_text t ts ≡ insert_key (slice_cmp nat_cmp) ts t
text-put t [] = refl
text-put t (x ∷ xs) = ap (λ (rest : List (List ℕ)). match_ordering (slice_cmp nat_cmp t x) (t ∷ x ∷ xs) (x ∷ xs) (x ∷ rest)) (text-put t xs)

in-order : (texts sorted : List (List ℕ)) (t : List ℕ) → Contains sorted t ⊎ Contains texts t → Contains (fold (λ found text. with_text text found) sorted texts) t
in-order [] sorted t (inl here) = here
in-order [] sorted t (inr here) = absurd (Contains-none t here)
in-order (x ∷ xs) sorted t there = in-order xs (with_text x sorted) t (next there)
  where
    kept : Contains sorted t → Contains (with_text x sorted) t
    kept here = subst (λ ts. Contains ts t) (sym (text-put x sorted)) (put-keeps (slice_cmp nat_cmp) nat_list_cmp_total x sorted t here)

    next : Contains sorted t ⊎ Contains (x ∷ xs) t → Contains (with_text x sorted) t ⊎ Contains xs t
    next (inl here) = inl (kept here)
    next (inr here) = by_case (Contains-cases x xs t here)
      where
        by_case : (x ≡ t) ⊎ Contains xs t → Contains (with_text x sorted) t ⊎ Contains xs t
        by_case (inl same) = inl (subst (Contains (with_text x sorted)) same (subst (λ ts. Contains ts x) (sym (text-put x sorted)) (put-there (slice_cmp nat_cmp) nat_list_cmp_total x sorted (λ y among tied. exact_bytes x y tied))))
        by_case (inr later) = inr later

from-order : (texts sorted : List (List ℕ)) (t : List ℕ) → Contains (fold (λ found text. with_text text found) sorted texts) t → Contains sorted t ⊎ Contains texts t
from-order [] sorted t here = inl here
from-order (x ∷ xs) sorted t here = by_case (from-order xs (with_text x sorted) t here)
  where
    by_put : (x ≡ t) ⊎ Contains sorted t → Contains sorted t ⊎ Contains (x ∷ xs) t
    by_put (inl same) = inr (subst (Contains (x ∷ xs)) same (Contains-here x xs))
    by_put (inr there) = inl there

    by_case : Contains (with_text x sorted) t ⊎ Contains xs t → Contains sorted t ⊎ Contains (x ∷ xs) t
    by_case (inl there) = by_put (put-only (slice_cmp nat_cmp) nat_list_cmp_total x sorted t (subst (λ ts. Contains ts t) (text-put x sorted) there))
    by_case (inr later) = inr (Contains-later x xs t later)

pub fixed-list : (p : Project) → IsListOf (slice_cmp nat_cmp) (IsFixedName p) (fixed_names p.groups)
fixed-list p = subst (IsListOf (slice_cmp nat_cmp) (IsFixedName p)) (sym (fixed-is p.groups)) (record {
  rising = ascending-sorted (map name (filter is_fixed p.groups));
  within = λ t here. within t (from-order (map name (filter is_fixed p.groups)) [] t here);
  all = λ t is. in-order (map name (filter is_fixed p.groups)) [] t (inr (all t is));
})
  where
    within : (t : List ℕ) → Contains [] t ⊎ Contains (map name (filter is_fixed p.groups)) t → IsFixedName p t
    within t (inl none) = absurd (Contains-none t none)
    within t (inr here) =
        let back = map-Contains name (filter is_fixed p.groups) t here in
        let among = filter-Contains is_fixed p.groups back.0 back.1 in
        (back.0, among.0, among.1, back.2)

    all : (t : List ℕ) → IsFixedName p t → Contains (map name (filter is_fixed p.groups)) t
    all t (group, here, fixed, is) = subst (Contains (map name (filter is_fixed p.groups))) is (Contains-map name (filter is_fixed p.groups) group (Contains-filter is_fixed p.groups group here fixed))
