-- Homes of references: what they say of bundles, and the bundles that they name.
use Rattle.std.proofs.Common.{◌≡◌, ℕ, ◌+◌, ◌<◌, ◌⊎◌, inl, inr, List, [], ◌∷◌, ◌++◌, length, get_or, take, nat_eq, sym, ap, subst, ◌∙◌}
use Rattle.std.proofs.lemmas.List.{take_more, append_assoc}
use Rattle.std.proofs.lemmas.List.Elements.{filter_map-append, Contains-append_left, Contains-append_right, Contains-append_cases}
use Rattle.std.proofs.lemmas.List.Kept.{Contains-dedup_nat, Contains-from_dedup}
use Rattle.std.proofs.lemmas.List.Sorted.{Contains-permutation, IsPermutation-sym}
use Rattle.std.proofs.lemmas.Map.Keys.{IsStrictlyIncreasing-dedup, sorted_from_strictly_increasing}
use Rattle.std.specs.List.{Contains, dedup, flat_map}
use Rattle.std.specs.List.Sorted.{IsPermutation, IsSorted}
use Rattle.std.specs.Ordering.{nat_cmp}
use Rattle.addr_layout.specs.declared.model.RefHome.{RefHome}
use Rattle.addr_layout.specs.declared.model.RefHome.TheVariants.{Own, Bundle}
use Rattle.addr_layout.specs.Homes.{bundle_named, bundles_named, IsNamedIn}
use Rattle.addr_walks.specs.Walks.{IsListOf}
use Rattle.addr_walks.proofs.Lists.{Contains-here, Contains-later, Contains-none, Contains-cases}

-- ---- bundles that homes name

named-more : (homes : List RefHome) (i : ℕ) (d home : RefHome) → i < length homes → get_or homes i d ≡ home → bundles_named (take (i + 1) homes) ≡ bundles_named (take i homes) ++ bundles_named (home ∷ [])
named-more homes i d home within read =
    ap bundles_named (take_more homes i d within ∙ ap (λ h. take i homes ++ h ∷ []) read) ∙ filter_map-append bundle_named (take i homes) (home ∷ [])

-- a list goes on by what one more home names
pub goes-on : (old found new : List ℕ) (homes : List RefHome) (i : ℕ) (d home : RefHome) → i < length homes → get_or homes i d ≡ home → found ≡ old ++ bundles_named (take i homes) → new ≡ found ++ bundles_named (home ∷ [])
    → new ≡ old ++ bundles_named (take (i + 1) homes)
goes-on old found new homes i d home within read before is =
    is ∙ (ap (λ xs. xs ++ bundles_named (home ∷ [])) before ∙ (append_assoc old (bundles_named (take i homes)) (bundles_named (home ∷ [])) ∙ ap (λ xs. old ++ xs) (sym (named-more homes i d home within read))))

named-here : (homes : List RefHome) (c : ℕ) → Contains (bundles_named homes) c → Contains homes (Bundle c)
named-here [] c here = absurd (Contains-none c here)
named-here (Own ∷ homes) c here = Contains-later Own homes (Bundle c) (named-here homes c here)
named-here (Bundle b ∷ homes) c here = by_case (Contains-cases b (bundles_named homes) c here) (named-here homes c)
  where
    by_case : (b ≡ c) ⊎ Contains (bundles_named homes) c → (Contains (bundles_named homes) c → Contains homes (Bundle c)) → Contains (Bundle b ∷ homes) (Bundle c)
    by_case (inl same) more = subst (λ n. Contains (Bundle b ∷ homes) (Bundle n)) same (Contains-here (Bundle b) homes)
    by_case (inr later) more = Contains-later (Bundle b) homes (Bundle c) (more later)

here-named : (homes : List RefHome) (c : ℕ) → Contains homes (Bundle c) → Contains (bundles_named homes) c
here-named [] c here = absurd (Contains-none (Bundle c) here)
here-named (Own ∷ homes) c here = by_case (Contains-cases Own homes (Bundle c) here) (here-named homes c)
  where
    by_case : (Own ≡ Bundle c) ⊎ Contains homes (Bundle c) → (Contains homes (Bundle c) → Contains (bundles_named homes) c) → Contains (bundles_named homes) c
    by_case (inl same) more = absurd (cc same)
    by_case (inr later) more = more later
here-named (Bundle b ∷ homes) c here = by_case (Contains-cases (Bundle b) homes (Bundle c) here) (here-named homes c)
  where
    by_case : (Bundle b ≡ Bundle c) ⊎ Contains homes (Bundle c) → (Contains homes (Bundle c) → Contains (bundles_named homes) c) → Contains (b ∷ bundles_named homes) c
    by_case (inl same) more = let one : b ≡ c = cc same in subst (Contains (b ∷ bundles_named homes)) one (Contains-here b (bundles_named homes))
    by_case (inr later) more = Contains-later b (bundles_named homes) c (more later)

rows-named : (rows : List (List RefHome)) (c : ℕ) → Contains (flat_map bundles_named rows) c → IsNamedIn rows c
rows-named [] c here = absurd (Contains-none c here)
rows-named (row ∷ rows) c here = by_case (Contains-append_cases (bundles_named row) (flat_map bundles_named rows) c here) (rows-named rows c)
  where
    by_case : Contains (bundles_named row) c ⊎ Contains (flat_map bundles_named rows) c → (Contains (flat_map bundles_named rows) c → IsNamedIn rows c) → IsNamedIn (row ∷ rows) c
    by_case (inl first) more = (row, Contains-here row rows, named-here row c first)
    by_case (inr later) more = let found = more later in (found.0, Contains-later row rows found.0 found.1, found.2)

named-rows : (rows : List (List RefHome)) (c : ℕ) → IsNamedIn rows c → Contains (flat_map bundles_named rows) c
named-rows [] c (row, here, names) = absurd (Contains-none row here)
named-rows (first ∷ rows) c (row, here, names) = by_case (Contains-cases first rows row here) (λ later. named-rows rows c (row, later, names))
  where
    by_case : (first ≡ row) ⊎ Contains rows row → (Contains rows row → Contains (flat_map bundles_named rows) c) → Contains (bundles_named first ++ flat_map bundles_named rows) c
    by_case (inl same) more = Contains-append_left (bundles_named first) (flat_map bundles_named rows) c (here-named first c (subst (λ xs. Contains xs (Bundle c)) (sym same) names))
    by_case (inr later) more = Contains-append_right (bundles_named first) (flat_map bundles_named rows) c (more later)

-- sorted and each once
pub direct-list : (rows : List (List RefHome)) (found sorted : List ℕ) → found ≡ flat_map bundles_named rows → IsPermutation found sorted → IsSorted nat_cmp sorted → IsListOf nat_cmp (IsNamedIn rows) (dedup nat_eq sorted)
direct-list rows found sorted is moved ascends = record {
  rising = sorted_from_strictly_increasing (dedup nat_eq sorted) (IsStrictlyIncreasing-dedup sorted ascends);
  within = λ c here. rows-named rows c (subst (λ xs. Contains xs c) is (Contains-permutation sorted found c (IsPermutation-sym found sorted moved) (Contains-from_dedup nat_eq sorted c here)));
  all = λ c names. Contains-dedup_nat sorted c (Contains-permutation found sorted c moved (subst (λ xs. Contains xs c) (sym is) (named-rows rows c names)));
}
