-- Rows of bundles that are named: what one more thing gives, what a home gives, and the sorted row.
use Rattle.std.proofs.Common.{◌≡◌, ◌≢◌, ℕ, ◌+◌, ◌<◌, ◌≤◌, ◌⊎◌, inl, inr, List, [], ◌∷◌, ◌++◌, length, get_or, take, nat_eq, refl, sym, ap, subst, ◌∙◌}
use Rattle.std.proofs.lemmas.List.{take_all, take_more}
use Rattle.std.proofs.lemmas.List.Elements.{Contains-append_left, Contains-push, Contains-push_cases}
use Rattle.std.proofs.lemmas.List.Kept.{Contains-dedup_nat, Contains-from_dedup}
use Rattle.std.proofs.lemmas.List.Sorted.{Contains-permutation, IsPermutation-sym}
use Rattle.std.proofs.lemmas.Map.Keys.{IsStrictlyIncreasing-dedup, sorted_from_strictly_increasing}
use Rattle.std.proofs.lemmas.Option.{slice_get_within}
use Rattle.std.specs.List.{Contains, dedup}
use Rattle.std.specs.List.Sorted.{IsPermutation, IsSorted, IsStrictlySortedBy}
use Rattle.std.specs.Ordering.{nat_cmp}
use Rattle.addr_base.specs.Ids.{Are16Bytes, digest_of, hex_of}
use Rattle.addr_base.specs.declared.ids.Digest.{Digest}
use Rattle.addr_base.specs.declared.images.Home.TheVariants.{Own, Other}
use Rattle.addr_base.specs.declared.images.RefTo.{RefTo}
use Rattle.addr_pack.proofs.DigestLemmas.{digests-fit}
use Rattle.addr_pack.proofs.NameLemmas.{digits_apart}
use Rattle.addr_pack.specs.declared.bundles.Plan.{Plan}
use Rattle.addr_walks.proofs.Lists.{Contains-none}
use Rattle.addr_walks.specs.Walks.{IsListOf}
use Rattle.addr_needs.specs.within.Names.{AreNames}
use Rattle.addr_needs.specs.within.Naming.{AddsSet, AnyOf, NamesOther}

-- ---- rows that grow

module _ {X : Type 0} (gives : X → ℕ → Type 0) where
  pub adds-none : (old : List ℕ) → AddsSet old (AnyOf [] gives) old
  adds-none old c = ((λ here. inl here), back)
    where
      back : Contains old c ⊎ AnyOf [] gives c → Contains old c
      back (inl was) = was
      back (inr (x, here, is)) = absurd (Contains-none x here)

  pub adds-more : (xs : List X) (i : ℕ) (x d : X) (old mid new : List ℕ) → i < length xs → x ≡ get_or xs i d → AddsSet old (AnyOf (take i xs) gives) mid → AddsSet mid (gives x) new → AddsSet old (AnyOf (take (i + 1) xs) gives) new
  adds-more xs i x d old mid new within read before adds c = subst (λ (ys : List X). Adds ys) (sym same) ((λ here. to ((adds c).0 here)), from)
    where
      Adds : List X → Type 0
      Adds ys = (Contains new c → Contains old c ⊎ AnyOf ys gives c) × (Contains old c ⊎ AnyOf ys gives c → Contains new c)

      same : take (i + 1) xs ≡ take i xs ++ x ∷ []
      same = take_more xs i d within ∙ ap (λ z. take i xs ++ z ∷ []) (sym read)

      wider : Contains old c ⊎ AnyOf (take i xs) gives c → Contains old c ⊎ AnyOf (take i xs ++ x ∷ []) gives c
      wider (inl was) = inl was
      wider (inr (y, here, is)) = inr (y, Contains-append_left (take i xs) (x ∷ []) y here, is)

      to : Contains mid c ⊎ gives x c → Contains old c ⊎ AnyOf (take i xs ++ x ∷ []) gives c
      to (inl was) = wider ((before c).0 was)
      to (inr is) = inr (x, Contains-push (take i xs) x, is)

      by_side : (y : X) → gives y c → Contains (take i xs) y ⊎ (x ≡ y) → Contains new c
      by_side y is (inl here) = (adds c).1 (inl ((before c).1 (inr (y, here, is))))
      by_side y is (inr last) = (adds c).1 (inr (subst (λ z. gives z c) (sym last) is))

      from : Contains old c ⊎ AnyOf (take i xs ++ x ∷ []) gives c → Contains new c
      from (inl was) = (adds c).1 (inl ((before c).1 (inl was)))
      from (inr (y, here, is)) = by_side y is (Contains-push_cases (take i xs) x y here)

  pub adds-all : (xs : List X) (i : ℕ) (old new : List ℕ) → length xs ≤ i → AddsSet old (AnyOf (take i xs) gives) new → AddsSet old (AnyOf xs gives) new
  adds-all xs i old new all adds = subst (λ (ys : List X). AddsSet old (AnyOf ys gives) new) (take_all i xs all) adds

-- ---- homes

abbrev pub no-ref : RefTo
no-ref = record { guid = record { 0 = [] }; home = Own }

same-name : (x y : Digest) → Other x ≡ Other y → x ≡ y
same-name x y same = cc same

pub own-names : (plan : Plan) (b : ℕ) (old : List ℕ) → AddsSet old (NamesOther plan b Own) old
own-names plan b old c = ((λ here. inl here), back)
  where
    back : Contains old c ⊎ NamesOther plan b Own c → Contains old c
    back (inl was) = was
    back (inr (apart, name, is, bundle, at, digits)) = absurd (cc is)

-- what stands under a name is what a home of that name names
pub home-names : (plan : Plan) (b : ℕ) (name : Digest) (find : Digest → List ℕ) (numbers old new : List ℕ) → Are16Bytes name.0 → AreNames plan (length plan.bundles) find → find name ≡ numbers
    → AddsSet old (AnyOf numbers (λ c d. (b ≢ d) × (c ≡ d))) new → AddsSet old (NamesOther plan b (Other name)) new
home-names plan b name find numbers old new sixteen names is adds c = ((λ here. to ((adds c).0 here)), (λ side. (adds c).1 (from side)))
  where
    to : Contains old c ⊎ AnyOf numbers (λ x d. (b ≢ d) × (x ≡ d)) c → Contains old c ⊎ NamesOther plan b (Other name) c
    to (inl was) = inl was
    to (inr (x, here, (apart, same))) =
        let has = (names name c).0 (subst (λ xs. Contains xs c) (sym is) (subst (Contains numbers) same here)) in
        inr (apart, name, refl, has.1.0, has.1.1, ap hex_of has.1.2)

    from : Contains old c ⊎ NamesOther plan b (Other name) c → Contains old c ⊎ AnyOf numbers (λ x d. (b ≢ d) × (x ≡ d)) c
    from (inl was) = inl was
    from (inr (apart, other, same, bundle, at, digits)) =
        let one : name ≡ other = same-name name other same in
        let own : name.0 ≡ digest_of bundle.name = digits_apart name.0 (digest_of bundle.name) sixteen (digests-fit bundle.name) (ap (λ (d : Digest). hex_of d.0) one ∙ digits) in
        inr (c, subst (λ xs. Contains xs c) is ((names name c).1 (slice_get_within plan.bundles c bundle at, (bundle, at, own))), (apart, refl))

-- ---- the row

nothing : (set : ℕ → Type 0) → ((c : ℕ) → set c → ⊥) → IsListOf nat_cmp set []
unfolding IsStrictlySortedBy
nothing set none = record { rising = tt; within = λ c here. absurd (Contains-none c here); all = λ c is. absurd (none c is) }

pub no-names : (set : ℕ → Type 0) (row : List ℕ) → row ≡ [] → ((c : ℕ) → set c → ⊥) → IsListOf nat_cmp set row
no-names set row empty none = subst (IsListOf nat_cmp set) (sym empty) (nothing set none)

pub names-list : (set : ℕ → Type 0) (found sorted : List ℕ) → AddsSet [] set found → IsPermutation found sorted → IsSorted nat_cmp sorted → IsListOf nat_cmp set (dedup nat_eq sorted)
names-list set found sorted adds moved ascends = record {
  rising = sorted_from_strictly_increasing (dedup nat_eq sorted) (IsStrictlyIncreasing-dedup sorted ascends);
  within = λ c here. one c ((adds c).0 (Contains-permutation sorted found c (IsPermutation-sym found sorted moved) (Contains-from_dedup nat_eq sorted c here)));
  all = λ c is. Contains-dedup_nat sorted c (Contains-permutation found sorted c moved ((adds c).1 (inr is)));
}
  where
    one : (c : ℕ) → Contains [] c ⊎ set c → set c
    one c (inl none) = absurd (Contains-none c none)
    one c (inr is) = is
