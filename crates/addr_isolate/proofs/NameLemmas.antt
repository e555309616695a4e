-- The names of groups of duplicates: whether a group has one, and how long they are.
use Rattle.std.proofs.Common.{◌≡◌, ℕ, zero, suc, ◌+◌, ◌<◌, ◌≤◌, ◌^◌, nat_le, ◌&&◌, ◌||◌, true, false, codes, decimal, List, [], ◌∷◌, length, refl, sym, ap, subst, ◌∙◌, arith, length-append, ◌⊎◌, inl, inr}
use Rattle.std.proofs.lemmas.Bool.Decides.{nat_tests}
use Rattle.std.proofs.lemmas.Fmt.{length-decimal-le}
use Rattle.std.specs.List.{Contains, list_any}
use Rattle.std.specs.Str.{bytes_eq}
use Rattle.addr_analyze.specs.Isolation.{numbered_name}
use Rattle.addr_project.specs.Faults.{names_of}
use Rattle.addr_project.specs.declared.model.Group.{Group}
use Rattle.addr_project.proofs.KeyLemmas.{among-there, there-among}
use Rattle.addr_project_rows.specs.Fields.{is_within, most_text}
use Rattle.addr_project_rows.specs.Firsts.{is_among}
use Rattle.std.proofs.lemmas.Bool.{cases_order, false≢true}

any-names : (groups : List Group) (name : List ℕ) → list_any (λ g. bytes_eq g.name name) groups ≡ is_among (names_of groups) name
any-names [] name = refl
any-names (g ∷ groups) name = ap (λ b. bytes_eq g.name name || b) (any-names groups name)

pub name-free : (groups : List Group) (name : List ℕ) → list_any (λ g. bytes_eq g.name name) groups ≡ false → ¬ Contains (names_of groups) name
name-free groups name none there = false≢true (sym none ∙ any-names groups name ∙ there-among name (names_of groups) there)

pub name-taken : (groups : List Group) (name : List ℕ) → list_any (λ g. bytes_eq g.name name) groups ≡ true → Contains (names_of groups) name
name-taken groups name is = among-there name (names_of groups) (sym (any-names groups name) ∙ is)

pub name-text : (n : ℕ) → n < 2 ^ 32 → is_within 1 most_text (numbered_name n) ≡ true
name-text zero small = refl
name-text (suc n) small =
    let digits = length-decimal-le 10 (n + 2) (omega arith) (omega (arith, small)) (omega (arith, small)) in
    let all = length-append (codes "Duplicate Assets ") (decimal (n + 2)) in
    within (numbered_name (suc n)) (omega (arith, all)) (omega (arith, all, digits))
  where
    within : (s : List ℕ) → 1 ≤ length s → length s ≤ 255 → is_within 1 most_text s ≡ true
    within s least greatest =
        let first : nat_le 1 (length s) ≡ true = grind (arith, nat_tests) in
        let second : nat_le (length s) 255 ≡ true = grind (arith, nat_tests) in
        λ i. first i && second i

-- one name more that a group has
pub taken-more : (groups : List Group) (n : ℕ) (name : List ℕ) → name ≡ numbered_name n → Contains (names_of groups) name
    → ((k : ℕ) → k < n → Contains (names_of groups) (numbered_name k)) → (k : ℕ) → k < n + 1 → Contains (names_of groups) (numbered_name k)
taken-more groups n name is here before k small = by_case (cases_order k n)
  where
    by_case : (k ≡ n) ⊎ ((k < n) ⊎ (n < k)) → Contains (names_of groups) (numbered_name k)
    by_case (inl same) = subst (λ t. Contains (names_of groups) t) (is ∙ ap numbered_name (sym same)) here
    by_case (inr (inl less)) = before k less
    by_case (inr (inr above)) = absurd (omega (arith, small, above))
