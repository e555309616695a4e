-- The bounds of a project, from the tests of its counts and sizes.
use Rattle.std.proofs.Common.{◌≡◌, ℕ, ◌+◌, ◌-◌, ◌^◌, ◌≤◌, Bool, true, false, min, nat_lt, cond, List, [], ◌∷◌, ◌++◌, length, map, sum, Some, None, refl, sym, ap, ◌∙◌, arith}
use Rattle.std.proofs.lemmas.Bool.{ltb-false}
use Rattle.std.proofs.lemmas.List.{length-map}
use Rattle.std.proofs.lemmas.List.Sums.{fold_push, sum_by-cons}
use Rattle.std.specs.List.{AllByRecursion, sum_by}
use Rattle.addr_base.specs.declared.ids.Guid.{Guid}
use Rattle.addr_project.specs.declared.error.ProjectErr.TheVariants.{OverLimit}
use Rattle.addr_project.specs.declared.limit.Limit.{Limit}
use Rattle.addr_project.specs.declared.limit.Limit.TheVariants as limit
use Rattle.addr_project.specs.declared.model.Asset.{Asset}
use Rattle.addr_project.specs.declared.model.Entry.{Entry}
use Rattle.addr_project.specs.Faults.{passes, count_fault}
use Rattle.addr_project.specs.Kept.{KeepsBounds}
use Rattle.addr_project.specs.Limits.{most}
use Rattle.addr_project.specs.Model.{Project}
use Rattle.addr_project.specs.Reading.{size_answer, size_fault}
use Rattle.addr_project_rows.specs.Firsts.{first_from, first_of}
use Rattle.addr_project.proofs.OnceLemmas.{none-parts}

within : (which : Limit) (n : ℕ) → passes which n ≡ None → n ≤ most which
within which n none = by_test (nat_lt (most which) n) refl none
  where
    by_test : (t : Bool) → nat_lt (most which) n ≡ t → cond t (Some (OverLimit which n)) None ≡ None → n ≤ most which
    by_test true is found = absurd (cc)
    by_test false is found = ltb-false (most which) n is

-- where no row answers, each is within the limit
all-within : {X : Type 0} (which : Limit) (size : X → ℕ) (xs : List X) → first_of (λ x. passes which (size x)) xs ≡ None → AllByRecursion (λ x. size x ≤ most which) xs
all-within which size [] none = tt
all-within which size (x ∷ xs) none =
    let parts = none-parts _ _ none in
    (within which (size x) parts.0, all-within which size xs parts.1)

all-unmap : {X Y : Type 0} (P : Y → Type 0) (f : X → Y) (xs : List X) → AllByRecursion P (map f xs) → AllByRecursion (λ x. P (f x)) xs
all-unmap P f [] all = tt
all-unmap P f (x ∷ xs) (first, rest) = (first, all-unmap P f xs rest)

sum_by-map : {X Y : Type 0} (f : Y → ℕ) (g : X → Y) (xs : List X) → sum_by f (map g xs) ≡ sum_by (λ x. f (g x)) xs
sum_by-map f g [] = refl
sum_by-map f g (x ∷ xs) = sum_by-cons f (g x) (map g xs) ∙ ap (λ n. f (g x) + n) (sum_by-map f g xs) ∙ sym (sum_by-cons (λ x. f (g x)) x xs)

unstopped : (n : ℕ) → min n (2 ^ 64 - 1) ≤ 1000000 → n ≤ 1000000
unstopped n small = grind arith

same-bound : (m n top : ℕ) → m ≡ n → m ≤ top → n ≤ top
same-bound m n top same small = omega arith

-- where no size passes a limit, each is within its own, and their sum within the other
sizes-fit : (before xs : List ℕ) → sum before ≤ most limit.AllBytes → first_from size_answer before xs ≡ None → AllByRecursion (λ n. n ≤ most limit.AssetBytes) xs × (sum before + sum_by (λ n. n) xs ≤ most limit.AllBytes)
unfolding first_from
sizes-fit before [] small none = (tt, omega arith)
sizes-fit before (n ∷ xs) small none =
    let parts = none-parts _ _ none in
    let sizes = none-parts _ _ parts.0 in
    let total : sum (before ++ n ∷ []) ≡ sum before + n = fold_push (λ (a x : ℕ). a + x) 0 before n in
    let most_now = within limit.AllBytes (sum before + n) sizes.1 in
    let rest = sizes-fit (before ++ n ∷ []) xs (omega (arith, total, most_now)) parts.1 in
    let whole = sum_by-cons (λ (n : ℕ). n) n xs in
    ((within limit.AssetBytes n sizes.0, rest.0), omega (arith, rest.1, total, whole))

pub bounded : (p : Project) → count_fault p.variables p.groups (map (λ a. a.refs) p.assets) (map (λ e. e.labels) p.entries) ≡ None → size_fault (map (λ a. length a.bytes) p.assets) ≡ None → KeepsBounds p
unfolding count_fault
bounded p counts sizes =
    let variables = none-parts _ _ counts in
    let groups = none-parts _ _ variables.1 in
    let assets = none-parts _ _ groups.1 in
    let entries = none-parts _ _ assets.1 in
    let labels = none-parts _ _ entries.1 in
    let refs = none-parts _ _ labels.1 in
    let total = none-parts _ _ refs.1 in
    let fit = sizes-fit [] (map (λ (a : Asset). length a.bytes) p.assets) (omega arith) sizes in
    record {
      variables = within limit.Variables _ variables.0;
      groups = within limit.Groups _ groups.0;
      assets = same-bound _ _ _ (length-map p.assets (λ (a : Asset). a.refs)) (within limit.Assets _ assets.0);
      entries = same-bound _ _ _ (length-map p.entries (λ (e : Entry). e.labels)) (within limit.Entries _ entries.0);
      labels = all-unmap (λ (ls : List (List ℕ)). length ls ≤ most limit.Labels) (λ (e : Entry). e.labels) p.entries (all-within limit.Labels (λ (ls : List (List ℕ)). length ls) _ labels.0);
      refs = all-unmap (λ (gs : List Guid). length gs ≤ most limit.Refs) (λ (a : Asset). a.refs) p.assets (all-within limit.Refs (λ (gs : List Guid). length gs) _ refs.0);
      all_refs = same-bound _ _ _ (sum_by-map (λ (gs : List Guid). length gs) (λ (a : Asset). a.refs) p.assets) (unstopped _ (within limit.AllRefs _ total.0));
      bytes = all-unmap (λ (n : ℕ). n ≤ most limit.AssetBytes) (λ (a : Asset). length a.bytes) p.assets fit.0;
      all_bytes = same-bound _ _ _ (sum_by-map (λ (n : ℕ). n) (λ (a : Asset). length a.bytes) p.assets) (omega (arith, fit.1));
    }
