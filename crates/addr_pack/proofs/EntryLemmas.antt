-- The entries of a project: how many there are, what each is named, and whether its name is too long.
use Rattle.std.proofs.Common.{◌≡◌, ℕ, ◌+◌, ◌<◌, ◌≤◌, ◌⊎◌, List, length, Some, refl, sym, ap, subst, ◌∙◌, inl, inr, arith}
use Rattle.std.proofs.lemmas.Option.{slice_get_within}
use Rattle.std.specs.List.{slice_get}
use Rattle.addr_project.specs.declared.model.Entry.{Entry}
use Rattle.addr_project.specs.Kept.{IsKept}
use Rattle.addr_project.specs.Model.{Project}
use Rattle.addr_pack.specs.LongNames.{HasLongName}
use Rattle.addr_pack.specs.Naming.{IsNamed, IsNameOf}
use Rattle.addr_pack.proofs.ClassLemmas.{below_or_at}
use Rattle.addr_pack.proofs.SameLemmas.{one_name}

pub few_entries : (p : Project) → IsKept p → length p.entries ≤ 65536
few_entries p kept = kept.bounds.entries

pub named_from : (p : Project) (x : ℕ) (e : Entry) (name : List ℕ) → slice_get p.entries x ≡ Some e → IsNameOf p e name → IsNamed p x e.group name
named_from p x e name is named = (e, is, refl, named)

-- what has a name is an entry
pub within : (p : Project) (x g : ℕ) (name : List ℕ) → IsNamed p x g name → x < length p.entries
within p x g name (e, is, number, named) = slice_get_within p.entries x e is

pub none_long : (p : Project) (n g : ℕ) (name : List ℕ) → ((x size : ℕ) → x < n → HasLongName p x size → ⊥) → IsNamed p n g name → length name ≤ 200 → (x size : ℕ) → x < n + 1 → HasLongName p x size → ⊥
none_long p n g name none named short x size small long = by_place (below_or_at x n small)
  where
    by_place : (x < n) ⊎ (x ≡ n) → ⊥
    by_place (inl less) = none x size less long
    by_place (inr at) =
        let same = (one_name p n g long.0 name long.1 named (subst (λ (y : ℕ). IsNamed p y long.0 long.1) at long.2)).1 in
        let above : 200 < size = long.4 in
        let is : size ≡ length name = long.3 ∙ ap length (sym same) in
        omega arith
