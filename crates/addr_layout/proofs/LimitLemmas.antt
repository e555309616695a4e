-- What a project's limits say of how many assets and entries it has.
use Rattle.std.proofs.Common.{◌≡◌, ℕ, ◌≤◌, Bool, true, false, nat_lt, length, map, Option, Some, None, if◌then◌else◌, refl, arith}
use Rattle.std.proofs.lemmas.Bool.{ltb-false}
use Rattle.std.proofs.lemmas.List.{length-map}
use Rattle.std.specs.Option.{option_or}
use Rattle.addr_project.specs.declared.error.ProjectErr.TheVariants.{OverLimit}
use Rattle.addr_project.specs.declared.limit.Limit.TheVariants as limit
use Rattle.addr_project.specs.declared.model.Asset.{Asset}
use Rattle.addr_project.specs.declared.model.Entry.{Entry}
use Rattle.addr_project.specs.Faults.{count_fault, over}
use Rattle.addr_project.specs.Kept.{IsKept}
use Rattle.addr_project.specs.Model.{Project}
use Rattle.addr_project.proofs.OnceLemmas.{none-parts}

within-limit : {A : Type 0} (most n : ℕ) (fault : A) → (if nat_lt most n then Some fault else None) ≡ None → n ≤ most
within-limit most n fault none = by_test (nat_lt most n) refl none
  where
    by_test : (t : Bool) → nat_lt most n ≡ t → (if t then Some fault else None) ≡ None → n ≤ most
    by_test true is found = absurd (cc)
    by_test false is found = ltb-false most n is

fourth-none : {A : Type 0} (a b c d rest : Option A) → option_or a (option_or b (option_or c (option_or d rest))) ≡ None → (c ≡ None) × (d ≡ None)
fourth-none a b c d rest none =
    let later = (none-parts b (option_or c (option_or d rest)) (none-parts a (option_or b (option_or c (option_or d rest))) none).1).1 in
    let third = none-parts c (option_or d rest) later in
    (third.0, (none-parts d rest third.1).0)

same-limit : {m n : ℕ} → m ≡ n → m ≤ 65536 → n ≤ 65536
same-limit same few = omega arith

pub few-assets : (p : Project) → IsKept p → length p.assets ≤ 65536
unfolding count_fault
few-assets p kept =
    let limits = fourth-none (over limit.Variables 64 (length p.variables)) (over limit.Groups 1024 (length p.groups)) (over limit.Assets 65536 (length (map (λ (a : Asset). a.refs) p.assets))) (over limit.Entries 65536 (length (map (λ (e : Entry). e.labels) p.entries))) _ kept.counts in
    same-limit (length-map p.assets (λ (a : Asset). a.refs)) (within-limit 65536 (length (map (λ (a : Asset). a.refs) p.assets)) (OverLimit limit.Assets (length (map (λ (a : Asset). a.refs) p.assets))) limits.0)

pub few-entries : (p : Project) → IsKept p → length p.entries ≤ 65536
unfolding count_fault
few-entries p kept =
    let limits = fourth-none (over limit.Variables 64 (length p.variables)) (over limit.Groups 1024 (length p.groups)) (over limit.Assets 65536 (length (map (λ (a : Asset). a.refs) p.assets))) (over limit.Entries 65536 (length (map (λ (e : Entry). e.labels) p.entries))) _ kept.counts in
    same-limit (length-map p.entries (λ (e : Entry). e.labels)) (within-limit 65536 (length (map (λ (e : Entry). e.labels) p.entries)) (OverLimit limit.Entries (length (map (λ (e : Entry). e.labels) p.entries))) limits.1)
