-- Where nothing is copied into two bundles there is no duplicate.
use Rattle.std.proofs.Common.{◌≡◌, ℕ, ◌≤◌, List, [], ◌∷◌, length, refl, sym, ap, ◌∙◌, arith}
use Rattle.std.proofs.lemmas.Cmp.{tied_itself}
use Rattle.std.specs.Cmp.{nat_cmp_total}
use Rattle.std.specs.Ordering.{nat_cmp}
use Rattle.addr_base.specs.declared.ids.Guid.{Guid}
use Rattle.addr_layout.specs.Members.{Member}
use Rattle.addr_pack.specs.declared.bundles.Plan.{Plan}
use Rattle.addr_pack.specs.Placement.{IsPlaced}
use Rattle.addr_project.specs.Model.{Project}
use Rattle.addr_walks.specs.Walks.{IsListOf}
use Rattle.addr_walks.proofs.Lists.{Contains-here, Contains-later, above-head}
use Rattle.addr_analyze.specs.declared.duplicate.Duplicate.{Duplicate}
use Rattle.addr_analyze.specs.Duplicates.{AreDuplicates, IsDuplicate}
use Rattle.addr_analyze.specs.Isolation.{NoneCopied}

two-same : (q : Project) (plan : Plan) (g : Guid) → ((b c : ℕ) → Member q plan b g → Member q plan c g → b ≡ c) → (xs : List ℕ) → IsListOf nat_cmp (λ b. Member q plan b g) xs → 2 ≤ length xs → ⊥
two-same q plan g one [] list long = omega arith
two-same q plan g one (x ∷ []) list long = omega arith
two-same q plan g one (x ∷ (y ∷ ys)) list long =
    let second = Contains-later x (y ∷ ys) y (Contains-here y ys) in
    let less = above-head nat_cmp x (y ∷ ys) y list.rising (Contains-here y ys) in
    let same = one x y (list.within x (Contains-here x (y ∷ ys))) (list.within y second) in
    cc (sym less ∙ (ap (λ z. nat_cmp z y) same ∙ tied_itself nat_cmp_total y))

no-duplicate : (q : Project) (plan : Plan) → NoneCopied q → IsPlaced q plan → (d : Duplicate) → IsDuplicate q plan d → ⊥
no-duplicate q plan none placed d is =
    let twice = is.twice in
    let size = is.bundles.2 in
    two-same q plan is.asset.guid (none plan placed is.asset.guid is.implicit) is.bundles.0 is.bundles.1 (omega (arith, twice, size))

pub none-again : (q : Project) (plan : Plan) (again : List Duplicate) → NoneCopied q → IsPlaced q plan → AreDuplicates q plan again → again ≡ []
none-again q plan [] none placed are = refl
none-again q plan (d ∷ ds) none placed are = absurd (no-duplicate q plan none placed d (are.within d (Contains-here d ds)))
