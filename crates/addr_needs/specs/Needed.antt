-- What each bundle of an update's placement needs, as rows of numbers.
use Rattle.std.specs.Prelude.{ℕ, ◌≡◌, List, Option}
use Rattle.std.specs.Ordering.{nat_cmp}
use Rattle.addr_cab.specs.Lookup.{Held}
use Rattle.addr_layout.specs.Counts.{AreFor}
use Rattle.addr_pack.specs.Placement.{IsPlaced}
use Rattle.addr_pack.specs.declared.bundles.Plan.{Plan}
use Rattle.addr_project.specs.Model.{Project}
use Rattle.addr_resolve.specs.Items.{ShowsCabs}
use Rattle.addr_update.specs.After.{NeedsAfter}
use Rattle.addr_update.specs.Moved.{Update}
use Rattle.addr_update.specs.Placement.{IsUpdated}
use Rattle.addr_walks.specs.Walks.{IsListOf}
use Rattle.addr_needs.specs.Numbers.{AreNumbers}

-- a row for each bundle, which lists what it needs
abbrev pub AreNeeds : Update → Plan → List (List ℕ) → Type 0
AreNeeds u plan rows = AreFor plan (λ b row. IsListOf nat_cmp (NeedsAfter u plan b) row) rows

-- an update of the project has this placement; the numbers are those of its state's bundles, and the cabs hold what these were
-- opened as
pub record AreOfUpdate (u : Update) (p : Project) (plan : Plan) (olds : List (Option ℕ)) (cabs : List Held) : Type 0 where
  pub project : u.project ≡ p
  pub placed : IsPlaced u.project u.now
  pub updated : IsUpdated u plan
  pub numbers : AreNumbers u.state plan olds
  pub shows : ShowsCabs u.was cabs
