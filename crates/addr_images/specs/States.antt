-- Rows of a release's bundles, and the content state that belongs to them.
use Rattle.std.specs.Prelude.{ℕ, ◌≡◌, List, length, map}
use Rattle.addr_locate.specs.declared.rows.BundleRow.{BundleRow}
use Rattle.addr_pack.specs.declared.bundles.Plan.{Plan}
use Rattle.addr_project.specs.Model.{Project}
use Rattle.addr_release.specs.Built.{ReleaseBundle, IsBundleOf, IsStateOf}
use Rattle.addr_state.specs.declared.model.State.{State}
use Rattle.addr_walks.specs.Places.{EachAt}

-- the row of bundle b in a full build
abbrev pub IsBundleRow : Project → Plan → ℕ → BundleRow → Type 0
IsBundleRow p plan b row = (made : ReleaseBundle) × IsBundleOf p plan b made × (made.row ≡ row)

-- the rows of all bundles
pub record AreBundleRows (p : Project) (plan : Plan) (rows : List BundleRow) : Type 0 where
  pub as_many : length rows ≡ length plan.bundles
  pub each : EachAt (IsBundleRow p plan) rows

-- the state of a release whose bundles have these rows, whatever their files are
abbrev pub IsStateFor : Project → Plan → List BundleRow → State → Type 0
IsStateFor p plan rows state = (bundles : List ReleaseBundle) → map (λ b. b.row) bundles ≡ rows
    → EachAt (IsBundleOf p plan) bundles → IsStateOf p plan bundles state
