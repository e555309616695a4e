-- The bytes that tell of a release: its content state and its catalogue.
use Rattle.std.specs.Prelude.{ℕ, ◌≡◌, List, Ok}
use Rattle.addr_images.specs.States.{IsStateFor}
use Rattle.addr_locate.specs.declared.rows.BundleRow.{BundleRow}
use Rattle.addr_pack.specs.declared.bundles.Plan.{Plan}
use Rattle.addr_project.specs.Model.{Project}
use Rattle.addr_release.specs.Built.{IsReleaseIn, Release, ReleaseBundle}
use Rattle.addr_state.specs.Reading.{state_read}
use Rattle.addr_state.specs.Written.{state_text}
use Rattle.addr_state.specs.declared.model.State.{State}

-- the one text of the state that belongs to bundles with these rows, which is read as it
abbrev pub IsStateText : Project → Plan → List BundleRow → List ℕ → Type 0
IsStateText p plan rows bytes = (state : State) × IsStateFor p plan rows state
    × (bytes ≡ state_text state) × (state_read bytes ≡ Ok state)

-- the bytes of state and catalogue of the release that has these bundles
abbrev pub IndexOf : Project → Plan → List ReleaseBundle → List ℕ → List ℕ → Type 0
IndexOf p plan bundles state catalogue = (r : Release) × IsReleaseIn p plan r
    × (r.bundles ≡ bundles) × (r.state_bytes ≡ state) × (r.catalogue ≡ catalogue)
