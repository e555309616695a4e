-- Right after a full build nothing moves.
use Rattle.std.specs.Prelude.{ℕ, ◌≡◌, ◌≢◌, List, Some, true}
use Rattle.std.specs.List.{slice_get}
use Rattle.addr_base.specs.Ids.{digest_of}
use Rattle.addr_base.specs.declared.files.MemFile.{MemFile}
use Rattle.addr_base.specs.declared.ids.Guid.{Guid}
use Rattle.addr_pack.specs.Placement.{IsPlaced}
use Rattle.addr_pack.specs.declared.bundles.Plan.{Plan}
use Rattle.addr_pack.specs.declared.bundles.PlanBundle.{PlanBundle}
use Rattle.addr_project.specs.Model.{Project}
use Rattle.addr_project.specs.declared.model.Group.{Group}
use Rattle.addr_release.specs.Built.{IsReleaseIn, Release}
use Rattle.addr_release.specs.Held.{IsHeldAs}
use Rattle.addr_release.specs.Images.{NamesApart}
use Rattle.addr_release.specs.Puts.{IsAfter, NoneTaken, puts_of}
use Rattle.addr_catalog.specs.declared.catalogue.Catalogue.{Catalogue}
use Rattle.addr_update.specs.Intact.{AreIntact}
use Rattle.addr_update.specs.Moved.{Update, IsIn, IsKeptNo, moved_name}

-- no bundle of a placement has the internal name of the bundle of moved entries
abbrev pub NoneMoved : Plan → Type 0
NoneMoved plan = (b : ℕ) (bundle : PlanBundle)
    → slice_get plan.bundles b ≡ Some bundle → digest_of bundle.name ≢ digest_of moved_name

-- what an update compares right after a build: the folder's state, intact, its catalogue, and the project that was built
pub record IsFresh (p : Project) (plan : Plan) (files : List MemFile) (folder : List ℕ) (u : Update) : Type 0 where
  pub catalogue : Catalogue
  pub held : IsHeldAs files folder catalogue u.state
  pub intact : AreIntact u.state files folder u.was
  pub rows : u.rows ≡ catalogue.locator
  pub project : u.project ≡ p
  pub now : u.now ≡ plan

-- each entry of a fixed group is kept
abbrev pub KeepsAll : Update → Type 0
KeepsAll u = (x : ℕ) (a : Guid) (g : Group) → IsIn u.project x a g → g.fixed ≡ true → (m : ℕ) × IsKeptNo u m x

-- after the puts of a project's release there is such an update, and it keeps all
abbrev pub FreshKeeps : Project → Type 0
FreshKeeps p = (plan : Plan) → IsPlaced p plan → NamesApart plan → NoneMoved plan
    → (r : Release) → IsReleaseIn p plan r → (old files : List MemFile) (folder : List ℕ) → NoneTaken old folder r
    → IsAfter (puts_of folder r) old files → (u : Update) × IsFresh p plan files folder u × KeepsAll u
