-- What a refused isolation leaves of a folder.
use Rattle.std.proofs.Common.{◌≢◌, inl, inr, ℕ, List, [], length, Err, refl}
use Rattle.addr_analyze.specs.Duplicates.{AreDuplicates}
use Rattle.addr_analyze.specs.declared.duplicate.Duplicate.{Duplicate}
use Rattle.addr_base.specs.declared.files.MemFile.{MemFile}
use Rattle.addr_images.specs.Limits.{IsPlanWithin}
use Rattle.addr_isolate.specs.Leaving.{IsOldOrIsolated, Leaves}
use Rattle.addr_isolate.specs.declared.error.IsolateErr.{IsolateErr}
use Rattle.addr_isolate.specs.declared.error.IsolateErr.TheVariants.{TooLarge, Broken, DepotFault, NoMemory}
use Rattle.addr_pack.specs.declared.bundles.Plan.{Plan}
use Rattle.addr_project.specs.Model.{Project as Contents}
use Rattle.addr_project.specs.Reading.{ProjectOf}
use Rattle.addr_show.specs.FromCauses.{of_isolation}
use Rattle.addr_show.specs.Isolating.{IsOldOrGrouped, LeavesFolder, StandsFor}

module _ (p : Contents) (plan : Plan) (found : List Duplicate) (within : IsPlanWithin p plan) (are : AreDuplicates p plan found) (some : found ≢ []) (folder : List ℕ) (before after : List MemFile) (read : ProjectOf before folder p) where
  stands : StandsFor before folder p found
  stands = record { read = read; plan = plan; within = within; are = are }

  old-or-grouped : IsOldOrIsolated p found folder before after → IsOldOrGrouped before folder after
  old-or-grouped (inl same) = inl same
  old-or-grouped (inr (group, isolated)) = inr (length found, group, record { project = p; found = found; stood = stands; some = some; many = refl; isolated = isolated })

  pub refused : (e : IsolateErr) → Leaves p found folder before after (Err e) → LeavesFolder before folder after (Err (of_isolation e))
  refused (TooLarge which n) (passes, same) = (inr (p, found, stands, some, passes), same)
  refused Broken leaves = absurd leaves
  refused DepotFault leaves = old-or-grouped leaves
  refused NoMemory leaves = old-or-grouped leaves
