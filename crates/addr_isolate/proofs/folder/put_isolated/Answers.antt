use Rattle.std.proofs.Common.{◌≡◌, List, ℕ, Some}
use Rattle.addr_base.specs.Files.{file_at}
use Rattle.addr_project.specs.Reading.{ProjectOf}
use Rattle.addr_isolate.specs.Isolating.{project_path}
use Rattle.addr_isolate.specs.Leaving.{Leaves, PutsMade}
use Rattle.addr_isolate.proofs.LeaveLemmas.{made-leaves, of-map}
use Rattle.addr_isolate.proofs.folder.put_isolated.Goals as goal

pub returns-in-Ok-clause-files : goal.returns-in-Ok-clause-files
returns-in-Ok-clause-files g c =
    of-map (g.D.Depot.now c.args.depot.now).files (g.D.Depot.now c.put_made.new.depot).files
    (λ before after. PutsMade c.args.name.now c.in-Ok.made before after c.put_made.result)
    (λ before after. (folder : List ℕ) → c.args.name.now ≡ project_path folder → ProjectOf before folder c.args.project.now → file_at c.args.name.now before ≡ Some c.args.file.now
    → Leaves c.args.project.now c.args.found.now folder before after c.put_made.result)
    (λ before after told puts. λ folder named read there. made-leaves c.args.project.now c.args.found.now folder c.args.name.now c.args.file.now c.in-Ok.made c.in-Ok.ensures before after c.put_made.result puts named read there)
    c.put_made.ensures.files
