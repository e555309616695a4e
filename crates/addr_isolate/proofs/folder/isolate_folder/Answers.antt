use Rattle.std.proofs.Common.{◌∙◌}
use Rattle.addr_project.proofs.LoadLemmas.{if-some-at}
use Rattle.addr_isolate.proofs.LeaveLemmas.{of-same, unread-leaves}
use Rattle.addr_isolate.proofs.folder.isolate_folder.Goals as goal

pub returns-clause-files : goal.returns-clause-files
returns-clause-files g c =
    of-same _ _ _ c.in-Err-read_file.ensures.same.files
    (λ before told. λ read. unread-leaves c.args.project.now c.args.found.now c.args.folder.now c.as_str.result.now c.in-Err-read_file.refusal before (c.as_str.ensures ∙ c.in-Ok.ensures)
    (if-some-at _ (g.D.Depot.now c.args.depot.now).files before told c.in-Err-read_file.ensures.refused) read)
