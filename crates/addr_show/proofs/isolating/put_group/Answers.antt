use Rattle.std.proofs.Common.{Err, sym, subst}
use Rattle.addr_isolate.specs.Leaving.{Leaves}
use Rattle.addr_isolate.proofs.LeaveLemmas.{of-map}
use Rattle.addr_project.specs.Reading.{ProjectOf}
use Rattle.addr_show.specs.Isolating.{LeavesFolder}
use Rattle.addr_show.specs.declared.error.AnalyzeErr.{AnalyzeErr}
use Rattle.addr_show.proofs.IsolateLemmas.{refused}
use Rattle.addr_show.proofs.isolating.put_group.Goals as goal

pub returns-in-Err-clause-files : goal.returns-in-Err-clause-files
returns-in-Err-clause-files g c =
    of-map (g.D.Depot.now c.args.depot.now).files (g.D.Depot.now c.isolate_folder.new.depot).files
    (λ before after. ProjectOf before c.args.folder.now c.args.project.now → Leaves c.args.project.now c.args.found.now c.args.folder.now before after (Err c.in-Err.refusal))
    (λ before after. ProjectOf before c.args.folder.now c.args.project.now → LeavesFolder before c.args.folder.now after (Err c.from.result))
    (λ before after told leaves. λ read. subst (λ (e : AnalyzeErr). LeavesFolder before c.args.folder.now after (Err e)) (sym c.from.ensures)
    (refused c.args.project.now c.args.plan.now c.args.found.now c.requires.within c.requires.are c.requires.some c.args.folder.now before after read c.in-Err.refusal (leaves read)))
    c.in-Err.ensures.files
