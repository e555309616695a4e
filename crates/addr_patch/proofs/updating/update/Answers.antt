use Rattle.std.proofs.Common.{sym, subst}
use Rattle.std.specs.Prelude.{IfSome, IsSomeAnd}
use Rattle.addr_base.specs.Files.{SameStore}
use Rattle.addr_build.specs.declared.release.Summary.{Summary}
use Rattle.addr_build.proofs.EndLemmas.{err-is}
use Rattle.addr_build.proofs.ServeLemmas.{keeps-same, moments-same}
use Rattle.addr_release.specs.Laws.{Keeps}
use Rattle.addr_patch.specs.After.{Serves}
use Rattle.addr_patch.specs.FromCauses.{of_check, of_put}
use Rattle.addr_patch.specs.Outcomes.{Answers, IsEarly, UpdateRose}
use Rattle.addr_patch.proofs.UpdateLemmas.{answers-check, answers-done, answers-prepare, answers-stopped, holds-done, holds-stopped, leaves-counted, leaves-held, leaves-shown, leaves-sound, leaves-step, put-late, rose-prepare, rose-put, serves-same, updates-done, updates-stopped}
use Rattle.addr_patch.proofs.updating.update.Goals as goal

pub returns-in_err-compared-clause-answers : goal.returns-in_err-compared-clause-answers
returns-in_err-compared-clause-answers g c =
    let old = g.D.Depot.now c.args.depot.now in
    let mid = g.D.Depot.now c.compare.new.depot in
    let e = c.in_err-compared.field-0.0 in
    subst (λ r. IfSome old.files (λ o. IsSomeAnd mid.files (λ n. Answers c.args.folder.now o n r))) (sym (err-is c.from_residual.result (of_check e) c.from_residual.ensures.1))
    (answers-check c.args.folder.now old mid e c.in_err-compared.ensures.same c.in_err-compared.ensures.compares)

pub returns-in_err-compared-clause-serves : goal.returns-in_err-compared-clause-serves
returns-in_err-compared-clause-serves g c =
    moments-same (Serves c.args.folder.now) (g.D.Depot.now c.args.depot.now) (g.D.Depot.now c.compare.new.depot) (serves-same c.args.folder.now) c.in_err-compared.ensures.same

pub returns-in_err-compared-clause-keeps : goal.returns-in_err-compared-clause-keeps
returns-in_err-compared-clause-keeps g c =
    moments-same (Keeps c.args.folder.now) (g.D.Depot.now c.args.depot.now) (g.D.Depot.now c.compare.new.depot) (keeps-same c.args.folder.now) c.in_err-compared.ensures.same

pub returns-in_err-prepared-clause-answers : goal.returns-in_err-prepared-clause-answers
returns-in_err-prepared-clause-answers g c =
    let old = g.D.Depot.now c.args.depot.now in
    let mid = g.D.Depot.now c.compare.new.depot in
    let e = c.in_err-prepared.field-0.0 in
    subst (λ r. IfSome old.files (λ o. IsSomeAnd mid.files (λ n. Answers c.args.folder.now o n r))) (sym (err-is c.from_residual-in_err-prepared.result e c.from_residual-in_err-prepared.ensures.1))
    (answers-prepare c.args.folder.now c.in_ok-compared.compared c.in_ok-compared.ensures.placed c.in_ok-compared.ensures.names old mid c.in_ok-compared.ensures.same c.in_ok-compared.ensures.compares e c.in_err-prepared.ensures.refused)

pub returns-in_err-prepared-clause-serves : goal.returns-in_err-prepared-clause-serves
returns-in_err-prepared-clause-serves g c =
    moments-same (Serves c.args.folder.now) (g.D.Depot.now c.args.depot.now) (g.D.Depot.now c.compare.new.depot) (serves-same c.args.folder.now) c.in_ok-compared.ensures.same

pub returns-in_err-prepared-clause-cause : goal.returns-in_err-prepared-clause-cause
returns-in_err-prepared-clause-cause g c =
    let old = g.D.Depot.now c.args.depot.now in
    let mid = g.D.Depot.now c.compare.new.depot in
    let e = c.in_err-prepared.field-0.0 in
    subst (UpdateRose {T = Summary} old.faults mid.faults) (sym (err-is c.from_residual-in_err-prepared.result e c.from_residual-in_err-prepared.ensures.1))
    (rose-prepare old.faults mid.faults c.in_ok-compared.compared e c.in_ok-compared.ensures.cause c.in_err-prepared.ensures.refused)

pub returns-in_err-summary-clause-answers : goal.returns-in_err-summary-clause-answers
returns-in_err-summary-clause-answers g c =
    let old = g.D.Depot.now c.args.depot.now in
    let mid = g.D.Depot.now c.compare.new.depot in
    let new = g.D.Depot.now c.put_update.new.depot in
    let e = c.in_err-summary.field-0.0 in
    subst (λ r. IfSome old.files (λ o. IsSomeAnd new.files (λ n. Answers c.args.folder.now o n r))) (sym (err-is c.from_residual-in_err-summary.result (of_put e) c.from_residual-in_err-summary.ensures.1))
    (answers-stopped c.args.folder.now c.in_ok-compared.compared c.in_ok-compared.ensures.placed c.in_ok-compared.ensures.names old mid c.in_ok-compared.ensures.same c.in_ok-compared.ensures.compares c.in_ok-prepared.prepared c.in_ok-prepared.ensures.prepared new e c.in_err-summary.ensures.puts)

pub returns-in_err-summary-clause-serves : goal.returns-in_err-summary-clause-serves
returns-in_err-summary-clause-serves g c =
    let old = g.D.Depot.now c.args.depot.now in
    let mid = g.D.Depot.now c.compare.new.depot in
    let new = g.D.Depot.now c.put_update.new.depot in
    (holds-stopped c.args.folder.now c.in_ok-compared.compared c.in_ok-compared.ensures.placed c.in_ok-compared.ensures.names old mid c.in_ok-compared.ensures.same c.in_ok-compared.ensures.compares c.in_ok-prepared.prepared c.in_ok-prepared.ensures.prepared new c.in_ok-compared.ensures.sound c.kept.ensures c.in_err-summary.field-0.0 c.in_err-summary.ensures.puts).0

pub returns-in_err-summary-clause-keeps : goal.returns-in_err-summary-clause-keeps
returns-in_err-summary-clause-keeps g c =
    let old = g.D.Depot.now c.args.depot.now in
    let mid = g.D.Depot.now c.compare.new.depot in
    let new = g.D.Depot.now c.put_update.new.depot in
    (holds-stopped c.args.folder.now c.in_ok-compared.compared c.in_ok-compared.ensures.placed c.in_ok-compared.ensures.names old mid c.in_ok-compared.ensures.same c.in_ok-compared.ensures.compares c.in_ok-prepared.prepared c.in_ok-prepared.ensures.prepared new c.in_ok-compared.ensures.sound c.kept.ensures c.in_err-summary.field-0.0 c.in_err-summary.ensures.puts).1

pub returns-in_err-summary-clause-moments : goal.returns-in_err-summary-clause-moments
returns-in_err-summary-clause-moments g c =
    let old = g.D.Depot.now c.args.depot.now in
    let mid = g.D.Depot.now c.compare.new.depot in
    let new = g.D.Depot.now c.put_update.new.depot in
    updates-stopped c.args.folder.now c.in_ok-compared.compared c.in_ok-compared.ensures.placed c.in_ok-compared.ensures.names old mid c.in_ok-compared.ensures.same c.in_ok-compared.ensures.compares c.in_ok-prepared.prepared c.in_ok-prepared.ensures.prepared new c.in_err-summary.field-0.0 c.in_err-summary.ensures.puts

pub returns-in_err-summary-clause-early : goal.returns-in_err-summary-clause-early
returns-in_err-summary-clause-early g c =
    λ early. absurd (put-late c.in_err-summary.field-0.0 (subst IsEarly (err-is c.from_residual-in_err-summary.result (of_put c.in_err-summary.field-0.0) c.from_residual-in_err-summary.ensures.1) early))

pub returns-in_err-summary-clause-cause : goal.returns-in_err-summary-clause-cause
returns-in_err-summary-clause-cause g c =
    let old = g.D.Depot.now c.args.depot.now in
    let mid = g.D.Depot.now c.compare.new.depot in
    let new = g.D.Depot.now c.put_update.new.depot in
    let e = c.in_err-summary.field-0.0 in
    subst (UpdateRose {T = Summary} old.faults new.faults) (sym (err-is c.from_residual-in_err-summary.result (of_put e) c.from_residual-in_err-summary.ensures.1))
    (rose-put old.faults mid.faults new.faults e c.in_ok-compared.ensures.cause c.in_err-summary.ensures.cause)

pub returns-clause-answers : goal.returns-clause-answers
returns-clause-answers g c =
    let old = g.D.Depot.now c.args.depot.now in
    let mid = g.D.Depot.now c.compare.new.depot in
    let new = g.D.Depot.now c.put_update.new.depot in
    answers-done c.args.folder.now c.in_ok-compared.compared c.in_ok-compared.ensures.placed c.in_ok-compared.ensures.names old mid c.in_ok-compared.ensures.same c.in_ok-compared.ensures.compares c.in_ok-prepared.prepared c.in_ok-prepared.ensures.prepared new c.in_ok-compared.ensures.sound c.in_ok-summary.summary c.in_ok-summary.ensures.puts

pub returns-clause-shows : goal.returns-clause-shows
returns-clause-shows g c =
    let old = g.D.Depot.now c.args.depot.now in
    let mid = g.D.Depot.now c.compare.new.depot in
    let new = g.D.Depot.now c.put_update.new.depot in
    leaves-shown c.args.folder.now c.in_ok-compared.compared c.in_ok-compared.ensures.placed c.in_ok-compared.ensures.names old mid c.in_ok-compared.ensures.same c.in_ok-compared.ensures.compares c.in_ok-prepared.prepared c.in_ok-prepared.ensures.prepared new c.in_ok-compared.ensures.sound c.kept.ensures c.in_ok-summary.summary c.in_ok-summary.ensures.puts

pub returns-clause-sound : goal.returns-clause-sound
returns-clause-sound g c =
    let old = g.D.Depot.now c.args.depot.now in
    let mid = g.D.Depot.now c.compare.new.depot in
    let new = g.D.Depot.now c.put_update.new.depot in
    leaves-sound c.args.folder.now c.in_ok-compared.compared c.in_ok-compared.ensures.placed c.in_ok-compared.ensures.names old mid c.in_ok-compared.ensures.same c.in_ok-compared.ensures.compares c.in_ok-prepared.prepared c.in_ok-prepared.ensures.prepared new c.in_ok-compared.ensures.sound c.kept.ensures c.in_ok-summary.summary c.in_ok-summary.ensures.puts

pub returns-clause-held : goal.returns-clause-held
returns-clause-held g c =
    let old = g.D.Depot.now c.args.depot.now in
    let mid = g.D.Depot.now c.compare.new.depot in
    let new = g.D.Depot.now c.put_update.new.depot in
    leaves-held c.args.folder.now c.in_ok-compared.compared c.in_ok-compared.ensures.placed c.in_ok-compared.ensures.names old mid c.in_ok-compared.ensures.same c.in_ok-compared.ensures.compares c.in_ok-prepared.prepared c.in_ok-prepared.ensures.prepared new c.in_ok-compared.ensures.sound c.kept.ensures c.in_ok-summary.summary c.in_ok-summary.ensures.puts

pub returns-clause-step : goal.returns-clause-step
returns-clause-step g c =
    let old = g.D.Depot.now c.args.depot.now in
    let mid = g.D.Depot.now c.compare.new.depot in
    let new = g.D.Depot.now c.put_update.new.depot in
    leaves-step c.args.folder.now c.in_ok-compared.compared c.in_ok-compared.ensures.placed c.in_ok-compared.ensures.names old mid c.in_ok-compared.ensures.same c.in_ok-compared.ensures.compares c.in_ok-prepared.prepared c.in_ok-prepared.ensures.prepared new c.in_ok-compared.ensures.sound c.kept.ensures c.in_ok-summary.summary c.in_ok-summary.ensures.puts

pub returns-clause-counts : goal.returns-clause-counts
returns-clause-counts g c =
    let old = g.D.Depot.now c.args.depot.now in
    let mid = g.D.Depot.now c.compare.new.depot in
    let new = g.D.Depot.now c.put_update.new.depot in
    leaves-counted c.args.folder.now c.in_ok-compared.compared c.in_ok-compared.ensures.placed c.in_ok-compared.ensures.names old mid c.in_ok-compared.ensures.same c.in_ok-compared.ensures.compares c.in_ok-prepared.prepared c.in_ok-prepared.ensures.prepared new c.in_ok-compared.ensures.sound c.kept.ensures c.in_ok-summary.summary c.in_ok-summary.ensures.puts

pub returns-clause-serves : goal.returns-clause-serves
returns-clause-serves g c =
    let old = g.D.Depot.now c.args.depot.now in
    let mid = g.D.Depot.now c.compare.new.depot in
    let new = g.D.Depot.now c.put_update.new.depot in
    (holds-done c.args.folder.now c.in_ok-compared.compared c.in_ok-compared.ensures.placed c.in_ok-compared.ensures.names old mid c.in_ok-compared.ensures.same c.in_ok-compared.ensures.compares c.in_ok-prepared.prepared c.in_ok-prepared.ensures.prepared new c.in_ok-compared.ensures.sound c.kept.ensures c.in_ok-summary.summary c.in_ok-summary.ensures.puts).0

pub returns-clause-keeps : goal.returns-clause-keeps
returns-clause-keeps g c =
    let old = g.D.Depot.now c.args.depot.now in
    let mid = g.D.Depot.now c.compare.new.depot in
    let new = g.D.Depot.now c.put_update.new.depot in
    (holds-done c.args.folder.now c.in_ok-compared.compared c.in_ok-compared.ensures.placed c.in_ok-compared.ensures.names old mid c.in_ok-compared.ensures.same c.in_ok-compared.ensures.compares c.in_ok-prepared.prepared c.in_ok-prepared.ensures.prepared new c.in_ok-compared.ensures.sound c.kept.ensures c.in_ok-summary.summary c.in_ok-summary.ensures.puts).1

pub returns-clause-moments : goal.returns-clause-moments
returns-clause-moments g c =
    let old = g.D.Depot.now c.args.depot.now in
    let mid = g.D.Depot.now c.compare.new.depot in
    let new = g.D.Depot.now c.put_update.new.depot in
    updates-done c.args.folder.now c.in_ok-compared.compared c.in_ok-compared.ensures.placed c.in_ok-compared.ensures.names old mid c.in_ok-compared.ensures.same c.in_ok-compared.ensures.compares c.in_ok-prepared.prepared c.in_ok-prepared.ensures.prepared new c.in_ok-summary.summary c.in_ok-summary.ensures.puts
