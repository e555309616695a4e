use Rattle.std.proofs.Common.{subst, sym}
use Rattle.std.specs.Prelude.{IfSome, IsSomeAnd}
use Rattle.addr_build.specs.within.FromCauses.{of_put}
use Rattle.addr_build.specs.Outcomes.{Answers}
use Rattle.addr_build.proofs.BuildLemmas.{answers-done, answers-stopped, build-done, build-stopped, keeps-done, keeps-stopped, leaves-again, leaves-held, leaves-shown, leaves-sound, serves-done, serves-stopped}
use Rattle.addr_build.proofs.EndLemmas.{err-is}
use Rattle.addr_release.specs.Laws.{Keeps}
use Rattle.addr_build.specs.After.{Serves}
use Rattle.addr_build.proofs.ServeLemmas.{keeps-same, moments-same, serves-same}
use Rattle.addr_build.proofs.builder.build.Goals as goal

pub returns-in_err-summary-clause-answers : goal.returns-in_err-summary-clause-answers
returns-in_err-summary-clause-answers g c =
    let old = g.D.Depot.now c.args.depot.now in
    let mid = g.D.Depot.now c.prepare.new.depot in
    let new = g.D.Depot.now c.put_release.new.depot in
    let e = c.in_err-summary.field-0.0 in
    let made = c.in_ok-made.made in
    subst (λ r. IfSome old.files (λ o. IsSomeAnd new.files (λ n. Answers c.args.folder.now o n r))) (sym (err-is c.from_residual-in_err-summary.result (of_put e) c.from_residual-in_err-summary.ensures.1))
    (answers-stopped c.args.folder.now made.project made.placement c.in_ok-made.ensures.within old mid new c.in_ok-made.ensures.same c.in_ok-made.ensures.told e c.in_err-summary.ensures.puts)

pub returns-in_err-summary-clause-moments : goal.returns-in_err-summary-clause-moments
returns-in_err-summary-clause-moments g c =
    let old = g.D.Depot.now c.args.depot.now in
    let mid = g.D.Depot.now c.prepare.new.depot in
    let new = g.D.Depot.now c.put_release.new.depot in
    let made = c.in_ok-made.made in
    build-stopped c.args.folder.now made.project made.placement c.in_ok-made.ensures.within old mid new c.in_ok-made.ensures.same c.in_ok-made.ensures.told c.in_err-summary.field-0.0 c.in_err-summary.ensures.puts

pub returns-clause-moments : goal.returns-clause-moments
returns-clause-moments g c =
    let old = g.D.Depot.now c.args.depot.now in
    let mid = g.D.Depot.now c.prepare.new.depot in
    let new = g.D.Depot.now c.put_release.new.depot in
    let made = c.in_ok-made.made in
    build-done c.args.folder.now made.project made.placement c.in_ok-made.ensures.within old mid new c.in_ok-made.ensures.same c.in_ok-made.ensures.told c.in_ok-summary.summary c.in_ok-summary.ensures.puts

pub returns-clause-answers : goal.returns-clause-answers
returns-clause-answers g c =
    let old = g.D.Depot.now c.args.depot.now in
    let mid = g.D.Depot.now c.prepare.new.depot in
    let new = g.D.Depot.now c.put_release.new.depot in
    let made = c.in_ok-made.made in
    answers-done c.args.folder.now made.project made.placement c.in_ok-made.ensures.within old mid new c.in_ok-made.ensures.same c.in_ok-made.ensures.told c.in_ok-summary.summary c.in_ok-summary.ensures.puts

pub returns-clause-shows : goal.returns-clause-shows
returns-clause-shows g c =
    let old = g.D.Depot.now c.args.depot.now in
    let mid = g.D.Depot.now c.prepare.new.depot in
    let new = g.D.Depot.now c.put_release.new.depot in
    let made = c.in_ok-made.made in
    leaves-shown c.args.folder.now made.project made.placement c.in_ok-made.ensures.within old mid new c.in_ok-made.ensures.same c.in_ok-made.ensures.told c.kept.ensures c.in_ok-summary.summary c.in_ok-summary.ensures.puts

pub returns-clause-sound : goal.returns-clause-sound
returns-clause-sound g c =
    let old = g.D.Depot.now c.args.depot.now in
    let mid = g.D.Depot.now c.prepare.new.depot in
    let new = g.D.Depot.now c.put_release.new.depot in
    let made = c.in_ok-made.made in
    leaves-sound c.args.folder.now made.project made.placement c.in_ok-made.ensures.within old mid new c.in_ok-made.ensures.same c.in_ok-made.ensures.told c.kept.ensures c.in_ok-summary.summary c.in_ok-summary.ensures.puts

pub returns-clause-held : goal.returns-clause-held
returns-clause-held g c =
    let old = g.D.Depot.now c.args.depot.now in
    let mid = g.D.Depot.now c.prepare.new.depot in
    let new = g.D.Depot.now c.put_release.new.depot in
    let made = c.in_ok-made.made in
    leaves-held c.args.folder.now made.project made.placement c.in_ok-made.ensures.within old mid new c.in_ok-made.ensures.same c.in_ok-made.ensures.told c.kept.ensures c.in_ok-summary.summary c.in_ok-summary.ensures.puts

pub returns-clause-again : goal.returns-clause-again
returns-clause-again g c =
    let old = g.D.Depot.now c.args.depot.now in
    let mid = g.D.Depot.now c.prepare.new.depot in
    let new = g.D.Depot.now c.put_release.new.depot in
    let made = c.in_ok-made.made in
    leaves-again c.args.folder.now made.project made.placement c.in_ok-made.ensures.within old mid new c.in_ok-made.ensures.same c.in_ok-made.ensures.told c.kept.ensures c.in_ok-summary.summary c.in_ok-summary.ensures.puts

pub returns-clause-serves : goal.returns-clause-serves
returns-clause-serves g c =
    let old = g.D.Depot.now c.args.depot.now in
    let mid = g.D.Depot.now c.prepare.new.depot in
    let new = g.D.Depot.now c.put_release.new.depot in
    let made = c.in_ok-made.made in
    serves-done c.args.folder.now made.project made.placement c.in_ok-made.ensures.within old mid new c.in_ok-made.ensures.same c.in_ok-made.ensures.told c.kept.ensures c.in_ok-summary.summary c.in_ok-summary.ensures.puts

pub returns-in_err-summary-clause-serves : goal.returns-in_err-summary-clause-serves
returns-in_err-summary-clause-serves g c =
    let old = g.D.Depot.now c.args.depot.now in
    let mid = g.D.Depot.now c.prepare.new.depot in
    let new = g.D.Depot.now c.put_release.new.depot in
    let made = c.in_ok-made.made in
    serves-stopped c.args.folder.now made.project made.placement c.in_ok-made.ensures.within old mid new c.in_ok-made.ensures.same c.in_ok-made.ensures.told c.kept.ensures c.in_err-summary.field-0.0 c.in_err-summary.ensures.puts

pub returns-in_err-made-clause-serves : goal.returns-in_err-made-clause-serves
returns-in_err-made-clause-serves g c =
    moments-same (Serves c.args.folder.now) (g.D.Depot.now c.args.depot.now) (g.D.Depot.now c.prepare.new.depot) (serves-same c.args.folder.now) c.in_err-made.ensures.same

pub returns-clause-keeps : goal.returns-clause-keeps
returns-clause-keeps g c =
    let old = g.D.Depot.now c.args.depot.now in
    let mid = g.D.Depot.now c.prepare.new.depot in
    let new = g.D.Depot.now c.put_release.new.depot in
    let made = c.in_ok-made.made in
    keeps-done c.args.folder.now made.project made.placement c.in_ok-made.ensures.within old mid new c.in_ok-made.ensures.same c.in_ok-made.ensures.told c.kept.ensures c.in_ok-summary.summary c.in_ok-summary.ensures.puts

pub returns-in_err-summary-clause-keeps : goal.returns-in_err-summary-clause-keeps
returns-in_err-summary-clause-keeps g c =
    let old = g.D.Depot.now c.args.depot.now in
    let mid = g.D.Depot.now c.prepare.new.depot in
    let new = g.D.Depot.now c.put_release.new.depot in
    let made = c.in_ok-made.made in
    keeps-stopped c.args.folder.now made.project made.placement c.in_ok-made.ensures.within old mid new c.in_ok-made.ensures.same c.in_ok-made.ensures.told c.kept.ensures c.in_err-summary.field-0.0 c.in_err-summary.ensures.puts

pub returns-in_err-made-clause-keeps : goal.returns-in_err-made-clause-keeps
returns-in_err-made-clause-keeps g c =
    moments-same (Keeps c.args.folder.now) (g.D.Depot.now c.args.depot.now) (g.D.Depot.now c.prepare.new.depot) (keeps-same c.args.folder.now) c.in_err-made.ensures.same
