use Rattle.std.proofs.Common.{rules, Err, inl, inr}
use Rattle.addr_cli.specs.declared.refusal.Refusal.TheVariants.{NoMemory}
use Rattle.addr_cli.proofs.loading.run_load.Goals as goal

pub returns-clause-outcome : goal.returns-clause-outcome
returns-clause-outcome g c =
    let r = c.in-Some.request in
    elim c.report.ensures.prints [
      | inl prints ↦ inl (r.folder.now, r.workers, r.script.now, c.in-Some.ensures, c.load_folder-ended.result.ended, c.load_folder-ended.ensures.ends, prints)
      | inr prints ↦ inl (r.folder.now, r.workers, r.script.now, c.in-Some.ensures, Err NoMemory, tt, prints)
    ]
